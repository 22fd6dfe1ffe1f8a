-- How a piece comes about: frames that are appended to nothing.
use Rattle.std.specs.Prelude.{ℕ, ◌≤◌, ◌<◌, ◌≡◌, List, ◌++◌, length}
use Rattle.std.proofs.Common.{sym, ap, ◌∙◌, arith}
use Rattle.sheet.specs.Sheet.{Sheet}
use Rattle.sheet.specs.Reading.{accepted, read}
use Rattle.listing.specs.Listing.{printed}
use Rattle.listing.specs.ForContracts.Appended.{Appended}
use Rattle.listing.specs.Theory.Printed.{printed_append}
use Rattle.cursor.specs.declared.place.Place.{Place}
use Rattle.cursor.specs.ForContracts.Rest.{left_frames, rest, places_left, Gives}
use Rattle.cursor.specs.Theory.Rest.{Begun, rest_left}

-- A text that is appended to nothing stands first.
pub gives_text : {input before out text : List ℕ} {bytes : ℕ} {place next : Place} → rest input place ≡ text ++ rest input next → Appended before 0 text out bytes → bytes ≤ length out
    → places_left next < places_left place → Gives input place out bytes next
gives_text {input} {next = next} x a w f = record { text = x ∙ ap (◌++ rest input next) (sym a.there); within = w; falls = f }

-- Nothing is printed from one place to the next.
pub gives_nothing : {input : List ℕ} (out : List ℕ) {place next : Place} → rest input place ≡ rest input next → places_left next < places_left place → Gives input place out 0 next
gives_nothing out x f = record { text = x; within = omega arith; falls = f }

module _ {input : List ℕ} (s : Sheet) (r : read input ≡ accepted s) {place next : Place} (b : Begun place) (c : Begun next) where
  pub gives_frames : (fs : List (List ℕ)) {before out : List ℕ} {bytes : ℕ} → left_frames s place ≡ fs ++ left_frames s next → Appended before 0 (printed fs) out bytes → bytes ≤ length out
      → places_left next < places_left place → Gives input place out bytes next
  gives_frames fs x a w f =
      gives_text (rest_left input s r place b ∙ (ap printed x ∙ (printed_append fs (left_frames s next) ∙ ap (printed fs ++◌) (sym (rest_left input s r next c))))) a w f

  pub gives_none : (out : List ℕ) → left_frames s place ≡ left_frames s next → places_left next < places_left place → Gives input place out 0 next
  gives_none out x f = gives_nothing out (rest_left input s r place b ∙ (ap printed x ∙ sym (rest_left input s r next c))) f
