-- A sheet that uses only the first variables prints the same with more (document 02, W9).
use Rattle.std.specs.Prelude.{ℕ, ◌+◌, ◌-◌, ◌≤◌, ◌<◌, ◌≡◌, List}
use Rattle.std.proofs.Math.Path.{ap}
use Rattle.std.proofs.Common.{◌∙◌, inl, inr, arith}
use Rattle.format.specs.Limits.{variable_count}
use Rattle.format.specs.declared.refusal.Refusal.TheVariants.{FrameBytes as frame_bytes}
use Rattle.sheet.specs.Reading.{refused_at, read_with}
use Rattle.listing.specs.Listing.{printed, frames_with, listing_with, listing}
use Rattle.twelve_variables.specs.Uses.{UsesOld}
use Rattle.twelve_variables.proofs.Theory.Reading.{ReadAlike, reads_alike}
use Rattle.twelve_variables.specs.Theory.Sheet.{read_few}
use Rattle.twelve_variables.specs.Theory.Frames.{frames_same}

-- Any number of variables but none, and any number more.
module _ (few extra : ℕ) (positive : 0 < few) (text : List ℕ) where
  -- A text that is read alike prints alike.
  alike_listed : read_with (few + extra) text ≡ read_with few text → listing_with (few + extra) text ≡ listing_with few text
  unfolding listing_with
  alike_listed e = ap (λ r. printed (frames_with (few + extra) r)) e ∙ ap printed (frames_same few extra positive (read_with few text) (read_few few positive text))

  -- A text that uses only the first `few` variables prints the same with more, the frame of a refusal too, 8 to 10 included.
  -- Not covered is a text with one of the other variables at a node: with `few` it is refused as 5 there, if not for something before.
  pub listing_same : UsesOld few extra text → listing_with (few + extra) text ≡ listing_with few text
  listing_same uses = go (reads_alike few extra text)
    where
      go : ReadAlike few extra (UsesOld few extra text) (read_with few text) (read_with (few + extra) text) → listing_with (few + extra) text ≡ listing_with few text
      go (inl e) = absurd (e.2 uses)
      go (inr e) = alike_listed e

  -- So does every text that is not refused as 5 with `few`: every sheet that is accepted, and every text refused otherwise, whatever its bytes.
  pub listing_kept : ((n : ℕ) → read_with few text ≡ refused_at frame_bytes n → ⊥) → listing_with (few + extra) text ≡ listing_with few text
  listing_kept h = go (reads_alike few extra text)
    where
      go : ReadAlike few extra (UsesOld few extra text) (read_with few text) (read_with (few + extra) text) → listing_with (few + extra) text ≡ listing_with few text
      go (inl e) = absurd (h e.0 e.1)
      go (inr e) = alike_listed e

-- What the program prints, compared with what it would print with fewer variables.
module _ (few : ℕ) (positive : 0 < few) (fewer : few ≤ variable_count) (text : List ℕ) where
  with_the_rest : variable_count ≡ few + (variable_count - few)
  with_the_rest = omega arith

  pub prints_as_with : UsesOld few (variable_count - few) text → listing text ≡ listing_with few text
  unfolding listing
  prints_as_with uses = ap (λ n. listing_with n text) with_the_rest ∙ listing_same few (variable_count - few) positive text uses

  pub keeps_as_with : ((n : ℕ) → read_with few text ≡ refused_at frame_bytes n → ⊥) → listing text ≡ listing_with few text
  unfolding listing
  keeps_as_with h = ap (λ n. listing_with n text) with_the_rest ∙ listing_kept few (variable_count - few) positive text h

-- "A sheet that uses only 80 to 87 .. prints as before": with twelve variables the listing that it printed with eight.
pub twelve_as_eight : (text : List ℕ) → UsesOld 8 4 text → listing text ≡ listing_with 8 text
twelve_as_eight text = prints_as_with 8 (omega arith) (omega arith) text

-- So does every text that eight did not refuse as 5: every sheet that was accepted, and every text refused otherwise.
pub twelve_keeps : (text : List ℕ) → ((n : ℕ) → read_with 8 text ≡ refused_at frame_bytes n → ⊥) → listing text ≡ listing_with 8 text
twelve_keeps text = keeps_as_with 8 (omega arith) (omega arith) text
