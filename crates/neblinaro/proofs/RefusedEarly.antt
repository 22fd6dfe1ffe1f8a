-- What a call earns before it looks for what it asks for, it earns whatever that is.
use Prim.Native.Nat.{ℕ, ◌≤◌}
use mathlib.Core.Path.{◌≡◌, ap, ◌∙◌}
use mathlib.Core.Bool.{Bool, true, false}
use mathlib.Core.Option.{Option, some}
use mathlib.Core.List.{List}
use native.Mathlib.Omega.{arith}
use Rattle.std.specs.Prelude.{Result, Ok, Err}
use Rattle.format.specs.Limits.{max_text}
use Rattle.format.specs.declared.refusal.Refusal.{Refusal}
use Rattle.format.specs.declared.refusal.Refusal.TheVariants.{ShortBuffer as short_buffer}
use Rattle.scanning.specs.declared.known.Known.{Known}
use Rattle.reading.specs.declared.read.RefusedAt.{RefusedAt}
use Rattle.reading.specs.ForContracts.Read.{SheetRead}
use Rattle.neblinaro.specs.ForContracts.Entry.{EntersAs}
use Rattle.sheet.specs.Sheet.{Sheet}
use Rattle.sheet.specs.Reading.{Reading, refused_at, accepted, read}
use Rattle.outcomes.specs.Asked.{found, find, asked}

module _ {A : Type 0} (look : Sheet → Option A) {why : Refusal} {line : ℕ} where
  find_refused : (r : Reading Sheet) → find some r ≡ refused_at why line → find look r ≡ refused_at why line
  unfolding find found
  find_refused (refused_at x l) e = cc
  find_refused (accepted s) e = cc

  pub asked_refused : (b : Bool) (sheet : List ℕ) → asked b sheet some ≡ refused_at why line → asked b sheet look ≡ refused_at why line
  unfolding asked
  asked_refused false sheet e = cc
  asked_refused true sheet e = find_refused (read sheet) e

-- A call that asks for nothing more than the sheet.
pub sheet_entered : (sheet : List ℕ) (b : Bool) → b ≡ true → (r : Result Known RefusedAt) → SheetRead sheet r → EntersAs sheet b r
unfolding asked find
sheet_entered sheet b e (Ok known) h = (e, h)
sheet_entered sheet b e (Err refused) h = (ap (λ b. asked b sheet some) e ∙ ap (find some) h.0, h.1)

pub short_entered : (sheet : List ℕ) (b : Bool) → b ≡ false → (asked b sheet some ≡ refused_at short_buffer 0) × (0 ≤ max_text)
unfolding asked
short_entered sheet b e = (ap (λ b. asked b sheet some) e, omega arith)
