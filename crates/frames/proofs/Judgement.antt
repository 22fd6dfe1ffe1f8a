-- The two forms of a judgement's frame.
use Prim.Native.Nat.{ℕ, zero, suc, ◌<◌}
use mathlib.Core.Path.{◌≡◌, refl, sym, ap, subst, ◌∙◌}
use mathlib.Core.List.{[], ◌∷◌}
use native.Mathlib.Omega.{arith}
use Rattle.std.specs.Prelude.{Option as Maybe, Some, None}
use Rattle.solving.specs.ForContracts.Told.{LineTold}
use Rattle.listing.specs.Listing.{judgement_kind, judgement_frame}

some_line : (line : ℕ) → 0 < line → judgement_kind ∷ 1 ∷ line ∷ [] ≡ judgement_frame line
unfolding judgement_frame
some_line zero low = absurd (omega arith)
some_line (suc line) low = refl

module _ {told : Maybe ℕ} (n : ℕ) (is : LineTold told n) where
  pub no_frame : told ≡ None → judgement_kind ∷ 0 ∷ 0 ∷ [] ≡ judgement_frame n
  unfolding judgement_frame
  no_frame x = ap judgement_frame (sym (subst (λ r. LineTold r n) x is))

  pub yes_frame : {line : ℕ} → told ≡ Some line → judgement_kind ∷ 1 ∷ line ∷ [] ≡ judgement_frame n
  yes_frame {line} x = let (low, same) = subst (λ r. LineTold r n) x is in some_line line low ∙ ap judgement_frame (sym same)
