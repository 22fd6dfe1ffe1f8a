-- The lines of all rules, as they are kept.
use Rattle.std.specs.Prelude.{ℕ, ◌≡◌, refl, Bool, true, false, List}
use Rattle.std.proofs.Common.{sym, subst}
use Rattle.terms.specs.Equation.{Equation}
use Rattle.rules.specs.ForContracts.Walks.{LinesReady}

-- Lines that are kept for all runs stay; else every rule is walked anew.
pub lines_stay : (fits : Bool) (bounds : List ℕ) (es : List Equation) {table after : List ℕ} → (fits ≡ true → after ≡ table) → LinesReady fits bounds table es → LinesReady fits bounds after es
lines_stay true bounds es h l = subst (λ t. LinesReady true bounds t es) (sym (h refl)) l
lines_stay false bounds es h l = l
