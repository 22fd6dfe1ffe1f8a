-- The lines that a walk ends with are proper: in a finished line one side of each inequality is a variable's position.
use Rattle.std.specs.Prelude.{ℕ, ◌≡◌, ◌⊎◌, List, [], ◌∷◌}
use Rattle.std.proofs.Common.{inl, inr}
use Rattle.terms.specs.Position.{Node, var_node}
use Rattle.terms.specs.Equation.{Equation, view}
use Rattle.terms.specs.declared.direction.Direction.{Direction}
use Rattle.terms.specs.ForContracts.Limits.{WithinLimits}
use Rattle.solving.specs.Line.{Bindings, Element, equal, greater, Line, line}
use Rattle.solving.specs.Walk.{solved, solve}
use Rattle.solving.specs.ForContracts.Seen.{Reaches, stays, goes}
use Rattle.solving.specs.Theory.Seen.{Reduced, left_variable, right_variable, bound_variable}
use Rattle.solving.proofs.Theory.Reduced.{AllReduced, Finished}
use Rattle.solving.proofs.Theory.Solve.{solved_reduced, solved_lines}
use Rattle.rules.specs.ForContracts.Lines.{VariableAt, HaveVariable, AllHaveVariable, ProperLines}

-- Only from a variable do the bindings lead on, so what leads to a variable is one.
reaches_variable : {view : ℕ → Node} {θ : Bindings} {p r v : ℕ} → Reaches view θ p r → view r ≡ var_node v → VariableAt view p
reaches_variable {v = v} (stays e) x = (v, x)
reaches_variable {view} {θ} {p} (goes {q = q} e k) x = let (w, y, l) = bound_variable θ (view p) q e in (w, y)

reduced_variable : {view : ℕ → Node} {θ : Bindings} (p q : ℕ) → Reduced view θ (greater p q) → VariableAt view p ⊎ VariableAt view q
reduced_variable p q (left_variable k x n) = inl (reaches_variable k x)
reduced_variable p q (right_variable k x l y n) = inr (reaches_variable l y)

have_variable : (view : ℕ → Node) (θ : Bindings) (es : List Element) → AllReduced view θ es → HaveVariable view es
have_variable view θ [] h = tt
have_variable view θ (equal p q ∷ es) h = elim h.0 [ ]
have_variable view θ (greater p q ∷ es) h = (reduced_variable p q h.0, have_variable view θ es h.1)

all_have_variable : (view : ℕ → Node) (ls : List Line) → Finished view ls → AllHaveVariable view ls
all_have_variable view [] h = tt
all_have_variable view (line θ es ∷ ls) h = (have_variable view θ es h.0, all_have_variable view ls h.1)

pub walked_proper : {e : Equation} → WithinLimits e → (d : Direction) {ls : List Line} {n : ℕ} → solve e d ≡ solved ls n → ProperLines e ls
walked_proper {e} w d {ls} {n} x = record { written = solved_lines e w d ls n x; irreducible = all_have_variable (view e) ls (solved_reduced e w d ls n x) }
