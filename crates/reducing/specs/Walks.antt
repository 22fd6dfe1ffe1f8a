-- The walks of all directions of a sheet's equations in order (document 01, 'Who can cause a refusal').
use Rattle.std.specs.Prelude.{ℕ, suc, ◌+◌}
use Rattle.std.proofs.Math.Option.{Option, none, some}
use mathlib.Core.List.{List, [], ◌∷◌}
use Rattle.format.specs.Limits.{variable_count, first_equation_line}
use Rattle.format.specs.declared.refusal.Refusal.{Refusal}
use Rattle.terms.specs.Equation.{Equation}
use Rattle.terms.specs.declared.direction.Direction.TheVariants.{LeftRight as left_right, RightLeft as right_left}
use Rattle.solving.specs.Walk.{solved, refused, solve_with, solve}

-- 8 to 10: "The line is the equation's."
unfoldable pub equation_line : ℕ → ℕ
equation_line e = e + first_equation_line

pub record WalkRefusal : Type 0 where
  pub refusal : Refusal
  pub line : ℕ

-- With any number of variables.
module _ (variables : ℕ) where
  -- "Judge and run first walk every equation and direction in order": the first refusal of their walks, `e` the number of the first equation.
  unfoldable pub first_refusal_with : (e : ℕ) → List Equation → Option WalkRefusal
  unfolding solve_with equation_line
  first_refusal_with e [] = none
  first_refusal_with e (q ∷ qs) =
      elim (solve_with variables q left_right) [
        | refused r ↦ some (record { refusal = r; line = equation_line e })
        | solved ls n ↦ elim (solve_with variables q right_left) [ refused r ↦ some (record { refusal = r; line = equation_line e }) | solved ls' n' ↦ first_refusal_with (suc e) qs ]
      ]

-- With the sheet's number of variables.
unfoldable pub first_refusal : (e : ℕ) → List Equation → Option WalkRefusal
unfolding first_refusal_with solve
first_refusal = first_refusal_with variable_count
