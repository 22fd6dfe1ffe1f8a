-- An equation whose variables are numbered below `few`, within the limit of a side: what every equation of a sheet is that is accepted with `few` variables (Theory/Sheet).
use Rattle.std.specs.Prelude.{ℕ, ◌≤◌}
use Rattle.format.specs.Limits.{max_side_nodes}
use Rattle.terms.specs.Term.{size}
use Rattle.terms.specs.Equation.{Equation}
use Rattle.terms.specs.ForContracts.Limits.{VariablesBelow}

pub record Few (few : ℕ) (e : Equation) : Type 0 where
  pub left_variables : VariablesBelow few e.left
  pub right_variables : VariablesBelow few e.right
  pub left_size : size e.left ≤ max_side_nodes
  pub right_size : size e.right ≤ max_side_nodes
