-- Equations within the limits of the sheet (document 01, 'The sheet').
use Rattle.std.specs.Prelude.{ℕ, ◌+◌, ◌≤◌, ◌<◌}
use Rattle.format.specs.Limits.{variable_count, max_side_nodes}
use Rattle.terms.specs.Term.{Term, Terms, var, app, nil, cons, size}
use Rattle.terms.specs.Equation.{Equation}

-- Every variable of a term, of a list of terms, is numbered below `n`.
abbrev mutual
  pub VariablesBelow : ℕ → Term → Type 0
  VariablesBelow n (var v) = v < n
  VariablesBelow n (app f ts) = AllVariablesBelow n ts

  pub AllVariablesBelow : ℕ → Terms → Type 0
  AllVariablesBelow n nil = Unit {0}
  AllVariablesBelow n (cons t ts) = VariablesBelow n t × AllVariablesBelow n ts

-- "Variables are 80 to 8b" (document 02, W9); "An equation side has at most 32 nodes".
pub record WithinLimits (e : Equation) : Type 0 where
  pub left_variables : VariablesBelow variable_count e.left
  pub right_variables : VariablesBelow variable_count e.right
  pub left_size : size e.left ≤ max_side_nodes
  pub right_size : size e.right ≤ max_side_nodes

-- The number of positions of an equation.
abbrev pub positions : Equation → ℕ
positions e = size e.left + size e.right
