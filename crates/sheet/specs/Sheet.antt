-- What an accepted sheet says (document 01, 'The sheet').
use Rattle.std.specs.Prelude.{ℕ, suc, max, List}
use Rattle.terms.specs.Term.{Term, Terms, var, app, nil, cons}
use Rattle.terms.specs.Equation.{Equation}
use Rattle.terms.specs.declared.direction.Direction.{Direction}

pub data Task : Type 0 where
  -- "03: a run: step limit k (00 to ff), a ground term."
  run : (limit : ℕ) → (subject : Term) → Task
  -- "04: a judgement: equation number, direction (00 or 01), then ground values for variables 80 up to the highest of that equation"
  judgement : (equation : ℕ) → Direction → (values : Terms) → Task
  -- "05: two ground terms to compare."
  comparison : (s t : Term) → Task

-- "Equations and tasks are numbered from 00."
pub record Sheet : Type 0 where
  pub arities : List ℕ
  pub equations : List Equation
  pub tasks : List Task

-- How many variables there are "up to the highest" of a term.
unfoldable mutual
  pub width : Term → ℕ
  width (var v) = suc v
  width (app f ts) = widths ts

  pub widths : Terms → ℕ
  widths nil = 0
  widths (cons t ts) = max (width t) (widths ts)

unfoldable pub equation_width : Equation → ℕ
unfolding width
equation_width e = max (width e.left) (width e.right)
