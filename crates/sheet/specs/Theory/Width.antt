-- The variables of an equation are below its width; within the limits they are as few as a sheet may have.
use Rattle.std.specs.Prelude.{ℕ, ◌≤◌}
use Rattle.std.proofs.Common.{arith}
use Rattle.format.specs.Limits.{variable_count}
use Rattle.terms.specs.Term.{Term, Terms, var, app, nil, cons}
use Rattle.terms.specs.Equation.{Equation}
use Rattle.terms.specs.ForContracts.Limits.{VariablesBelow, AllVariablesBelow, WithinLimits}
use Rattle.sheet.specs.Sheet.{width, widths, equation_width}

mutual
  unfolding width

  width_low : (n : ℕ) (t : Term) → VariablesBelow n t → width t ≤ n
  width_low n (var v) h = h
  width_low n (app f ts) h = widths_low n ts h

  widths_low : (n : ℕ) (ts : Terms) → AllVariablesBelow n ts → widths ts ≤ n
  widths_low n nil h = omega arith
  widths_low n (cons t ts) h = omega (arith, width_low n t h.0, widths_low n ts h.1)

pub equation_width_low : (e : Equation) → WithinLimits e → equation_width e ≤ variable_count
unfolding equation_width
equation_width_low e w = omega (arith, width_low variable_count e.left w.left_variables, width_low variable_count e.right w.right_variables)

mutual
  unfolding width

  width_below : (n : ℕ) (t : Term) → width t ≤ n → VariablesBelow n t
  width_below n (var v) l = l
  width_below n (app f ts) l = widths_below n ts l

  widths_below : (n : ℕ) (ts : Terms) → widths ts ≤ n → AllVariablesBelow n ts
  widths_below n nil l = tt
  widths_below n (cons t ts) l = (width_below n t (omega arith), widths_below n ts (omega arith))

pub equation_below : (e : Equation) (n : ℕ) → equation_width e ≤ n → VariablesBelow n e.left × VariablesBelow n e.right
unfolding equation_width
equation_below e n l = (width_below n e.left (omega arith), width_below n e.right (omega arith))
