-- What the two searches go by.
use Prim.Native.Nat.{ℕ}
use mathlib.Core.Path.{◌≡◌, subst}
use mathlib.Core.Bool.{Bool, true, false}
use mathlib.Core.List.{List}
use Rattle.terms.specs.Term.{Term}
use Rattle.terms.specs.Equation.{Equation}
use Rattle.rules.specs.ForContracts.Walks.{LinesReady}
use Rattle.step_by_position.specs.ForContracts.Next.{SearchIs}
use Rattle.step_by_rule.specs.ForContracts.Rulewise.{AllSolve}
use Rattle.step_search.specs.ForContracts.Seeking.{RunIs}

module _ {equations lengths : List ℕ} {rules : ℕ} {bounds next : List ℕ} {fits : Bool} {table nodes sizes : List ℕ} {n : ℕ} {arities : List ℕ} {es : List Equation} {subject : Term}
    (is : RunIs equations lengths rules bounds next fits table nodes sizes n arities es subject) where
  lines_as : {b : Bool} → fits ≡ b → LinesReady b bounds table es
  lines_as h = subst (λ b. LinesReady b bounds table es) h is.ready.lines

  pub by_positions : fits ≡ true → SearchIs equations lengths rules bounds next table nodes sizes arities es subject
  by_positions h = record {
    rules_are = record { rows = is.rows; counted = is.counted; bounds_length = is.ready.bounds_length; kept = lines_as h };
    next_is = is.ready.next_is h;
    subject_is = is.subject_is;
  }

  pub by_rules : fits ≡ false → AllSolve equations lengths rules nodes sizes n arities es subject
  by_rules h = record { rows = is.rows; counted = is.counted; solve = lines_as h; subject_is = is.subject_is; size_is = is.size_is }
