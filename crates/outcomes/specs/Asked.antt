-- What a call asks for, or the refusal that it earns before any walk (document 01, 'Who can cause a refusal').
use Rattle.std.specs.Prelude.{ℕ, Bool, true, false, List}
use Rattle.std.proofs.Math.Option.{Option, none, some}
use Rattle.format.specs.declared.refusal.Refusal.TheVariants.{ShortBuffer as short_buffer, AbsentArgument as absent_argument}
use Rattle.format.specs.Lists.{entry}
use Rattle.terms.specs.Term.{Term, Values}
use Rattle.terms.specs.Equation.{Equation, direction_of}
use Rattle.terms.specs.declared.direction.Direction.{Direction}
use Rattle.terms.specs.Filling.{filling}
use Rattle.sheet.specs.Sheet.{Task, run, judgement, comparison, Sheet}
use Rattle.sheet.specs.Reading.{Reading, refused_at, accepted, read}
use Rattle.reducing.specs.Test.{given_values}

-- "12, no such equation, direction or task, or the task is of another kind (line 0)."
unfoldable pub found : {A : Type 0} → Option A → Reading A
found none = refused_at absent_argument 0
found (some a) = accepted a

unfoldable pub find : {A : Type 0} → (Sheet → Option A) → Reading Sheet → Reading A
unfolding found
find look (refused_at r line) = refused_at r line
find look (accepted s) = found (look s)

-- "Order: 11; 1; then line by line 2, 3, ...; then 12". `look` finds what the call asks for in the sheet.
unfoldable pub asked : {A : Type 0} → (long_enough : Bool) → (sheet : List ℕ) → (look : Sheet → Option A) → Reading A
unfolding find read
-- "11, a lent buffer is too short (line 0)."
asked false sheet look = refused_at short_buffer 0
asked true sheet look = find look (read sheet)

-- Compare asks for a task of two terms.
pub record Pair : Type 0 where
  pub first : Term
  pub second : Term

unfoldable pub comparison_in : Option Task → Option Pair
comparison_in none = none
comparison_in (some (run k s)) = none
comparison_in (some (judgement e d ts)) = none
comparison_in (some (comparison s t)) = some (record { first = s; second = t })

unfoldable pub comparison_task : (task : ℕ) → Sheet → Option Pair
unfolding comparison_in entry
comparison_task task s = comparison_in (entry s.tasks task)

-- Solve and always ask for an equation in a direction.
pub record Directed : Type 0 where
  pub equation : Equation
  pub direction : Direction

unfoldable pub directed_in : Option Equation → Option Direction → Option Directed
directed_in none d = none
directed_in (some e) none = none
directed_in (some e) (some d) = some (record { equation = e; direction = d })

unfoldable pub direction_asked : (equation direction : ℕ) → Sheet → Option Directed
unfolding directed_in entry direction_of
direction_asked e d s = directed_in (entry s.equations e) (direction_of d)

-- Judge asks for a task of an equation, a direction and values, over all equations of the sheet.
pub record Judgement : Type 0 where
  pub equations : List Equation
  pub equation : Equation
  pub direction : Direction
  pub values : Values

unfoldable pub values_in : List Equation → Option Equation → Direction → Values → Option Judgement
values_in es none d ρ = none
values_in es (some e) d ρ = some (record { equations = es; equation = e; direction = d; values = ρ })

unfoldable pub judgement_in : List Equation → Option Task → Option Judgement
unfolding values_in entry given_values
judgement_in es none = none
judgement_in es (some (run k s)) = none
judgement_in es (some (judgement e d ts)) = values_in es (entry es e) d (given_values ts)
judgement_in es (some (comparison s t)) = none

unfoldable pub judgement_task : (task : ℕ) → Sheet → Option Judgement
unfolding judgement_in entry
judgement_task task s = judgement_in s.equations (entry s.tasks task)

-- Run asks for a task of a step limit and a subject, over all equations of the sheet, with the sheet's filling (document 02, W5).
pub record Reduction : Type 0 where
  pub filling : Term
  pub equations : List Equation
  pub limit : ℕ
  pub subject : Term

unfoldable pub reduction_in : (filling : Term) → List Equation → Option Task → Option Reduction
reduction_in constant es none = none
reduction_in constant es (some (run k s)) = some (record { filling = constant; equations = es; limit = k; subject = s })
reduction_in constant es (some (judgement e d ts)) = none
reduction_in constant es (some (comparison s t)) = none

unfoldable pub reduction_task : (task : ℕ) → Sheet → Option Reduction
unfolding reduction_in entry filling
reduction_task task s = reduction_in (filling s.arities) s.equations (entry s.tasks task)
