-- The answer as the code gives it.
use Rattle.std.specs.Prelude.{ℕ, List, Result, Ok, Err}
use Rattle.format.specs.declared.refusal.Refusal.{Refusal}
use Rattle.solving.specs.Walk.{enough}
use Rattle.solving.specs.Always.{always_walk, Answered, answered, unanswered, answer_of}
use Rattle.bindings.specs.ForContracts.PrefixForm.{view_of}
use Rattle.solve_equation.specs.declared.decide.Answer.{Answer}

unfoldable pub answered_as : Result Answer Refusal → Answered
answered_as (Ok d) = answered d.yes d.turns
answered_as (Err r) = unanswered r

-- The answer for source > target as it is defined, over an equation's bytes and sizes.
abbrev pub decided : (nodes sizes : List ℕ) (source target : ℕ) → Answered
decided nodes sizes source target = answer_of (always_walk enough (view_of nodes sizes) source target)
