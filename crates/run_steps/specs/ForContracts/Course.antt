-- A run as the code has it.
use Rattle.std.specs.Prelude.{ℕ, ◌≡◌, List, length}
use Rattle.format.specs.Buffer.{written}
use Rattle.terms.specs.Term.{Term, size}
use Rattle.terms.specs.Filling.{filling}
use Rattle.terms.specs.Equation.{Equation}
use Rattle.terms.specs.ForContracts.Stored.{SubjectIs}
use Rattle.reducing.specs.Run.{Run, last_term}
use Rattle.reducing.specs.Test.{line_run}
use Rattle.outcomes.specs.Outcome.{log_of}
use Rattle.run_steps.specs.declared.course.Course.{Course}

-- The steps, the ending and the last term are those of the definition, and the steps are logged.
module _ (arities : List ℕ) (es : List Equation) (k : ℕ) (subject : Term) where
  abbrev pub the_run : Run
  the_run = line_run (filling arities) es k subject

  abbrev pub last_of : Term
  last_of = last_term subject the_run.steps

  pub record CourseIs (log log_after : List ℕ) (c : Course) : Type 0 where
    pub steps_are : c.steps ≡ length the_run.steps
    pub ending_is : c.ending ≡ the_run.ending
    pub size_is : c.size ≡ size last_of
    pub sizes : List ℕ
    pub last_is : SubjectIs c.nodes sizes arities last_of
    pub logged : log_after ≡ written (log_of the_run.steps) log
