-- The frames of a task as they are printed.
use Rattle.std.specs.Prelude.{ℕ, ◌≤◌, ◌<◌, ◌≡◌, Bool, List, length}
use Rattle.format.specs.Limits.{max_steps}
use Rattle.terms.specs.Term.{Terms, count}
use Rattle.terms.specs.Filling.{filling}
use Rattle.terms.specs.Equation.{Equation}
use Rattle.terms.specs.declared.direction.Direction.{Direction}
use Rattle.sheet.specs.Sheet.{Task, Sheet, equation_width}
use Rattle.scanning.specs.declared.known.Known.{Known}
use Rattle.scanning.specs.ForContracts.Scan.{known_arities}
use Rattle.scanning.specs.ForContracts.Known.{Roomy}
use Rattle.reading.specs.ForContracts.Loading.{TermsIn}
use Rattle.solving.specs.Walk.{Solves}
use Rattle.rules.specs.ForContracts.Rows.{RuleIs}
use Rattle.listing.specs.Listing.{printed, task_frames}
use Rattle.listing.specs.ForContracts.Appended.{Appended}
use Rattle.cursor.specs.ForContracts.Stands.{Ready}
use Rattle.cursor.specs.Theory.Rest.{task_steps}
use Rattle.tasks.specs.declared.task.TaskListed.{TaskListed}

-- The frames of a task are printed, and the steps of a run are counted.
pub record TaskGiven (arities : List ℕ) (es : List Equation) (t : Task) (before after : List ℕ) (r : TaskListed) : Type 0 where
  pub appended : Appended before 0 (printed (task_frames (filling arities) es t)) after r.bytes
  pub steps_are : r.steps ≡ task_steps (filling arities) es t
  pub few_steps : r.steps ≤ max_steps
  pub within : r.bytes ≤ length after

-- A task of a sheet that is listed.
pub record HasTask (sheet : List ℕ) (known : Known) (task : ℕ) (equations lengths bounds : List ℕ) (fits : Bool) (table : List ℕ) : Type 0 where
  pub content : Sheet
  pub ready : Ready sheet known fits equations lengths bounds table content
  pub low : task < length content.tasks

-- A judgement of a rule that solves, and its values.
module _ (sheet : List ℕ) (known : Known) (from end : ℕ) (equations lengths : List ℕ) (rule : ℕ) where
  pub record JudgementAt (i : ℕ) (e : Equation) (d : Direction) (ts : Terms) : Type 0 where
    pub rule_is : RuleIs equations lengths (known_arities known) rule i e d
    pub solves : Solves e d
    pub terms_in : TermsIn sheet (known_arities known) from end ts
    pub one_each : count ts ≡ equation_width e
    pub roomy : Roomy known

  pub record HasJudgementAt : Type 0 where
    pub number : ℕ
    pub equation : Equation
    pub direction : Direction
    pub terms : Terms
    pub are : JudgementAt number equation direction terms
