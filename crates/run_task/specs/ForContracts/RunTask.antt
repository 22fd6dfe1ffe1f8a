-- The tasks of an accepted sheet that run answers.
use Rattle.std.specs.Prelude.{ℕ, ◌≡◌, Bool, List, Result, Ok, Err}
use Rattle.terms.specs.Term.{Term}
use Rattle.terms.specs.Equation.{Equation}
use Rattle.sheet.specs.Sheet.{run}
use Rattle.reducing.specs.Walks.{equation_line}
use Rattle.scanning.specs.declared.known.Known.{Known}
use Rattle.reading.specs.ForContracts.Seek.{Accepts, TaskIn, Spans, task_terms}
use Rattle.outcomes.specs.Buffer.{refusal_number}
use Rattle.rules.specs.declared.walks.RefusedWalk.{RefusedWalk}
use Rattle.run_term.specs.ForContracts.RunTerm.{Ran}

-- The run, or the refusal of a walk, which leaves term and log as they are.
abbrev pub RanAs : Result Bool RefusedWalk → (arities : List ℕ) (es : List Equation) (k : ℕ) (subject : Term) (term term_after log log_after : List ℕ) (r : ℕ) → Type 0
RanAs (Err stopped) arities es k subject term term_after log log_after r =
    (r ≡ refusal_number stopped.why (equation_line stopped.equation)) × (term_after ≡ term) × (log_after ≡ log)
RanAs (Ok fits) arities es k subject term term_after log log_after r = Ran arities es k subject term term_after log log_after r

-- Task `task` is a run with this step limit, and the digits from `from` to `end` write its term.
module _ (sheet : List ℕ) (known : Known) (limit from end : ℕ) where
  pub record ReductionIn (task : ℕ) : Type 0 where
    pub accepts : Accepts sheet known
    pub subject : Term
    pub is_task : TaskIn sheet task (run limit subject)
    pub spans : Spans sheet from end (task_terms (run limit subject))

  pub record HasReduction : Type 0 where
    pub task : ℕ
    pub is : ReductionIn task
