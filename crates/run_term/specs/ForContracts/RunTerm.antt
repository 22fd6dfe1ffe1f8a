-- The run of a task's term: what it starts from, and what it gives.
use Rattle.std.specs.Prelude.{ℕ, ◌≤◌, ◌≡◌, Bool, List, length}
use Rattle.format.specs.Limits.{max_task_nodes, max_steps}
use Rattle.format.specs.Buffer.{written}
use Rattle.terms.specs.Term.{Term, nil, cons, size}
use Rattle.terms.specs.Prefix.{prefix}
use Rattle.terms.specs.Equation.{Equation}
use Rattle.scanning.specs.declared.known.Known.{Known}
use Rattle.scanning.specs.ForContracts.Scan.{known_arities}
use Rattle.scanning.specs.ForContracts.Known.{Roomy}
use Rattle.reading.specs.ForContracts.Loading.{TermsIn}
use Rattle.reducing.specs.Run.{ending_number}
use Rattle.outcomes.specs.Buffer.{fields}
use Rattle.outcomes.specs.Outcome.{log_of}
use Rattle.rules.specs.ForContracts.Rows.{RowsAre, bound_count}
use Rattle.rules.specs.ForContracts.Walks.{LinesReady}
use Rattle.run_steps.specs.declared.course.Course.{Course}
use Rattle.run_steps.specs.ForContracts.Course.{the_run, last_of}

-- The term of a run, and the equations in their rows.
module _ (sheet : List ℕ) (known : Known) (from end : ℕ) (equations lengths bounds : List ℕ) where
  pub record RunTermIs (es : List Equation) (subject : Term) : Type 0 where
    pub rows : RowsAre equations lengths (known_arities known) es
    pub counted : known.equations ≡ length es
    pub bounds_length : length bounds ≡ bound_count
    pub term_in : TermsIn sheet (known_arities known) from end (cons subject nil)
    pub roomy : Roomy known

  pub record HasRunTerm (fits : Bool) (table : List ℕ) : Type 0 where
    pub those : List Equation
    pub subject : Term
    pub is : RunTermIs those subject
    pub ready : LinesReady fits bounds table those

-- The steps, the ending and the last term are those of the definition; "term and log hold the result first, the rest unchanged".
pub record RunCourse (arities : List ℕ) (es : List Equation) (k : ℕ) (subject : Term) (term term_after log log_after : List ℕ) (c : Course) : Type 0 where
  pub steps_are : c.steps ≡ length (the_run arities es k subject).steps
  pub few_steps : k ≤ max_steps → c.steps ≤ max_steps
  pub ending_is : c.ending ≡ (the_run arities es k subject).ending
  pub size_is : c.size ≡ size (last_of arities es k subject)
  pub small : c.size ≤ max_task_nodes
  pub term_is : term_after ≡ written (prefix (last_of arities es k subject)) term
  pub log_is : log_after ≡ written (log_of (the_run arities es k subject).steps) log

-- "steps, ending, bytes of the term"; "term and log hold the result first, the rest unchanged".
pub record Ran (arities : List ℕ) (es : List Equation) (k : ℕ) (subject : Term) (term term_after log log_after : List ℕ) (r : ℕ) : Type 0 where
  pub returned : r ≡ fields (length (the_run arities es k subject).steps) (ending_number (the_run arities es k subject).ending) (size (last_of arities es k subject))
  pub term_is : term_after ≡ written (prefix (last_of arities es k subject)) term
  pub log_is : log_after ≡ written (log_of (the_run arities es k subject).steps) log
