-- Laws for the call run: what it earns, by the walks and by the task that is found.
use Prim.Native.Nat.{ℕ, ◌+◌, ◌≤◌, ◌<◌}
use mathlib.Core.Path.{◌≡◌, refl, sym, ap, subst, ◌∙◌}
use mathlib.Core.Bool.{Bool, true, false}
use mathlib.Core.Option.{Option, none, some}
use mathlib.Core.List.{List, append-nil}
use lib.ListN.{length, drop}
use native.Mathlib.Omega.{arith}
use Rattle.format.specs.Limits.{max_equations, max_steps, max_text, scratch_bytes}
use Rattle.format.specs.Lists.{entry}
use Rattle.format.specs.Theory.Lists.{entry_none, every_entry}
use Rattle.format.specs.Theory.Behind.{behind_more}
use Rattle.format.specs.declared.refusal.Refusal.TheVariants.{AbsentArgument as absent_argument}
use Rattle.terms.specs.Term.{Term, nil, cons, size, Ground}
use Rattle.terms.specs.Equation.{Equation}
use Rattle.terms.specs.Filling.{filling}
use Rattle.terms.specs.Prefix.{prefix}
use Rattle.sheet.specs.Sheet.{Task, run, judgement, comparison, Sheet}
use Rattle.sheet.specs.Reading.{accepted, read}
use Rattle.sheet.specs.ForContracts.Valid.{ValidTask}
use Rattle.sheet.specs.Theory.Accepted.{accepted_valid}
use Rattle.scanning.specs.declared.known.Known.{Known}
use Rattle.scanning.specs.ForContracts.Scan.{known_arities}
use Rattle.reading.specs.declared.seek.TaskFound.{TaskFound}
use Rattle.reading.specs.declared.seek.TaskHead.TheVariants.{Run}
use Rattle.reading.specs.ForContracts.Seek.{Accepts, TaskIn, TaskAt, Spans, task_head, task_terms}
use Rattle.reading.specs.Theory.Found.{task_asked, is_run}
use Rattle.reducing.specs.Run.{ending_number}
use Rattle.reducing.specs.Walks.{equation_line, first_refusal}
use Rattle.reading.specs.ForContracts.Loading.{TermsIn}
use Rattle.outcomes.specs.Buffer.{fields, refusal_number, cleared, blanked}
use Rattle.outcomes.specs.Asked.{found, find, asked, reduction_in, reduction_task}
use Rattle.reducing.specs.Theory.Walks.{refusal_low}
use Rattle.outcomes.specs.Outcome.{RunOutcome, run_done, run_walked, run_answer}
use Rattle.outcomes.specs.Theory.Outcomes.{run_outcome}
use Rattle.walking.specs.ForContracts.Walking.{memory_bytes}
use Rattle.rules.specs.declared.walks.RefusedWalk.{RefusedWalk}
use Rattle.std.specs.Prelude.{Result, Ok, Err}
use Rattle.rules.specs.ForContracts.Rows.{RowsAre, bound_count}
use Rattle.rules.specs.ForContracts.Walks.{WalksAs, LinesReady}
use Rattle.run_steps.specs.declared.course.Course.{Course}
use Rattle.run_steps.specs.ForContracts.Course.{the_run}
use Rattle.run_term.specs.ForContracts.RunTerm.{RunTermIs, HasRunTerm, RunCourse, Ran}
use Rattle.run_task.specs.ForContracts.RunTask.{RanAs, ReductionIn}

-- 1. The walks.
module _ (es : List Equation) (bounds table : List ℕ) {walked : Result Bool RefusedWalk} (w : WalksAs es bounds table walked) where
  equation_low : {stopped : RefusedWalk} → length es ≤ max_equations → walked ≡ Err stopped → stopped.equation < max_equations
  unfolding equation_line
  equation_low {stopped} few e =
      omega (arith, few, refusal_low 0 es (record { refusal = stopped.why; line = equation_line stopped.equation }) (subst (WalksAs es bounds table) e w))

  lines_ready : (fits : Bool) → walked ≡ Ok fits → LinesReady fits bounds table es
  lines_ready true e = (subst (WalksAs es bounds table) e w).2
  lines_ready false e = (subst (WalksAs es bounds table) e w).1

-- The run of a term, and the number that is made of it.
pub number_ran : {arities : List ℕ} {es : List Equation} {k : ℕ} {subject : Term} {term term_after term_now log log_after log_now : List ℕ} {c : Course} {r : ℕ}
    → RunCourse arities es k subject term term_after log log_after c → term_now ≡ term_after → log_now ≡ log_after → r ≡ fields c.steps (ending_number c.ending) c.size
    → Ran arities es k subject term term_now log log_now r
number_ran {arities} {es} {k} {subject} {c = c} i t l z = record {
  returned =
      z
      ∙ ap (λ s. fields s (ending_number c.ending) c.size) i.steps_are
      ∙ ap (λ m. fields (length (the_run arities es k subject).steps) m c.size) (ap ending_number i.ending_is)
      ∙ ap (λ m. fields (length (the_run arities es k subject).steps) (ending_number (the_run arities es k subject).ending) m) i.size_is;
  term_is = t ∙ i.term_is;
  log_is = l ∙ i.log_is;
}

pub ran_as : {walked : Result Bool RefusedWalk} {fits : Bool} {arities : List ℕ} {es : List Equation} {k : ℕ} {subject : Term} {term term_after log log_after : List ℕ} {r : ℕ}
    → walked ≡ Ok fits → Ran arities es k subject term term_after log log_after r → RanAs walked arities es k subject term term_after log log_after r
ran_as {arities = arities} {es} {k} {subject} {term} {term_after} {log} {log_after} {r} e d = subst (λ w. RanAs w arities es k subject term term_after log log_after r) (sym e) d

pub refused_as : {walked : Result Bool RefusedWalk} {stopped : RefusedWalk} (arities : List ℕ) (es : List Equation) (k : ℕ) (subject : Term) {term term_now log log_now : List ℕ} {r : ℕ}
    → walked ≡ Err stopped → term_now ≡ term → log_now ≡ log → r ≡ refusal_number stopped.why (stopped.equation + 2) → RanAs walked arities es k subject term term_now log log_now r
unfolding equation_line
refused_as arities es k subject {term} {term_now} {log} {log_now} {r} e t l x = subst (λ w. RanAs w arities es k subject term term_now log log_now r) (sym e) (x, t, l)

pub scratch_behind : (scratch kept worked : List ℕ) → drop memory_bytes kept ≡ drop memory_bytes scratch → drop scratch_bytes worked ≡ drop scratch_bytes kept → drop scratch_bytes worked ≡ drop scratch_bytes scratch
scratch_behind scratch kept worked g h = h ∙ behind_more scratch_bytes memory_bytes kept scratch (omega arith) g

module _ (table scratch term log : List ℕ) (k : ℕ) (subject : Term) {r : ℕ} {blank clear term_after log_after : List ℕ} (b : blank ≡ blanked table) (c : clear ≡ cleared scratch) where
  left_as : (n : ℕ) (t l : List ℕ) → r ≡ n → term_after ≡ t → log_after ≡ l → run_outcome n (blanked table) (cleared scratch) t l ≡ run_outcome r blank clear term_after log_after
  left_as n t l x y z =
      ap (λ n. run_outcome n (blanked table) (cleared scratch) t l) (sym x)
      ∙ ap (λ b. run_outcome r b (cleared scratch) t l) (sym b)
      ∙ ap (λ c. run_outcome r blank c t l) (sym c)
      ∙ ap (λ t. run_outcome r blank clear t l) (sym y)
      ∙ ap (run_outcome r blank clear term_after) (sym z)

  ran_outcome : (arities : List ℕ) (es : List Equation) → first_refusal 0 es ≡ none → Ran arities es k subject term term_after log log_after r
      → run_walked table scratch term log (record { filling = filling arities; equations = es; limit = k; subject = subject }) (first_refusal 0 es) ≡ run_outcome r blank clear term_after log_after
  unfolding run_walked run_done
  ran_outcome arities es e d = ap (run_walked table scratch term log (record { filling = filling arities; equations = es; limit = k; subject = subject })) e ∙ left_as _ _ _ d.returned d.term_is d.log_is

  walked_outcome : (walked : Result Bool RefusedWalk) (arities : List ℕ) (es : List Equation) (bounds kept : List ℕ) → WalksAs es bounds kept walked → RanAs walked arities es k subject term term_after log log_after r
      → run_walked table scratch term log (record { filling = filling arities; equations = es; limit = k; subject = subject }) (first_refusal 0 es) ≡ run_outcome r blank clear term_after log_after
  unfolding run_walked
  walked_outcome (Err stopped) arities es bounds kept w d =
      ap (run_walked table scratch term log (record { filling = filling arities; equations = es; limit = k; subject = subject })) w ∙ left_as _ _ _ d.0 d.1 d.2
  walked_outcome (Ok false) arities es bounds kept w d = ran_outcome arities es w.0 d
  walked_outcome (Ok true) arities es bounds kept w d = ran_outcome arities es w.0 d

module _ (sheet table scratch term log : List ℕ) (task : ℕ) where
  abbrev pub answered : RunOutcome
  answered = run_answer table scratch term log (asked true sheet (reduction_task task))

  answer_of : (s : Sheet) → read sheet ≡ accepted s → (o : Option Task) → entry s.tasks task ≡ o → answered ≡ run_answer table scratch term log (found (reduction_in (filling s.arities) s.equations o))
  unfolding asked find reduction_task
  answer_of s r o h =
      ap (λ x. run_answer table scratch term log (find (reduction_task task) x)) r ∙ ap (λ o. run_answer table scratch term log (found (reduction_in (filling s.arities) s.equations o))) h

  module _ (known : Known) (a : Accepts sheet known) where
    pub task_absent : known.tasks ≤ task → {n : ℕ} → n ≡ refusal_number absent_argument 0 → answered ≡ run_outcome n table scratch term log
    unfolding run_answer found reduction_in
    task_absent h e =
        let (s, r, g) = a in
        answer_of s r none (entry_none s.tasks task (omega (arith, g.tasks_are))) ∙ ap (λ n. run_outcome n table scratch term log) (sym e)

    module _ (there : task < known.tasks) (place : TaskFound) (each : (t : Task) → TaskIn sheet task t → TaskAt sheet t place) where
      other_task : (t : Task) → TaskIn sheet task t → ((k : ℕ) → task_head t ≡ Run k → ⊥) → {n : ℕ} → n ≡ refusal_number absent_argument 0 → answered ≡ run_outcome n table scratch term log
      unfolding run_answer found reduction_in
      other_task (run k u) i d e = absurd (d k refl)
      other_task (judgement k o ts) (s, r, y) d e = answer_of s r (some (judgement k o ts)) y ∙ ap (λ n. run_outcome n table scratch term log) (sym e)
      other_task (comparison u v) (s, r, y) d e = answer_of s r (some (comparison u v)) y ∙ ap (λ n. run_outcome n table scratch term log) (sym e)

      pub other_there : ((k : ℕ) → place.head ≡ Run k → ⊥) → {n : ℕ} → n ≡ refusal_number absent_argument 0 → answered ≡ run_outcome n table scratch term log
      other_there d = let (t, i) = task_asked sheet known task a there in other_task t i (λ k e. d k ((each t i).0 ∙ e))

-- 2. The task that is a run.
pub reduction_found : (sheet : List ℕ) (task : ℕ) (known : Known) (a : Accepts sheet known) (there : task < known.tasks) (place : TaskFound)
    → ((t : Task) → TaskIn sheet task t → TaskAt sheet t place) → {k : ℕ} → place.head ≡ Run k → ReductionIn sheet known k place.terms.from place.terms.end task
reduction_found sheet task known a there place each {k} h =
    let (t, i) = task_asked sheet known task a there in
    let (u, x) = is_run t (sym (each t i).0 ∙ h) in
    let j : TaskIn sheet task (run k u) = subst (TaskIn sheet task) x i in
    record { accepts = a; subject = u; is_task = j; spans = (each (run k u) j).1 }

module _ {sheet : List ℕ} {known : Known} {limit from end task : ℕ} (i : ReductionIn sheet known limit from end task) where
  abbrev pub its_equations : List Equation
  its_equations = i.is_task.0.equations

  same_sheet : i.accepts.0 ≡ i.is_task.0
  same_sheet =
      let (s, r, y) = i.is_task in
      let (s', r', g) = i.accepts in
      let e : accepted s' ≡ accepted s = sym r' ∙ r in
      cc

  valid_task : ValidTask i.is_task.0.arities its_equations (run limit i.subject)
  valid_task =
      let (s, r, y) = i.is_task in
      every_entry (ValidTask s.arities s.equations) s.tasks task (accepted_valid sheet s r).0.tasks y

  pub limit_low : limit ≤ max_steps
  limit_low = valid_task.0

  pub its_equations_counted : known.equations ≡ length its_equations
  its_equations_counted = i.accepts.2.equations_are ∙ ap (λ s. length s.equations) same_sheet

  its_arities : known_arities known ≡ i.is_task.0.arities
  its_arities = i.accepts.2.arities_are ∙ ap (λ s. s.arities) same_sheet

  its_term : TermsIn sheet (known_arities known) from end (cons i.subject nil)
  unfolding task_terms prefix size
  its_term =
      let g = i.accepts.2 in
      record {
        spans = subst (Spans sheet from end) (sym (append-nil (prefix i.subject))) i.spans;
        is_ground = (subst (λ arities. Ground arities i.subject) (sym its_arities) valid_task.1, tt);
        few_nodes = omega (arith, valid_task.2);
        few_symbols = omega (arith, ap length g.arities_are, g.valid.symbols.few_symbols);
      }

  pub its_run : (equations lengths bounds : List ℕ) → ((s : Sheet) → read sheet ≡ accepted s → RowsAre equations lengths (known_arities known) s.equations)
      → length bounds ≡ bound_count → RunTermIs sheet known from end equations lengths bounds its_equations i.subject
  its_run equations lengths bounds rows l =
      record {
        rows = rows i.is_task.0 i.is_task.1;
        counted = its_equations_counted;
        bounds_length = l;
        term_in = its_term;
        roomy = i.accepts.2.roomy;
      }

  -- The walks of the sheet's rules, and what comes of them.
  module _ (equations lengths bounds kept : List ℕ) (rows : (s : Sheet) → read sheet ≡ accepted s → RowsAre equations lengths (known_arities known) s.equations)
      (walked : Result Bool RefusedWalk) (each : (arities : List ℕ) (es : List Equation) → RowsAre equations lengths arities es → known.equations ≡ length es → WalksAs es bounds kept walked) where
    its_walks : WalksAs its_equations bounds kept walked
    its_walks = each (known_arities known) its_equations (rows i.is_task.0 i.is_task.1) its_equations_counted

    pub equation_fits : {stopped : RefusedWalk} → walked ≡ Err stopped → stopped.equation + 2 ≤ max_text
    equation_fits e = let low = equation_low its_equations bounds kept its_walks (rows i.is_task.0 i.is_task.1).few e in omega arith

    pub its_lines : (fits : Bool) → walked ≡ Ok fits → LinesReady fits bounds kept its_equations
    its_lines fits e = lines_ready its_equations bounds kept its_walks fits e

    pub term_had : length bounds ≡ bound_count → (fits : Bool) → walked ≡ Ok fits → HasRunTerm sheet known from end equations lengths bounds fits kept
    term_had l fits e = record { those = its_equations; subject = i.subject; is = its_run equations lengths bounds rows l; ready = its_lines fits e }

    pub reduction_answered : (table scratch term log : List ℕ) {r : ℕ} {blank clear term_after log_after : List ℕ} → blank ≡ blanked table → clear ≡ cleared scratch
        → RanAs walked (known_arities known) its_equations limit i.subject term term_after log log_after r
        → answered sheet table scratch term log task ≡ run_outcome r blank clear term_after log_after
    unfolding run_answer found reduction_in
    reduction_answered table scratch term log {r} {term_after = term_after} {log_after} b c d =
        answer_of sheet table scratch term log task i.is_task.0 i.is_task.1 (some (run limit i.subject)) i.is_task.2
        ∙ walked_outcome table scratch term log limit i.subject b c walked i.is_task.0.arities its_equations bounds kept its_walks
        (subst (λ a. RanAs walked a its_equations limit i.subject term term_after log log_after r) its_arities d)
