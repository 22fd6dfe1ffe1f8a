-- What a run is, by the document's rule for each of its terms, and what follows of its steps: their number, sizes, equations and positions.
use Prim.Native.Nat.{ℕ, zero, suc, ◌≤◌, ◌<◌}
use Rattle.std.specs.Prelude.{◌≡◌, Bool, length, ltb}
use Rattle.std.proofs.Math.Path.{refl, ap}
use Rattle.std.proofs.Math.Bool.{true, false}
use Rattle.std.proofs.Math.Option.{Option, none, some}
use mathlib.Core.List.{List, [], ◌∷◌}
use native.Mathlib.Omega.{arith}
use Rattle.std.proofs.Common.{ltb→lt, nltb→le}
use Rattle.format.specs.Limits.{variable_count, max_task_nodes}
use Rattle.format.specs.Lists.{Every}
use Rattle.format.specs.Theory.Lists.{every_map, entry_length}
use Rattle.terms.specs.Term.{Term, size, Values, inst}
use Rattle.terms.specs.Position.{subterms, replace}
use Rattle.terms.specs.Equation.{Equation, source, target}
use Rattle.terms.specs.declared.direction.Direction.{Direction}
use Rattle.terms.specs.declared.direction.Direction.TheVariants.{LeftRight as left_right, RightLeft as right_left}
use Rattle.reducing.specs.Match.{unmet, match, values_of}
use Rattle.reducing.specs.Run.{Step, Ending, none_found, limit_reached, result_too_large, ending_number, Run, after_step, try_with, try_equations_with, try_positions_with, step_with, step, run_with, run, last_term}
use Rattle.reducing.proofs.Theory.Step.{or_else, Taken, step_taken}

pub ending_low : (e : Ending) → ending_number e ≤ 2
unfolding ending_number
ending_low none_found = omega arith
ending_low limit_reached = omega arith
ending_low result_too_large = omega arith

-- The run from a term by its next step, if there is one: where all steps are done, and where there are more, with the run after each.
abbrev pub stopped : Ending → Run
stopped e = record { steps = []; ending = e }

abbrev pub at_limit : Option Step → Run
at_limit o = elim o [ none ↦ stopped none_found | some s ↦ stopped limit_reached ]

abbrev pub unless_large : Step → Run → Bool → Run
unless_large s r b = elim b [ true ↦ stopped result_too_large | false ↦ after_step s r ]

abbrev pub below_limit : (Step → Run) → Option Step → Run
below_limit after o = elim o [ none ↦ stopped none_found | some s ↦ unless_large s (after s) (ltb max_task_nodes (size s.result)) ]

module _ (filling : Term) (test : Equation → Direction → Values → Bool) (es : List Equation) where
  -- "Before each step: none found, ending 00; k steps done, ending 01; result above 160 nodes, ending 02; else the step."
  pub data Runs : ℕ → Term → Run → Type 0 where
    no_step : {k : ℕ} {subject : Term} → step filling test es subject ≡ none → Runs k subject (stopped none_found)
    all_done : {subject : Term} {s : Step} → step filling test es subject ≡ some s → Runs 0 subject (stopped limit_reached)
    too_large : {k : ℕ} {subject : Term} {s : Step} → step filling test es subject ≡ some s → max_task_nodes < size s.result
        → Runs (suc k) subject (stopped result_too_large)
    one_step : {k : ℕ} {subject : Term} {s : Step} {steps : List Step} {ending : Ending} → step filling test es subject ≡ some s → size s.result ≤ max_task_nodes
        → Runs k s.result (record { steps = steps; ending = ending }) → Runs (suc k) subject (record { steps = s ∷ steps; ending = ending })

  last_stage : (subject : Term) (o : Option Step) → step filling test es subject ≡ o → Runs 0 subject (at_limit o)
  last_stage subject none e = no_step e
  last_stage subject (some s) e = all_done e

  by_size : (k : ℕ) (subject : Term) (s : Step) → step filling test es subject ≡ some s → Runs k s.result (run filling test es k s.result)
      → (b : Bool) → ltb max_task_nodes (size s.result) ≡ b → Runs (suc k) subject (unless_large s (run filling test es k s.result) b)
  unfolding after_step
  by_size k subject s e r true l = too_large e (ltb→lt _ _ (rw l tt))
  by_size k subject s e r false l = one_step e (nltb→le _ _ (rw l tt)) r

  stage : (k : ℕ) (subject : Term) → ((t : Term) → Runs k t (run filling test es k t)) → (o : Option Step) → step filling test es subject ≡ o
      → Runs (suc k) subject (below_limit (λ s. run filling test es k s.result) o)
  stage k subject r none e = no_step e
  stage k subject r (some s) e = by_size k subject s e (r s.result) (ltb max_task_nodes (size s.result)) refl

  pub run_runs : (k : ℕ) (subject : Term) → Runs k subject (run filling test es k subject)
  unfolding run
  run_runs zero subject = last_stage subject (step filling test es subject) refl
  run_runs (suc k) subject = stage k subject (run_runs k) (step filling test es subject) refl

  -- Each step is one of the term before it.
  abbrev pub AllTaken : Term → List Step → Type 0
  AllTaken subject [] = Unit {0}
  AllTaken subject (s ∷ steps) = Taken filling test es subject s × AllTaken s.result steps

  runs_taken : {k : ℕ} {subject : Term} {r : Run} → Runs k subject r → AllTaken subject r.steps
  runs_taken (no_step e) = tt
  runs_taken (all_done e) = tt
  runs_taken (too_large e l) = tt
  runs_taken (one_step e l r) = (step_taken filling test es _ _ e, runs_taken r)

  -- There are at most `k` steps.
  runs_few : {k : ℕ} {subject : Term} {r : Run} → Runs k subject r → length r.steps ≤ k
  runs_few (no_step e) = omega arith
  runs_few (all_done e) = omega arith
  runs_few (too_large e l) = omega arith
  runs_few (one_step e l r) = let x = runs_few r in omega arith

  -- No result has more than 160 nodes, nor has the last term if the subject has not.
  runs_small : {k : ℕ} {subject : Term} {r : Run} → Runs k subject r → Every (λ s. size s.result ≤ max_task_nodes) r.steps
  runs_small (no_step e) = tt
  runs_small (all_done e) = tt
  runs_small (too_large e l) = tt
  runs_small (one_step e l r) = (l, runs_small r)

  runs_last : {k : ℕ} {subject : Term} {r : Run} → Runs k subject r → size subject ≤ max_task_nodes → size (last_term subject r.steps) ≤ max_task_nodes
  unfolding last_term
  runs_last (no_step e) h = h
  runs_last (all_done e) h = h
  runs_last (too_large e l) h = h
  runs_last (one_step e l r) h = runs_last r l

  -- Equations are numbered below their count, and positions lie in the term before the step.
  runs_bounded : {k : ℕ} {subject : Term} {r : Run} → Runs k subject r → size subject ≤ max_task_nodes
      → Every (λ s. (s.equation < length es) × (s.position < max_task_nodes)) r.steps
  runs_bounded (no_step e) h = tt
  runs_bounded (all_done e) h = tt
  runs_bounded (too_large e l) h = tt
  runs_bounded (one_step e l r) h =
      let t = step_taken filling test es _ _ e in
      ((entry_length es _ t.numbered, omega (arith, t.inside)), runs_bounded r l)

  -- What each ending says of the last term and of the number of steps, `n`.
  abbrev pub RunEnded : Ending → (k n : ℕ) → (last : Term) → Type 0
  RunEnded none_found k n last = step filling test es last ≡ none
  RunEnded limit_reached k n last = (n ≡ k) × (s : Step) × (step filling test es last ≡ some s)
  RunEnded result_too_large k n last = (n < k) × (s : Step) × (step filling test es last ≡ some s) × (max_task_nodes < size s.result)

  one_more : (x : Ending) (k n : ℕ) (last : Term) → RunEnded x k n last → RunEnded x (suc k) (suc n) last
  one_more none_found k n last h = h
  one_more limit_reached k n last h = let (c, s, e) = h in (omega arith, s, e)
  one_more result_too_large k n last h = let (c, s, e, l) = h in (omega arith, s, e, l)

  runs_ended : {k : ℕ} {subject : Term} {r : Run} → Runs k subject r → RunEnded r.ending k (length r.steps) (last_term subject r.steps)
  unfolding last_term
  runs_ended (no_step e) = e
  runs_ended (all_done e) = (refl, _, e)
  runs_ended (too_large e l) = (omega arith, _, e, l)
  runs_ended (one_step {ending = x} e l r) = one_more x _ _ _ (runs_ended r)

  module _ (k : ℕ) (subject : Term) where
    pub run_taken : AllTaken subject (run filling test es k subject).steps
    run_taken = runs_taken (run_runs k subject)

    pub run_few : length (run filling test es k subject).steps ≤ k
    run_few = runs_few (run_runs k subject)

    pub run_small : Every (λ s. size s.result ≤ max_task_nodes) (run filling test es k subject).steps
    run_small = runs_small (run_runs k subject)

    pub run_last_small : size subject ≤ max_task_nodes → size (last_term subject (run filling test es k subject).steps) ≤ max_task_nodes
    run_last_small = runs_last (run_runs k subject)

    pub run_bounded : size subject ≤ max_task_nodes → Every (λ s. (s.equation < length es) × (s.position < max_task_nodes)) (run filling test es k subject).steps
    run_bounded = runs_bounded (run_runs k subject)

    pub run_ended : RunEnded (run filling test es k subject).ending k (length (run filling test es k subject).steps) (last_term subject (run filling test es k subject).steps)
    run_ended = runs_ended (run_runs k subject)

-- A run depends on its test and on the number of variables only by what is tried of the equations of the list.
module _ (variables₁ variables₂ : ℕ) (filling : Term) (test₁ test₂ : Equation → Direction → Values → Bool) where
  abbrev pub SameTries : Equation → Type 0
  SameTries e = (subject : Term) (p : ℕ) (part : Term) (n : ℕ) (d : Direction) → try_with variables₁ filling test₁ subject p part n e d ≡ try_with variables₂ filling test₂ subject p part n e d

  try_equations_same : (subject : Term) (p : ℕ) (part : Term) (n : ℕ) (es : List Equation) → Every SameTries es
      → try_equations_with variables₁ filling test₁ subject p part n es ≡ try_equations_with variables₂ filling test₂ subject p part n es
  unfolding try_equations_with
  try_equations_same subject p part n [] a = refl
  try_equations_same subject p part n (e ∷ es) a =
      let left = a.0 subject p part n left_right in
      let right = a.0 subject p part n right_left in
      let others = try_equations_same subject p part (suc n) es a.1 in
      λ i. or_else (left i) (or_else (right i) (others i))

  module _ (es : List Equation) (a : Every SameTries es) where
    try_positions_same : (subject : Term) (p : ℕ) (parts : List Term) → try_positions_with variables₁ filling test₁ es subject p parts ≡ try_positions_with variables₂ filling test₂ es subject p parts
    unfolding try_positions_with
    try_positions_same subject p [] = refl
    try_positions_same subject p (part ∷ parts) =
        let here = try_equations_same subject p part 0 es a in
        let others = try_positions_same subject (suc p) parts in
        λ i. or_else (here i) (others i)

    pub step_same_with : (subject : Term) → step_with variables₁ filling test₁ es subject ≡ step_with variables₂ filling test₂ es subject
    unfolding step_with
    step_same_with subject = try_positions_same subject 0 (subterms subject)

    pub run_same_with : (k : ℕ) (subject : Term) → run_with variables₁ filling test₁ es k subject ≡ run_with variables₂ filling test₂ es k subject
    unfolding run_with
    run_same_with zero subject = ap at_limit (step_same_with subject)
    run_same_with (suc k) subject = λ i. below_limit (λ s. run_same_with k s.result i) (step_same_with subject i)

-- So it depends on its test only by its answers for the equations of the list.
module _ (test₁ test₂ : Equation → Direction → Values → Bool) where
  abbrev pub Agree : Equation → Type 0
  Agree e = (d : Direction) (ρ : Values) → test₁ e d ρ ≡ test₂ e d ρ

module _ (filling : Term) (test₁ test₂ : Equation → Direction → Values → Bool) where
  agree_tries : (e : Equation) → Agree test₁ test₂ e → SameTries variable_count variable_count filling test₁ test₂ e
  unfolding try_with
  agree_tries e a subject p part n d i =
      elim (match (source e d) part (unmet variable_count)) as (λ x. Option Step) [
        | none ↦ none
        | some m ↦ elim (a d (values_of filling m) i) as (λ x. Option Step) [
          | false ↦ none
          | true ↦ some (record { equation = n; direction = d; position = p; result = replace subject p (inst (values_of filling m) (target e d)) })
        ]
      ]

  module _ (es : List Equation) (a : Every (Agree test₁ test₂) es) where
    pub step_same : (subject : Term) → step filling test₁ es subject ≡ step filling test₂ es subject
    unfolding step
    step_same = step_same_with variable_count variable_count filling test₁ test₂ es (every_map agree_tries es a)

    pub run_same : (k : ℕ) (subject : Term) → run filling test₁ es k subject ≡ run filling test₂ es k subject
    unfolding run
    run_same = run_same_with variable_count variable_count filling test₁ test₂ es (every_map agree_tries es a)
