-- A run: the definition's, its log, and what holds before each search.
use Prim.Native.Nat.{ℕ, zero, suc, ◌+◌, ◌-◌, ◌*◌, ◌/◌, ◌%◌, ◌≤◌, ◌<◌}
use mathlib.Core.Path.{◌≡◌, refl, sym, ap, subst, ◌∙◌}
use mathlib.Core.Bool.{Bool, true}
use mathlib.Core.Option.{none, some}
use mathlib.Core.List.{List, [], ◌∷◌, ◌++◌, append_assoc, append-nil}
use native.Mathlib.Omega.{arith}
use lib.ListN.{length, drop, length-append}
use borrow.Author.Tests.{lt-ltb, le-ltb}
use Rattle.format.specs.Limits.{max_byte, max_task_nodes, position_count, table_bytes, scratch_bytes}
use Rattle.format.specs.Buffer.{written}
use Rattle.terms.specs.Term.{Term, size}
use Rattle.terms.specs.Filling.{filling}
use Rattle.terms.specs.Equation.{Equation, direction_number}
use Rattle.terms.specs.ForContracts.Stored.{SubjectIs}
use Rattle.reducing.specs.declared.ending.Ending.{Ending}
use Rattle.reducing.specs.declared.ending.Ending.TheVariants.{NoneFound as none_found, LimitReached as limit_reached, ResultTooLarge as result_too_large}
use Rattle.reducing.specs.Run.{Step, Run, after_step, step, run, last_term}
use Rattle.reducing.specs.Test.{line_test, line_run}
use Rattle.reducing.proofs.Theory.Runs.{stopped, at_limit, unless_large, below_limit}
use Rattle.reducing.specs.Theory.Rules.{rule_parts}
use Rattle.outcomes.specs.Outcome.{log_of}
use Rattle.outcomes.specs.Theory.Outcomes.{length_log}
use Rattle.rules.specs.Theory.Walks.{lines_stay}
use Rattle.step_take.specs.ForContracts.Replacing.{ReplacedAs}
use Rattle.step_by_position.specs.ForContracts.Searching.{StepAt}
use Rattle.step_search.specs.ForContracts.Seeking.{RulesReady, RunIs}
use Rattle.step_take.specs.ForContracts.Stepping.{StepIs}
use Rattle.step_take.specs.Theory.Steps.{step_possible}
use Rattle.run_steps.specs.ForContracts.Course.{CourseIs}
use Rattle.std.specs.Prelude.{None}

-- 1. The next search goes by the same rules, and by the same subject in the nodes that a search left.
module _ {equations lengths : List ℕ} {rules : ℕ} {bounds next : List ℕ} {fits : Bool} {table nodes sizes : List ℕ} {n : ℕ} {arities : List ℕ} {es : List Equation} {subject : Term}
    (is : RunIs equations lengths rules bounds next fits table nodes sizes n arities es subject) {table' : List ℕ} where
  ready_kept : (fits ≡ true → table' ≡ table) → RulesReady rules bounds next fits table' es
  ready_kept h = record { lines = lines_stay fits bounds es h is.ready.lines; bounds_length = is.ready.bounds_length; next_is = is.ready.next_is }

  pub run_kept : {nodes' sizes' : List ℕ} {n' : ℕ} {subject' : Term} → (fits ≡ true → table' ≡ table) → SubjectIs nodes' sizes' arities subject' → n' ≡ size subject' → RunIs equations lengths rules bounds next fits table' nodes' sizes' n' arities es subject'
  run_kept h s x = record { rows = is.rows; counted = is.counted; ready = ready_kept h; subject_is = s; size_is = x }

-- 2. The definition's run, by what is found before its first step.
module _ (c : Term) (es : List Equation) where
  run_without : (k : ℕ) (t : Term) → step c line_test es t ≡ none → line_run c es k t ≡ stopped none_found
  unfolding line_run run
  run_without zero t e = ap at_limit e
  run_without (suc k) t e = ap (below_limit (λ s. line_run c es k s.result)) e

  run_at_limit : (t : Term) (s : Step) → step c line_test es t ≡ some s → line_run c es 0 t ≡ stopped limit_reached
  unfolding line_run run
  run_at_limit t s e = ap at_limit e

  run_too_large : (k : ℕ) (t : Term) (s : Step) → step c line_test es t ≡ some s → max_task_nodes < size s.result → line_run c es (suc k) t ≡ stopped result_too_large
  unfolding line_run run
  run_too_large k t s e h = ap (below_limit (λ s. line_run c es k s.result)) e ∙ ap (unless_large s (line_run c es k s.result)) (lt-ltb max_task_nodes (size s.result) h)

  run_goes_on : (k : ℕ) (t : Term) (s : Step) → step c line_test es t ≡ some s → size s.result ≤ max_task_nodes → line_run c es (suc k) t ≡ after_step s (line_run c es k s.result)
  unfolding line_run run
  run_goes_on k t s e h = ap (below_limit (λ s. line_run c es k s.result)) e ∙ ap (unless_large s (line_run c es k s.result)) (le-ltb max_task_nodes (size s.result) h)

log_more : (steps : List Step) (s : Step) → log_of (steps ++ (s ∷ [])) ≡ log_of steps ++ (s.equation ∷ direction_number s.direction ∷ s.position ∷ [])
unfolding log_of
log_more [] s = refl
log_more (x ∷ steps) s = ap (λ l. x.equation ∷ direction_number x.direction ∷ x.position ∷ l) (log_more steps s)

-- 3. What holds before each search.
-- A table that keeps the lines of all rules is as it was, and so is what stands behind the bytes that are lent.
abbrev pub Kept : Bool → (table scratch table' scratch' : List ℕ) → Type 0
Kept fits table scratch table' scratch' = (fits ≡ true → table' ≡ table) × ((drop table_bytes table' ≡ drop table_bytes table) × (drop scratch_bytes scratch' ≡ drop scratch_bytes scratch))

pub kept_again : {fits : Bool} (table scratch table' scratch' table'' scratch'' : List ℕ) → Kept fits table scratch table' scratch' → Kept fits table' scratch' table'' scratch'' → Kept fits table scratch table'' scratch''
kept_again table scratch table' scratch' table'' scratch'' a b = (λ h. b.0 h ∙ a.0 h, (b.1.0 ∙ a.1.0, b.1.1 ∙ a.1.1))

abbrev steps_then : List Step → Run → Run
steps_then done r = record { steps = done ++ r.steps; ending = r.ending }

module _ (equations lengths : List ℕ) (rules : ℕ) (bounds next : List ℕ) (fits : Bool) (arities : List ℕ) (limit : ℕ) (log₀ : List ℕ) where
  -- The run from `subject` has done these steps, and goes on from `current`.
  pub record Halfway (es : List Equation) (subject : Term) (table nodes sizes log : List ℕ) (n steps : ℕ) : Type 0 where
    pub done : List Step
    pub current : Term
    pub counted : steps ≡ length done
    pub is : RunIs equations lengths rules bounds next fits table nodes sizes n arities es current
    pub goes_on : line_run (filling arities) es limit subject ≡ steps_then done (line_run (filling arities) es (limit - steps) current)
    pub last : (more : List Step) → last_term subject (done ++ more) ≡ last_term current more
    pub logged : log ≡ written (log_of done) log₀

  pub record Running (table₀ nodes₀ sizes₀ scratch₀ : List ℕ) (n₀ : ℕ) (table nodes sizes scratch log : List ℕ) (n steps : ℕ) : Type 0 where
    pub within : steps ≤ limit
    pub table_length : length table ≡ length table₀
    pub nodes_length : length nodes ≡ length nodes₀
    pub sizes_length : length sizes ≡ length sizes₀
    pub scratch_length : length scratch ≡ length scratch₀
    pub log_length : length log ≡ length log₀
    pub kept : Kept fits table₀ scratch₀ table scratch
    pub so_far : (es : List Equation) (subject : Term) → RunIs equations lengths rules bounds next fits table₀ nodes₀ sizes₀ n₀ arities es subject → Halfway es subject table nodes sizes log n steps

module _ {equations lengths : List ℕ} {rules : ℕ} {bounds next : List ℕ} {fits : Bool} {arities : List ℕ} {limit : ℕ} {log₀ : List ℕ} where
  pub not_started : {table nodes sizes scratch : List ℕ} {n : ℕ} → Running equations lengths rules bounds next fits arities limit log₀ table nodes sizes scratch n table nodes sizes scratch log₀ n 0
  unfolding log_of written last_term
  not_started = record {
    within = omega arith;
    table_length = refl;
    nodes_length = refl;
    sizes_length = refl;
    scratch_length = refl;
    log_length = refl;
    kept = (λ h. refl, (refl, refl));
    so_far = λ es subject is. record { done = []; current = subject; counted = refl; is = is; goes_on = whole es subject; last = λ more. refl; logged = refl };
  }
    where
      whole : (es : List Equation) (subject : Term) → line_run (filling arities) es limit subject ≡ steps_then [] (line_run (filling arities) es (limit - 0) subject)
      whole es subject = let e : limit ≡ limit - 0 = omega arith in subst (λ k. line_run (filling arities) es limit subject ≡ steps_then [] (line_run (filling arities) es k subject)) e refl

  module _ {es : List Equation} {subject : Term} {table nodes sizes log : List ℕ} {n steps : ℕ} (h : Halfway equations lengths rules bounds next fits arities limit log₀ es subject table nodes sizes log n steps) where
    -- 5. The endings.
    ended : {nodes' sizes' : List ℕ} (ending : Ending) → line_run (filling arities) es (limit - steps) h.current ≡ stopped ending → SubjectIs nodes' sizes' arities h.current
        → CourseIs arities es limit subject log₀ log (record { steps = steps; ending = ending; size = n; nodes = nodes' })
    unfolding last_term
    ended {nodes'} {sizes'} ending x s =
        let whole : line_run (filling arities) es limit subject ≡ steps_then h.done (stopped ending) = h.goes_on ∙ ap (steps_then h.done) x in
        let all : (line_run (filling arities) es limit subject).steps ≡ h.done ++ [] = ap (λ r. r.steps) whole in
        let same : (line_run (filling arities) es limit subject).steps ≡ h.done = all ∙ append-nil h.done in
        let final : last_term subject (line_run (filling arities) es limit subject).steps ≡ h.current = ap (last_term subject) all ∙ h.last [] in
        record {
          steps_are = h.counted ∙ ap length (sym same);
          ending_is = sym (ap (λ r. r.ending) whole);
          size_is = h.is.size_is ∙ ap size (sym final);
          sizes = sizes';
          last_is = subst (SubjectIs nodes' sizes' arities) (sym final) s;
          logged = h.logged ∙ ap (λ l. written (log_of l) log₀) (sym same);
        }

    module _ {nodes' sizes' : List ℕ} (s : SubjectIs nodes' sizes' arities h.current) where
      pub none_ends : step (filling arities) line_test es h.current ≡ none → CourseIs arities es limit subject log₀ log (record { steps = steps; ending = none_found; size = n; nodes = nodes' })
      none_ends x = ended none_found (run_without (filling arities) es (limit - steps) h.current x) s

      module _ {rule node : ℕ} (found : StepAt arities es h.current rule node) where
        pub limit_ends : steps ≡ limit → CourseIs arities es limit subject log₀ log (record { steps = steps; ending = limit_reached; size = n; nodes = nodes' })
        limit_ends x =
            let none_left : limit - steps ≡ 0 = omega arith in
            ended limit_reached (ap (λ k. line_run (filling arities) es k h.current) none_left ∙ run_at_limit (filling arities) es h.current found.this found.first) s

        pub size_ends : (nodes'' sizes'' : List ℕ) → steps < limit → ReplacedAs arities nodes' sizes' nodes'' sizes'' found.this.result None
            → CourseIs arities es limit subject log₀ log (record { steps = steps; ending = result_too_large; size = n; nodes = nodes'' })
        size_ends nodes'' sizes'' x (large, a, b) =
            let more_left : limit - steps ≡ suc (limit - (steps + 1)) = omega arith in
            let left_as_is : SubjectIs nodes'' sizes'' arities h.current = subst (λ l. SubjectIs l sizes'' arities h.current) (sym a) (subst (λ l. SubjectIs nodes' l arities h.current) (sym b) s) in
            ended result_too_large (ap (λ k. line_run (filling arities) es k h.current) more_left ∙ run_too_large (filling arities) es (limit - (steps + 1)) h.current found.this found.first large) left_as_is

    -- 6. A step that is found can be taken and logged.
    module _ {rule node : ℕ} (found : StepAt arities es h.current rule node) where
      pub step_is : {nodes' sizes' : List ℕ} → SubjectIs nodes' sizes' arities h.current
          → StepIs equations lengths rule arities nodes' sizes' node n found.number found.equation found.direction h.current found.position found.this
      step_is s = record {
        rule_is = record { row = h.is.rows.row found.number found.equation found.numbered; number = found.rule_is };
        subject_is = s;
        counted = h.is.size_is;
        inside = found.inside;
        there = found.node_is;
        possible = found.possible;
      }

      pub rule_byte : rule ≤ max_byte
      rule_byte = omega (arith, found.rule_is, (h.is.rows.row found.number found.equation found.numbered).inside, (rule_parts rule found.number found.direction found.rule_is).0)

      pub position_byte : position_count ≤ node × (node - position_count ≤ max_byte)
      position_byte = let x = found.node_is in (omega arith, omega (arith, found.inside, h.is.subject_is.stored.within))

      abbrev step_bytes : List ℕ
      step_bytes = rule / 2 ∷ rule % 2 ∷ (node - position_count) ∷ []

      bytes_are : step_bytes ≡ found.this.equation ∷ direction_number found.this.direction ∷ found.this.position ∷ []
      bytes_are =
          let p = step_possible (filling arities) h.current found.position found.number found.equation found.direction found.this found.possible in
          let (a, b) = rule_parts rule found.number found.direction found.rule_is in
          let place : node - position_count ≡ found.position = omega (arith, found.node_is) in
          let x : rule / 2 ≡ found.this.equation = a ∙ sym p.numbered in
          let y : rule % 2 ≡ direction_number found.this.direction = b ∙ ap direction_number (sym p.directed) in
          let z : node - position_count ≡ found.this.position = place ∙ sym p.placed in
          λ i. x i ∷ y i ∷ z i ∷ []

      pub one_more : {table' nodes' sizes' : List ℕ} (log' : List ℕ) (n' : ℕ) → steps < limit → (fits ≡ true → table' ≡ table) → n' ≡ size found.this.result → SubjectIs nodes' sizes' arities found.this.result
          → ((front before : List ℕ) → length front ≡ 3 * steps → log ≡ written front before → log' ≡ written (front ++ step_bytes) before)
          → Halfway equations lengths rules bounds next fits arities limit log₀ es subject table' nodes' sizes' log' n' (steps + 1)
      unfolding last_term after_step
      one_more {table'} {nodes'} {sizes'} log' n' l t x s put =
          let this = found.this in
          let more_left : limit - steps ≡ suc (limit - (steps + 1)) = omega arith in
          let small : size this.result ≤ max_task_nodes = omega (arith, s.stored.within) in
          let further = line_run (filling arities) es (limit - (steps + 1)) this.result in
          record {
            done = h.done ++ (this ∷ []);
            current = this.result;
            counted = omega (arith, h.counted, length-append h.done (this ∷ []));
            is = run_kept h.is t s x;
            goes_on =
                h.goes_on
                ∙ (ap (steps_then h.done) (ap (λ k. line_run (filling arities) es k h.current) more_left ∙ run_goes_on (filling arities) es (limit - (steps + 1)) h.current this found.first small)
                ∙ ap (λ l. record { steps = l; ending = further.ending }) (sym (append_assoc h.done (this ∷ []) further.steps)));
            last = λ more. ap (last_term subject) (append_assoc h.done (this ∷ []) more) ∙ h.last (this ∷ more);
            logged =
                put (log_of h.done) log₀ (omega (arith, length_log h.done, h.counted)) h.logged
                ∙ ap (λ l. written l log₀) (ap (log_of h.done ++◌) bytes_are ∙ sym (log_more h.done this));
          }
