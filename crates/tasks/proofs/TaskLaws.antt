-- The task that is found, and its frames.
use Prim.Native.Nat.{ℕ, ◌+◌, ◌*◌, ◌≤◌, ◌<◌}
use mathlib.Core.Path.{◌≡◌, refl, sym, ap, subst, ◌∙◌}
use mathlib.Core.Bool.{Bool}
use mathlib.Core.Option.{some}
use mathlib.Core.List.{List, [], ◌∷◌, ◌++◌, append-nil}
use native.Mathlib.Omega.{arith}
use lib.ListN.{length, length-take}
use Rattle.format.specs.Limits.{max_symbols, max_equations, max_steps}
use Rattle.format.specs.Lists.{entry}
use Rattle.format.specs.Theory.Lists.{entry_found, every_entry}
use Rattle.terms.specs.Term.{Term, Terms, size, Ground, Grounds}
use Rattle.terms.specs.Prefix.{prefix}
use Rattle.terms.specs.Equation.{Equation}
use Rattle.terms.specs.declared.direction.Direction.{Direction}
use Rattle.ordering.specs.declared.decision.Decision.{Decision}
use Rattle.ordering.specs.Decision.{decision}
use Rattle.sheet.specs.Sheet.{Task, run, judgement, comparison, Sheet}
use Rattle.sheet.specs.ForContracts.Valid.{ValidTask}
use Rattle.scanning.specs.declared.known.Known.{Known}
use Rattle.scanning.specs.ForContracts.Scan.{known_arities}
use Rattle.reading.specs.declared.seek.TaskFound.{TaskFound}
use Rattle.reading.specs.declared.seek.TaskHead.TheVariants.{Run, Judgement, Comparison}
use Rattle.reading.specs.ForContracts.Seek.{Accepts, TaskIn, TaskAt, Spans, task_terms}
use Rattle.reading.specs.Theory.Found.{is_run, is_judgement, is_comparison}
use Rattle.reducing.specs.Test.{holding_line, given_values, BothSolve}
use Rattle.reducing.specs.Theory.Rules.{rule_below}
use Rattle.run_term.specs.ForContracts.RunTerm.{RunTermIs, HasRunTerm}
use Rattle.compare_task.specs.ForContracts.Comparison.{PairIn}
use Rattle.listing.specs.Listing.{printed, judgement_frame, comparison_frame, holding, task_frames}
use Rattle.rules.specs.ForContracts.Walks.{LinesReady}
use Rattle.listing.specs.ForContracts.Appended.{Appended}
use Rattle.listing.specs.Theory.Appended.{appended_text}
use Rattle.cursor.specs.ForContracts.Stands.{Ready}
use Rattle.cursor.specs.Theory.Rest.{task_steps}
use Rattle.tasks.specs.declared.task.TaskListed.{TaskListed}
use Rattle.tasks.specs.ForContracts.Task.{TaskGiven, HasTask, JudgementAt, HasJudgementAt}

-- What stands first in a buffer is within it.
pub appended_within : {before text after : List ℕ} {end : ℕ} → Appended before 0 text after end → end ≤ length after
appended_within {after = after} {end = end} a = omega (arith, a.ends, ap length a.there, length-take end after)

module _ {arities : List ℕ} {es : List Equation} {before after : List ℕ} {end : ℕ} where
  -- One frame.
  pub judgement_given : {k : ℕ} {o : Direction} {ts : Terms} {e : Equation} → entry es k ≡ some e → Appended before 0 (printed (judgement_frame (holding_line e o (given_values ts)) ∷ [])) after end
      → TaskGiven arities es (judgement k o ts) before after (record { bytes = end; steps = 0 })
  unfolding task_frames task_steps holding
  judgement_given {o = o} {ts = ts} x a =
      let b = appended_text (ap (λ q. printed (judgement_frame (holding q o (given_values ts)) ∷ [])) (sym x)) a in
      record { appended = b; steps_are = refl; few_steps = omega arith; within = appended_within b }

  pub comparison_given : {u v : Term} {w : Decision} → w ≡ decision u v → Appended before 0 (printed (comparison_frame w ∷ [])) after end
      → TaskGiven arities es (comparison u v) before after (record { bytes = end; steps = 0 })
  unfolding task_frames task_steps
  comparison_given x a =
      let b = appended_text (ap (λ w. printed (comparison_frame w ∷ [])) x) a in
      record { appended = b; steps_are = refl; few_steps = omega arith; within = appended_within b }

module _ {sheet : List ℕ} {known : Known} {equations lengths bounds : List ℕ} {fits : Bool} {table : List ℕ} where
  -- The task by its head.
  module _ (task : ℕ) (place : TaskFound) (each : (t : Task) → TaskIn sheet task t → TaskAt sheet t place) where
    module _ {s : Sheet} (ready : Ready sheet known fits equations lengths bounds table s) {t : Task} (x : entry s.tasks task ≡ some t) where
      there : TaskAt sheet t place
      there = each t (s, ready.reads, x)

      abbrev its_arities : known_arities known ≡ s.arities
      its_arities = ready.knows.arities_are

      few_symbols : length (known_arities known) ≤ max_symbols
      few_symbols = omega (arith, ap length its_arities, ready.knows.valid.symbols.few_symbols)

      valid_task : ValidTask s.arities s.equations t
      valid_task = every_entry (ValidTask s.arities s.equations) s.tasks task ready.knows.valid.tasks x

      terms_of : {u : Task} → t ≡ u → Spans sheet place.terms.from place.terms.end (task_terms u)
      terms_of e = subst (λ u. Spans sheet place.terms.from place.terms.end (task_terms u)) e there.1

      valid_as : {u : Task} → t ≡ u → ValidTask s.arities s.equations u
      valid_as e = subst (ValidTask s.arities s.equations) e valid_task

      found_run : {k : ℕ} → place.head ≡ Run k
          → (u : Term) × (t ≡ run k u) × RunTermIs sheet known place.terms.from place.terms.end equations lengths bounds s.equations u × (k ≤ max_steps)
      unfolding task_terms prefix size
      found_run {k} h =
          let (u, e) = is_run t (sym there.0 ∙ h) in
          let (low, is_ground, few) = valid_as e in (
            u,
            e,
            record {
              rows = ready.rows;
              counted = ready.knows.equations_are;
              bounds_length = ready.bounds_length;
              term_in = record {
                spans = subst (Spans sheet place.terms.from place.terms.end) (sym (append-nil (prefix u))) (terms_of e);
                is_ground = (subst (λ a. Ground a u) (sym its_arities) is_ground, tt);
                few_nodes = omega arith;
                few_symbols = few_symbols;
              };
              roomy = ready.knows.roomy;
            },
            low,
          )

      found_judgement : {k d : ℕ} → place.head ≡ Judgement k d
          → (o : Direction) × (ts : Terms) × (t ≡ judgement k o ts) × (e : Equation) × (entry s.equations k ≡ some e) × JudgementAt sheet known place.terms.from place.terms.end equations lengths (k + k + d) k e o ts
      unfolding task_terms
      found_judgement {k} {d} h =
          let (o, ts, y, n) = is_judgement t (sym there.0 ∙ h) in
          let (e, is, one_each, is_ground, few) = valid_as y in (
            o,
            ts,
            y,
            e,
            is,
            record {
              rule_is = record { row = ready.rows.row k e is; number = omega arith };
              solves = every_entry BothSolve s.equations k ready.every is o;
              terms_in = record { spans = terms_of y; is_ground = subst (λ a. Grounds a ts) (sym its_arities) is_ground; few_nodes = few; few_symbols = few_symbols };
              one_each = one_each;
              roomy = ready.knows.roomy;
            },
          )

      found_comparison : place.head ≡ Comparison → (u v : Term) × (t ≡ comparison u v) × PairIn sheet (known_arities known) place.terms.from place.terms.end u v
      unfolding task_terms prefix size
      found_comparison h =
          let (u, v, e) = is_comparison t (sym there.0 ∙ h) in
          let (first, second, few) = valid_as e in (
            u,
            v,
            e,
            record {
              spans = subst (Spans sheet place.terms.from place.terms.end) (ap (prefix u ++◌) (sym (append-nil (prefix v)))) (terms_of e);
              is_ground = (subst (λ a. Ground a u) (sym its_arities) first, (subst (λ a. Ground a v) (sym its_arities) second, tt));
              few_nodes = omega arith;
              few_symbols = few_symbols;
            },
          )

      -- What is printed of it.
      module _ {before after : List ℕ} where
        pub run_printed : {k : ℕ} {r : TaskListed} → place.head ≡ Run k
            → ((es : List Equation) (subject : Term) → RunTermIs sheet known place.terms.from place.terms.end equations lengths bounds es subject → LinesReady fits bounds table es
            → TaskGiven (known_arities known) es (run k subject) before after r)
            → TaskGiven s.arities s.equations t before after r
        run_printed {k} {r} h given =
            let (u, e, is, low) = found_run h in
            subst (λ t. TaskGiven s.arities s.equations t before after r) (sym e) (subst (λ a. TaskGiven a s.equations (run k u) before after r) its_arities (given s.equations u is ready.lines))

        pub judgement_printed : {k d end : ℕ} → place.head ≡ Judgement k d
            → ((i : ℕ) (e : Equation) (o : Direction) (ts : Terms) → JudgementAt sheet known place.terms.from place.terms.end equations lengths (k + k + d) i e o ts
            → Appended before 0 (printed (judgement_frame (holding_line e o (given_values ts)) ∷ [])) after end)
            → TaskGiven s.arities s.equations t before after (record { bytes = end; steps = 0 })
        judgement_printed {k} {end = end} h given =
            let (o, ts, y, e, is, at) = found_judgement h in
            subst (λ t. TaskGiven s.arities s.equations t before after (record { bytes = end; steps = 0 })) (sym y) (judgement_given is (given k e o ts at))

        pub comparison_printed : {w : Decision} {end : ℕ} → place.head ≡ Comparison → ((u v : Term) → PairIn sheet (known_arities known) place.terms.from place.terms.end u v → w ≡ decision u v)
            → Appended before 0 (printed (comparison_frame w ∷ [])) after end → TaskGiven s.arities s.equations t before after (record { bytes = end; steps = 0 })
        comparison_printed {end = end} h told a =
            let (u, v, e, is) = found_comparison h in
            subst (λ t. TaskGiven s.arities s.equations t before after (record { bytes = end; steps = 0 })) (sym e) (comparison_given (told u v is) a)

    -- What its code is called with.
    module _ (h : HasTask sheet known task equations lengths bounds fits table) where
      abbrev this : (t : Task) × (entry h.content.tasks task ≡ some t)
      this = entry_found h.content.tasks task h.low

      pub run_has : {k : ℕ} → place.head ≡ Run k → HasRunTerm sheet known place.terms.from place.terms.end equations lengths bounds fits table × (k ≤ max_steps)
      run_has x = let (u, e, is, low) = found_run h.ready this.1 x in (record { those = h.content.equations; subject = u; is = is; ready = h.ready.lines }, low)

      module _ {k d : ℕ} (x : place.head ≡ Judgement k d) where
        pub judgement_has : HasJudgementAt sheet known place.terms.from place.terms.end equations lengths (k + k + d)
        judgement_has = let (o, ts, y, e, is, at) = found_judgement h.ready this.1 x in record { number = k; equation = e; direction = o; terms = ts; are = at }

        pub rule_low : k + k + d < 2 * max_equations
        rule_low = let (o, ts, y, e, is, at) = found_judgement h.ready this.1 x in omega (arith, at.rule_is.number, rule_below h.content.equations k o is, h.ready.rows.few)

      pub comparison_has : place.head ≡ Comparison → (u : Term) × (v : Term) × PairIn sheet (known_arities known) place.terms.from place.terms.end u v
      comparison_has x = let (u, v, e, is) = found_comparison h.ready this.1 x in (u, v, is)
