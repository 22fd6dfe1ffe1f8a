-- Laws for the call compare: what it earns, by the task that is found.
use Prim.Native.Nat.{ℕ, ◌≤◌, ◌<◌}
use mathlib.Core.Path.{◌≡◌, sym, ap, subst, ◌∙◌}
use mathlib.Core.Option.{Option, none, some}
use mathlib.Core.List.{List, ◌++◌, append-nil}
use lib.ListN.{length}
use native.Mathlib.Omega.{arith}
use Rattle.format.specs.declared.refusal.Refusal.TheVariants.{AbsentArgument as absent_argument}
use Rattle.format.specs.Lists.{entry}
use Rattle.format.specs.Theory.Lists.{entry_none, every_entry}
use Rattle.terms.specs.Term.{Term, size, Ground}
use Rattle.terms.specs.Prefix.{prefix}
use Rattle.ordering.specs.declared.decision.Decision.{Decision}
use Rattle.ordering.specs.Decision.{decision}
use Rattle.scanning.specs.declared.known.Known.{Known}
use Rattle.reading.specs.declared.seek.TaskFound.{TaskFound}
use Rattle.reading.specs.declared.seek.TaskHead.TheVariants.{Run, Judgement, Comparison}
use Rattle.sheet.specs.Sheet.{Task, run, judgement, comparison, Sheet}
use Rattle.sheet.specs.Reading.{accepted, read}
use Rattle.scanning.specs.ForContracts.Scan.{known_arities}
use Rattle.scanning.specs.ForContracts.Known.{Roomy}
use Rattle.reading.specs.ForContracts.Seek.{Accepts, TaskIn, TaskAt, Spans, task_terms}
use Rattle.sheet.specs.ForContracts.Valid.{ValidTask}
use Rattle.sheet.specs.Theory.Accepted.{accepted_valid}
use Rattle.reading.specs.Theory.Found.{task_asked, is_run, is_judgement, is_comparison}
use Rattle.outcomes.specs.Buffer.{refusal_number, cleared}
use Rattle.outcomes.specs.Asked.{found, find, asked, comparison_in, comparison_task}
use Rattle.outcomes.specs.Outcome.{decision_fields, compare_answer}
use Rattle.outcomes.specs.Theory.Outcomes.{compare_outcome, compare_answered}
use Rattle.compare_task.specs.ForContracts.Comparison.{PairIn}

module _ (sheet scratch : List ℕ) (task : ℕ) where
  answer_of : (s : Sheet) → read sheet ≡ accepted s → (o : Option Task) → entry s.tasks task ≡ o → compare_answered sheet scratch task ≡ compare_answer scratch (found (comparison_in o))
  unfolding asked find comparison_task
  answer_of s r o h = ap (λ x. compare_answer scratch (find (comparison_task task) x)) r ∙ ap (λ o. compare_answer scratch (found (comparison_in o))) h

  module _ (known : Known) (a : Accepts sheet known) where
    pub task_absent : known.tasks ≤ task → {n : ℕ} → n ≡ refusal_number absent_argument 0 → compare_answered sheet scratch task ≡ compare_outcome n scratch
    unfolding compare_answer found comparison_in
    task_absent h e = let (s, r, g) = a in answer_of s r none (entry_none s.tasks task (omega (arith, g.tasks_are))) ∙ ap (λ n. compare_outcome n scratch) (sym e)

    module _ (there : task < known.tasks) (place : TaskFound) (each : (t : Task) → TaskIn sheet task t → TaskAt sheet t place) where
      pub run_there : {k n : ℕ} → place.head ≡ Run k → n ≡ refusal_number absent_argument 0 → compare_answered sheet scratch task ≡ compare_outcome n scratch
      unfolding compare_answer found comparison_in
      run_there {k} h e =
          let (t, i) = task_asked sheet known task a there in
          let (u, x) = is_run t (sym (each t i).0 ∙ h) in
          let (s, r, y) = i in
          answer_of s r (some (run k u)) (y ∙ ap some x) ∙ ap (λ n. compare_outcome n scratch) (sym e)

      pub judgement_there : {k d n : ℕ} → place.head ≡ Judgement k d → n ≡ refusal_number absent_argument 0 → compare_answered sheet scratch task ≡ compare_outcome n scratch
      unfolding compare_answer found comparison_in
      judgement_there {k} h e =
          let (t, i) = task_asked sheet known task a there in
          let (o, ts, x, z) = is_judgement t (sym (each t i).0 ∙ h) in
          let (s, r, y) = i in
          answer_of s r (some (judgement k o ts)) (y ∙ ap some x) ∙ ap (λ n. compare_outcome n scratch) (sym e)

      -- The two terms of a comparison.
      pub record PairFound : Type 0 where
        pub first : Term
        pub second : Term
        pub is_task : TaskIn sheet task (comparison first second)
        pub pair : PairIn sheet (known_arities known) place.terms.from place.terms.end first second

      pub pair_found : place.head ≡ Comparison → PairFound
      unfolding task_terms prefix size
      pair_found h =
          let (t, i) = task_asked sheet known task a there in
          let (u, v, x) = is_comparison t (sym (each t i).0 ∙ h) in
          let j : TaskIn sheet task (comparison u v) = subst (TaskIn sheet task) x i in
          let (s, r, y) = j in
          let (s', r', g) = a in
          let e : accepted s' ≡ accepted s = sym r' ∙ r in
          let d : s' ≡ s = cc in
          let arities = g.arities_are ∙ ap (λ s. s.arities) d in
          let valid : ValidTask s.arities s.equations (comparison u v) = every_entry (ValidTask s.arities s.equations) s.tasks task (accepted_valid sheet s r).0.tasks y in
          record {
            first = u;
            second = v;
            is_task = j;
            pair = record {
              spans = subst (Spans sheet place.terms.from place.terms.end) (ap (prefix u ++◌) (sym (append-nil (prefix v)))) (each (comparison u v) j).1;
              is_ground = (subst (λ arities. Ground arities u) (sym arities) valid.0, (subst (λ arities. Ground arities v) (sym arities) valid.1, tt));
              few_nodes = omega (arith, valid.2);
              few_symbols = omega (arith, ap length g.arities_are, g.valid.symbols.few_symbols);
            };
          }

      pub pair_has : place.head ≡ Comparison → (s : Term) × (t : Term) × PairIn sheet (known_arities known) place.terms.from place.terms.end s t
      pair_has h = let f = pair_found h in (f.first, f.second, f.pair)

      pub comparison_there : (h : place.head ≡ Comparison) (d : Decision) (after : List ℕ) {n : ℕ}
          → ((s t : Term) → PairIn sheet (known_arities known) place.terms.from place.terms.end s t → d ≡ decision s t) → n ≡ decision_fields d
          → after ≡ cleared scratch → compare_answered sheet scratch task ≡ compare_outcome n after
      unfolding compare_answer found comparison_in
      comparison_there h d after {n} v e c =
          let f = pair_found h in
          let (s, y, z) = f.is_task in
          let told : decision_fields (decision f.first f.second) ≡ n = ap decision_fields (sym (v f.first f.second f.pair)) ∙ sym e in
          answer_of s y (some (comparison f.first f.second)) z ∙ ap (λ n. compare_outcome n (cleared scratch)) told ∙ ap (compare_outcome n) (sym c)

    pub known_roomy : Roomy known
    known_roomy = let (s, r, g) = a in g.roomy
