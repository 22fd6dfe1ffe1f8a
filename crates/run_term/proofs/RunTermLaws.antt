-- Laws for the run of a task's term: what its code hands on, and what it gives.
use Prim.Native.Nat.{ℕ, ◌+◌, ◌-◌, ◌≤◌}
use mathlib.Core.Path.{◌≡◌, sym, ap, subst, ◌∙◌}
use mathlib.Core.Bool.{Bool, true, false}
use mathlib.Core.List.{List}
use lib.ListN.{length, take, drop, length-drop}
use lib.Seq.{take_at, take-take, length-take-le}
use native.Mathlib.Omega.{arith}
use Rattle.format.specs.Limits.{max_symbols, max_steps, max_task_nodes, position_count, node_count}
use Rattle.format.specs.Buffer.{written}
use Rattle.terms.specs.Term.{Term, nil, cons, size}
use Rattle.terms.specs.Equation.{Equation}
use Rattle.terms.specs.Filling.{filling}
use Rattle.terms.specs.Prefix.{prefix}
use Rattle.terms.specs.ForContracts.Stored.{SubjectIs}
use Rattle.terms.specs.Theory.Prefix.{length_prefix}
use Rattle.scanning.specs.declared.known.Known.{Known}
use Rattle.scanning.specs.ForContracts.Scan.{known_arities}
use Rattle.reading.specs.ForContracts.Loading.{TermsIn, HasTermsIn, Loaded}
use Rattle.reducing.specs.Test.{line_test, line_run}
use Rattle.reducing.proofs.Theory.Runs.{run_few}
use Rattle.rules.specs.ForContracts.Rows.{RowsAre}
use Rattle.rules.specs.ForContracts.Walks.{RulesAt, LinesReady}
use Rattle.step_by_position.specs.ForContracts.Next.{NextIs, RulesKept, HasRulesKept}
use Rattle.step_search.specs.ForContracts.Seeking.{RulesReady, RunIs}
use Rattle.run_steps.specs.declared.course.Course.{Course}
use Rattle.run_steps.specs.ForContracts.Course.{CourseIs, last_of}
use Rattle.scanning.specs.Theory.Arities.{symbols_room}
use Rattle.run_term.specs.ForContracts.RunTerm.{RunTermIs, RunCourse}

-- 1. What the run starts from.
loaded_size : {arities nodes sizes : List ℕ} {s : Term} {n : ℕ} → Loaded arities nodes sizes (cons s nil) n → n ≡ size s
unfolding size
loaded_size l = omega (arith, l.counted)

module _ {sheet : List ℕ} {known : Known} {from end : ℕ} {equations lengths bounds : List ℕ} {arities : List ℕ} {es : List Equation} {subject : Term}
    (t : RunTermIs sheet known from end equations lengths bounds es subject) (arities_are : known_arities known ≡ arities) where
  pub term_symbols_room : known.symbols ≤ length known.arities
  term_symbols_room = symbols_room t.roomy t.term_in.few_symbols

  abbrev rule_count : ℕ
  rule_count = known.equations + known.equations

  -- What the code that prepares the table of next rules tells.
  abbrev NextReady : Bool → (table next : List ℕ) → Type 0
  NextReady fits table next = fits ≡ true → (arities : List ℕ) (es : List Equation) → RulesKept equations lengths rule_count bounds table arities es → NextIs next rule_count es

  rules_kept : (table : List ℕ) → RulesAt bounds table es → RulesKept equations lengths rule_count bounds table arities es
  rules_kept table k =
      record { rows = subst (λ a. RowsAre equations lengths a es) arities_are t.rows; counted = omega (arith, t.counted); bounds_length = t.bounds_length; kept = k }

  pub rules_have : (fits : Bool) (table : List ℕ) → LinesReady fits bounds table es → fits ≡ true
      → HasRulesKept equations lengths rule_count bounds table
  rules_have true table r e = record { arities = arities; those = es; are = rules_kept table r }
  rules_have false table r e = let z : ◌≡◌ {A = ℕ} 0 1 = cc in absurd (omega arith)

  rules_ready : (fits : Bool) (table next : List ℕ) → LinesReady fits bounds table es
      → NextReady fits table next
      → RulesReady rule_count bounds next fits table es
  rules_ready fits table next r h = record {
    lines = r;
    bounds_length = t.bounds_length;
    next_is = λ e. h e arities es (rules_kept table (subst (λ b. LinesReady b bounds table es) e r));
  }

  terms_taken : TermsIn sheet arities from end (cons subject nil)
  terms_taken = subst (λ a. TermsIn sheet a from end (cons subject nil)) arities_are t.term_in

  pub terms_have : HasTermsIn sheet arities from end
  terms_have = record { terms = cons subject nil; are = terms_taken }

  -- What the filling's code is called with.
  pub loaded_fits : {nodes sizes : List ℕ} {n : ℕ} → ((ts : _) → TermsIn sheet arities from end ts → Loaded arities nodes sizes ts n)
      → (length arities ≤ max_symbols) × (length nodes ≡ node_count) × (length sizes ≡ node_count)
  loaded_fits load = let l = load (cons subject nil) terms_taken in (l.few_symbols, l.nodes_length, l.sizes_length)

  pub run_is : (fits : Bool) (table next loaded_nodes loaded_sizes nodes sizes : List ℕ) (n : ℕ) → LinesReady fits bounds table es
      → NextReady fits table next
      → ((ts : _) → TermsIn sheet arities from end ts → Loaded arities loaded_nodes loaded_sizes ts n)
      → ((s : Term) (n : ℕ) → Loaded arities loaded_nodes loaded_sizes (cons s nil) n → SubjectIs nodes sizes arities s)
      → RunIs equations lengths rule_count bounds next fits table nodes sizes n arities es subject
  run_is fits table next loaded_nodes loaded_sizes nodes sizes n r h load fill =
      let l = load (cons subject nil) terms_taken in
      record {
        rows = subst (λ a. RowsAre equations lengths a es) arities_are t.rows;
        counted = omega (arith, t.counted);
        ready = rules_ready fits table next r h;
        subject_is = fill subject n l;
        size_is = loaded_size l;
      }

  pub course_known : {k : ℕ} {term term_after log log_after : List ℕ} {c : Course} → RunCourse arities es k subject term term_after log log_after c
      → RunCourse (known_arities known) es k subject term term_after log log_after c
  course_known {k} {term} {term_after} {log} {log_after} {c} = subst (λ a. RunCourse a es k subject term term_after log log_after c) (sym arities_are)

-- 2. What the run gives.

module _ {es : List Equation} {k : ℕ} {subject : Term} {arities log log_after : List ℕ} {c : Course}
    (i : CourseIs arities es k subject log log_after c) where
  -- The nodes from the subject's first on, the filling's among them.
  abbrev subject_room : ℕ
  subject_room = length c.nodes - position_count

  pub course_small : c.size ≤ max_task_nodes
  course_small = omega (arith, i.size_is, i.last_is.inside)

  pub course_few : k ≤ max_steps → c.steps ≤ max_steps
  unfolding line_run
  course_few h = omega (arith, i.steps_are, run_few (filling arities) line_test es k subject)

  pub course_front : c.size ≤ length (take subject_room (drop position_count c.nodes))
  course_front =
      let behind : subject_room ≤ length (drop position_count c.nodes) = omega (arith, length-drop position_count c.nodes, i.last_is.nodes_length) in
      omega (arith, course_small, length-take-le subject_room (drop position_count c.nodes) behind)

  last_bytes : take c.size (take subject_room (drop position_count c.nodes)) ≡ prefix (last_of arities es k subject)
  last_bytes =
      let there = i.last_is.stored.stored.bytes in
      take-take c.size subject_room (drop position_count c.nodes) (omega (arith, course_small, i.last_is.nodes_length))
      ∙ ap (take c.size) there.is
      ∙ take_at (prefix (last_of arities es k subject)) there.rest c.size (length_prefix (last_of arities es k subject) ∙ sym i.size_is)

  pub course_ran : (term term_after : List ℕ) → term_after ≡ written (take c.size (take subject_room (drop position_count c.nodes))) term → RunCourse arities es k subject term term_after log log_after c
  course_ran term term_after x = record {
    steps_are = i.steps_are;
    few_steps = course_few;
    ending_is = i.ending_is;
    size_is = i.size_is;
    small = course_small;
    term_is = x ∙ ap (λ bs. written bs term) last_bytes;
    log_is = i.logged;
  }
