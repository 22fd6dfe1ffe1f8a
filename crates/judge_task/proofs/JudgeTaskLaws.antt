-- Laws for the call judge: what it earns, by the task that is found and by the walks.
use Prim.Native.Nat.{ℕ, zero, suc, ◌+◌, ◌*◌, ◌≤◌, ◌<◌}
use mathlib.Core.Path.{◌≡◌, refl, sym, ap, subst, ◌∙◌}
use mathlib.Core.Bool.{true}
use mathlib.Core.Option.{Option, none, some}
use mathlib.Core.List.{List}
use lib.ListN.{length, take, drop}
use native.Mathlib.Omega.{arith}
use Rattle.format.specs.Limits.{no_position, max_text, max_equations, table_bytes, scratch_bytes}
use Rattle.format.specs.Lists.{entry}
use Rattle.format.specs.declared.refusal.Refusal.TheVariants.{AbsentArgument as absent_argument}
use Rattle.format.specs.Theory.Lists.{entry_none, every_entry}
use Rattle.format.specs.Theory.Behind.{behind_more}
use Rattle.terms.specs.Term.{Terms, count, Grounds}
use Rattle.terms.specs.Equation.{Equation}
use Rattle.terms.specs.declared.direction.Direction.{Direction}
use Rattle.scanning.specs.declared.known.Known.{Known}
use Rattle.scanning.specs.ForContracts.Scan.{known_arities}
use Rattle.scanning.specs.ForContracts.Known.{Roomy}
use Rattle.sheet.specs.Sheet.{Task, run, judgement, comparison, Sheet, equation_width}
use Rattle.sheet.specs.Reading.{accepted, read}
use Rattle.sheet.specs.ForContracts.Valid.{ValidTask}
use Rattle.sheet.specs.Theory.Accepted.{accepted_valid}
use Rattle.reading.specs.declared.seek.TaskFound.{TaskFound}
use Rattle.reading.specs.declared.seek.TaskHead.TheVariants.{Run, Judgement as Judgement-head, Comparison}
use Rattle.reading.specs.ForContracts.Seek.{Accepts, TaskIn, TaskAt, task_terms}
use Rattle.reading.specs.Theory.Found.{task_asked, is_run, is_judgement, is_comparison}
use Rattle.reading.specs.ForContracts.Loading.{TermsIn, Loaded}
use Rattle.reducing.specs.Test.{holding_line, given_values}
use Rattle.reducing.specs.Walks.{equation_line, WalkRefusal, first_refusal}
use Rattle.walking.specs.ForContracts.Walking.{memory_bytes}
use Rattle.outcomes.specs.Buffer.{field_limit, fields, refusal_number, filled, cleared, blanked}
use Rattle.outcomes.specs.Asked.{found, find, asked, values_in, judgement_in, judgement_task}
use Rattle.reducing.specs.Theory.Walks.{refusal_low}
use Rattle.reducing.specs.Theory.Rules.{rule_below}
use Rattle.outcomes.specs.Outcome.{TableOutcome, table_unsolved, judge_fields, judge_walked, judge_answer}
use Rattle.outcomes.specs.Theory.Outcomes.{table_outcome}
use Rattle.outcomes.specs.Theory.Fill.{cleared_behind, blanked_behind}
use Rattle.rules.specs.ForContracts.Rows.{RowsAre, HasRows}
use Rattle.scanning.specs.Theory.Arities.{symbols_room, symbols_taken, arities_taken}
use Rattle.judge_rule.specs.ForContracts.Judgement.{JudgeIs, JudgedAs}
use Rattle.judge_task.specs.ForContracts.JudgeTask.{JudgementIn, HasJudgement, ValuesIn, HasValues, JudgedIn, HasJudged, JudgedNumber}
use Rattle.judge_task.specs.Theory.Holding.{holding_few}
use Rattle.std.specs.Prelude.{Option as Maybe, Some, None, Result, Ok, Err}
use Rattle.rules.specs.declared.walks.RefusedWalk.{RefusedWalk}
use Rattle.solving.specs.ForContracts.Told.{LineTold}

-- 1. The lent buffers are left blank.
pub walk_behind : (scratch worked : List ℕ) → drop memory_bytes worked ≡ drop memory_bytes scratch → drop scratch_bytes worked ≡ drop scratch_bytes scratch
walk_behind scratch worked = behind_more scratch_bytes memory_bytes worked scratch (omega arith)

pub left_over : (n : ℕ) (table table' blank scratch scratch' last : List ℕ) → drop table_bytes table' ≡ drop table_bytes table → blank ≡ filled table_bytes no_position table'
    → drop scratch_bytes scratch' ≡ drop scratch_bytes scratch → last ≡ filled scratch_bytes 0 scratch' → table_outcome n (blanked table) (cleared scratch) ≡ table_outcome n blank last
left_over n table table' blank scratch scratch' last t b s l =
    ap (λ t. table_outcome n t (cleared scratch)) (sym (blanked_behind table table' blank t b)) ∙ ap (table_outcome n blank) (sym (cleared_behind scratch_bytes scratch scratch' last (omega arith) s l))

-- 2. The values of a judgement, and the lines of its rule.
module _ {sheet : List ℕ} {known : Known} {from end : ℕ} {equations lengths : List ℕ} {rule : ℕ} {table : List ℕ} {filled i : ℕ} {e : Equation} {d : Direction} {ts : Terms}
    (v : ValuesIn sheet known from end equations lengths rule table filled i e d ts) where
  pub values_room : known.symbols ≤ length known.arities
  values_room = symbols_room v.roomy v.terms_in.few_symbols

  pub values_symbols : known.symbols ≡ length (take known.symbols known.arities)
  values_symbols = symbols_taken v.roomy v.terms_in.few_symbols

  pub values_taken : TermsIn sheet (take known.symbols known.arities) from end ts
  values_taken = subst (λ a. TermsIn sheet a from end ts) (arities_taken v.roomy v.terms_in.few_symbols) v.terms_in

  pub values_judged : (nodes sizes : List ℕ) (n : ℕ) → Loaded (take known.symbols known.arities) nodes sizes ts n
      → JudgeIs equations lengths rule table (record { from = 0; end = filled }) nodes sizes n (known_arities known) i e d v.kept ts
  values_judged nodes sizes n l =
      record {
        rule_is = v.rule_is;
        proper = v.proper;
        there = v.there;
        loaded = subst (λ a. Loaded a nodes sizes ts n) (sym (arities_taken v.roomy v.terms_in.few_symbols)) l;
        one_each = v.one_each;
      }

  holding_low : {r : ℕ} → r ≡ holding_line e d (given_values ts) → r < field_limit
  holding_low h = omega (arith, holding_few v h)

-- 3. The number, by what the walks gave.
pub none_holds : {line n : ℕ} → line ≡ 0 → n ≡ 0 → n ≡ judge_fields line
unfolding judge_fields fields
none_holds h e = e ∙ sym (ap judge_fields h)

pub some_holds : (line : ℕ) {n : ℕ} → (line ≡ 0 → ⊥) → n ≡ fields 1 line 0 → n ≡ judge_fields line
unfolding judge_fields
some_holds zero h e = absurd (h refl)
some_holds (suc i) h e = e

module _ {sheet : List ℕ} {known : Known} {from end : ℕ} {equations lengths : List ℕ} {rule : ℕ} {judged : Result ℕ RefusedWalk} {table : List ℕ} {es : List Equation} {i : ℕ} {e : Equation} {d : Direction} {ts : Terms}
    (j : JudgedIn sheet known from end equations lengths rule judged table es i e d ts) where
  judged_to : {w : Result ℕ RefusedWalk} → judged ≡ w → JudgedAs es rule table w
  judged_to h = subst (JudgedAs es rule table) h j.walked

  pub refused_fits : {stopped : RefusedWalk} → judged ≡ Err stopped → stopped.equation + 2 ≤ max_text
  unfolding equation_line
  refused_fits {stopped} h = omega (arith, refusal_low 0 es (record { refusal = stopped.why; line = equation_line stopped.equation }) (judged_to h), j.few)

  pub refused_told : {stopped : RefusedWalk} {n : ℕ} → judged ≡ Err stopped → n ≡ refusal_number stopped.why (stopped.equation + 2) → JudgedNumber judged e d (given_values ts) n
  unfolding equation_line
  refused_told {n = n} h x = subst (λ w. JudgedNumber w e d (given_values ts) n) (sym h) x

  module _ {filled : ℕ} (h : judged ≡ Ok filled) where
    pub values_there : ValuesIn sheet known from end equations lengths rule table filled i e d ts
    values_there =
        let (kept, turns, solves, proper, there) = (judged_to h).1 i e d j.numbered j.rule_is.number in
        record {
          rule_is = j.rule_is;
          kept = kept;
          turns = turns;
          solves = solves;
          proper = proper;
          there = there;
          terms_in = j.terms_in;
          one_each = j.one_each;
          roomy = j.roomy;
        }

    pub values_has : HasValues sheet known from end equations lengths rule table filled
    values_has = record { number = i; equation = e; direction = d; terms = ts; are = values_there }

    number_told : {n : ℕ} → n ≡ judge_fields (holding_line e d (given_values ts)) → JudgedNumber judged e d (given_values ts) n
    number_told {n} x = subst (λ w. JudgedNumber w e d (given_values ts) n) (sym h) x

    module _ {told : Maybe ℕ} (holds : (i : ℕ) (e : Equation) (d : Direction) (ts : Terms) → ValuesIn sheet known from end equations lengths rule table filled i e d ts → LineTold told (holding_line e d (given_values ts))) where
      told_as : {r : Maybe ℕ} → told ≡ r → LineTold r (holding_line e d (given_values ts))
      told_as x = subst (λ r. LineTold r (holding_line e d (given_values ts))) x (holds i e d ts values_there)

      pub line_low : {line : ℕ} → told ≡ Some line → line < field_limit
      line_low x = holding_low values_there (sym (told_as x).1)

      pub none_told : {n : ℕ} → told ≡ None → n ≡ 0 → JudgedNumber judged e d (given_values ts) n
      none_told x y = number_told (none_holds (told_as x) y)

      pub some_told : {line n : ℕ} → told ≡ Some line → n ≡ fields 1 line 0 → JudgedNumber judged e d (given_values ts) n
      some_told {line} x y = let (low, is) = told_as x in number_told (some_holds line (λ z. omega arith) y ∙ ap judge_fields (sym is))

-- 4. What judge earns, by the task.
module _ (sheet table scratch : List ℕ) (task : ℕ) where
  abbrev pub judge_answered : TableOutcome
  judge_answered = judge_answer table scratch (asked true sheet (judgement_task task))

  answer_of : (s : Sheet) → read sheet ≡ accepted s → (o : Option Task) → entry s.tasks task ≡ o → judge_answered ≡ judge_answer table scratch (found (judgement_in s.equations o))
  unfolding asked find judgement_task
  answer_of s r o h = ap (λ x. judge_answer table scratch (find (judgement_task task) x)) r ∙ ap (λ o. judge_answer table scratch (found (judgement_in s.equations o))) h

  module _ (known : Known) (a : Accepts sheet known) where
    pub task_absent : known.tasks ≤ task → {n : ℕ} → n ≡ refusal_number absent_argument 0 → judge_answered ≡ table_outcome n table scratch
    unfolding judge_answer found judgement_in
    task_absent h e = let (s, r, g) = a in answer_of s r none (entry_none s.tasks task (omega (arith, g.tasks_are))) ∙ ap (λ n. table_outcome n table scratch) (sym e)

    module _ (there : task < known.tasks) (place : TaskFound) (each : (t : Task) → TaskIn sheet task t → TaskAt sheet t place) where
      pub run_there : {k n : ℕ} → place.head ≡ Run k → n ≡ refusal_number absent_argument 0 → judge_answered ≡ table_outcome n table scratch
      unfolding judge_answer found judgement_in
      run_there {k} h e =
          let (t, i) = task_asked sheet known task a there in
          let (u, x) = is_run t (sym (each t i).0 ∙ h) in
          let (s, r, y) = i in
          answer_of s r (some (run k u)) (y ∙ ap some x) ∙ ap (λ n. table_outcome n table scratch) (sym e)

      pub comparison_there : {n : ℕ} → place.head ≡ Comparison → n ≡ refusal_number absent_argument 0 → judge_answered ≡ table_outcome n table scratch
      unfolding judge_answer found judgement_in
      comparison_there h e =
          let (t, i) = task_asked sheet known task a there in
          let (u, v, x) = is_comparison t (sym (each t i).0 ∙ h) in
          let (s, r, y) = i in
          answer_of s r (some (comparison u v)) (y ∙ ap some x) ∙ ap (λ n. table_outcome n table scratch) (sym e)

-- The task is a judgement.
module _ (sheet : List ℕ) (known : Known) (task : ℕ) (a : Accepts sheet known) (there : task < known.tasks) (place : TaskFound) (each : (t : Task) → TaskIn sheet task t → TaskAt sheet t place)
    {k d : ℕ} (h : place.head ≡ Judgement-head k d) where
  pub judgement_found : JudgementIn sheet known (k + k + d) place.terms.from place.terms.end task
  judgement_found =
      let (t, i) = task_asked sheet known task a there in
      let (o, ts, x, y) = is_judgement t (sym (each t i).0 ∙ h) in
      let j : TaskIn sheet task (judgement k o ts) = subst (TaskIn sheet task) x i in
      record { accepts = a; number = k; direction = o; terms = ts; is_task = j; is_rule = omega (arith, y); spans = (each (judgement k o ts) j).1 }

  pub judgement_has : HasJudgement sheet known (k + k + d) place.terms.from place.terms.end
  judgement_has = record { task = task; is = judgement_found }

-- 5. A judgement that is found.
module _ {sheet : List ℕ} {known : Known} {rule from end task : ℕ} (j : JudgementIn sheet known rule from end task) where
  -- Its sheet, its equation and its values.
  record TaskParts : Type 0 where
    content : Sheet
    reads : read sheet ≡ accepted content
    counted : known.equations ≡ length content.equations
    few_equations : length content.equations ≤ max_equations
    is_task : entry content.tasks task ≡ some (judgement j.number j.direction j.terms)
    equation : Equation
    is_equation : entry content.equations j.number ≡ some equation
    one_each : count j.terms ≡ equation_width equation
    terms_in : TermsIn sheet (known_arities known) from end j.terms
    roomy : Roomy known

  parts : TaskParts
  unfolding task_terms
  parts =
      let (s, r, y) = j.is_task in
      let (s', r', g) = j.accepts in
      let e : accepted s' ≡ accepted s = sym r' ∙ r in
      let d : s' ≡ s = cc in
      let arities = g.arities_are ∙ ap (λ s. s.arities) d in
      let all = (accepted_valid sheet s r).0 in
      let valid : ValidTask s.arities s.equations (judgement j.number j.direction j.terms) = every_entry (ValidTask s.arities s.equations) s.tasks task all.tasks y in
      record {
        content = s;
        reads = r;
        counted = g.equations_are ∙ ap (λ s. length s.equations) d;
        few_equations = all.few_equations;
        is_task = y;
        equation = valid.0;
        is_equation = valid.1;
        one_each = valid.2;
        terms_in = record {
          spans = j.spans;
          is_ground = subst (λ arities. Grounds arities j.terms) (sym arities) valid.3;
          few_nodes = valid.4;
          few_symbols = omega (arith, ap length g.arities_are, g.valid.symbols.few_symbols);
        };
        roomy = g.roomy;
      }

  pub rule_low : rule < 2 * max_equations
  rule_low = omega (arith, j.is_rule, parts.few_equations, rule_below parts.content.equations j.number j.direction parts.is_equation)

  module _ (table scratch : List ℕ) where
    answer_is : (o : Option WalkRefusal) → first_refusal 0 parts.content.equations ≡ o
        → judge_answered sheet table scratch task ≡ judge_walked table scratch (record { equations = parts.content.equations; equation = parts.equation; direction = j.direction; values = given_values j.terms }) o
    unfolding judge_answer found judgement_in values_in
    answer_is o h =
        let es = parts.content.equations in
        answer_of sheet table scratch task parts.content parts.reads (some (judgement j.number j.direction j.terms)) parts.is_task
        ∙ ap (λ q. judge_answer table scratch (found (values_in es q j.direction (given_values j.terms)))) parts.is_equation
        ∙ ap (judge_walked table scratch (record { equations = es; equation = parts.equation; direction = j.direction; values = given_values j.terms })) h

    answer_told : (worked : List ℕ) (judged : Result ℕ RefusedWalk) {n : ℕ} → JudgedAs parts.content.equations rule worked judged → JudgedNumber judged parts.equation j.direction (given_values j.terms) n
        → judge_answered sheet table scratch task ≡ table_outcome n (blanked table) (cleared scratch)
    unfolding judge_walked table_unsolved
    answer_told worked (Err stopped) w x = answer_is (some (record { refusal = stopped.why; line = equation_line stopped.equation })) w ∙ ap (λ n. table_outcome n (blanked table) (cleared scratch)) (sym x)
    answer_told worked (Ok filled) w x = answer_is none w.0 ∙ ap (λ n. table_outcome n (blanked table) (cleared scratch)) (sym x)

  module _ (equations lengths : List ℕ) (rows : (s : Sheet) → read sheet ≡ accepted s → RowsAre equations lengths (known_arities known) s.equations) where
    rows_are : RowsAre equations lengths (known_arities known) parts.content.equations
    rows_are = rows parts.content parts.reads

    pub rows_has : HasRows equations lengths known.equations
    rows_has = record { arities = known_arities known; those = parts.content.equations; are = rows_are; counted = parts.counted }

    module _ (worked : List ℕ) (judged : Result ℕ RefusedWalk) (walked : (arities : List ℕ) (es : List Equation) → RowsAre equations lengths arities es → known.equations ≡ length es → JudgedAs es rule worked judged) where
      judged_in : JudgedIn sheet known from end equations lengths rule judged worked parts.content.equations j.number parts.equation j.direction j.terms
      judged_in = record {
        few = parts.few_equations;
        numbered = parts.is_equation;
        rule_is = record { row = rows_are.row j.number parts.equation parts.is_equation; number = j.is_rule };
        walked = walked (known_arities known) parts.content.equations rows_are parts.counted;
        terms_in = parts.terms_in;
        one_each = parts.one_each;
        roomy = parts.roomy;
      }

      pub judged_has : HasJudged sheet known from end equations lengths rule judged worked
      judged_has = record { those = parts.content.equations; number = j.number; equation = parts.equation; direction = j.direction; terms = j.terms; are = judged_in }

      pub judgement_told : (table scratch : List ℕ) {n : ℕ}
          → ((es : List Equation) (i : ℕ) (e : Equation) (d : Direction) (ts : Terms) → JudgedIn sheet known from end equations lengths rule judged worked es i e d ts → JudgedNumber judged e d (given_values ts) n)
          → judge_answered sheet table scratch task ≡ table_outcome n (blanked table) (cleared scratch)
      judgement_told table scratch told =
          answer_told table scratch worked judged judged_in.walked (told parts.content.equations j.number parts.equation j.direction j.terms judged_in)
