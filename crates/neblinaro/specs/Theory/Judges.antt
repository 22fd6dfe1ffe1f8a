-- What judge gives: "1 or 0, first holding line counted from 1 or 0" (document 01, 'Calls and lent memory').
use Rattle.std.specs.Prelude.{ℕ, zero, suc, ◌+◌, ◌<◌, ◌≡◌, ◌↔◌, Bool, false, List, ltb}
use Rattle.std.proofs.Math.Path.{refl, ap}
use Rattle.std.proofs.Common.{sym, ◌∙◌, lt-ltb, arith}
use Rattle.std.proofs.Math.Bool.{true}
use Rattle.std.proofs.Math.Option.{Option, none, some}
use Rattle.format.specs.declared.refusal.Refusal.TheVariants.{ShortBuffer as short_buffer}
use Rattle.format.specs.Lists.{entry}
use Rattle.format.specs.Theory.Lists.{every_entry}
use Rattle.terms.specs.Term.{Terms}
use Rattle.terms.specs.declared.direction.Direction.{Direction}
use Rattle.terms.specs.ForContracts.Limits.{WithinLimits}
use Rattle.sheet.specs.Sheet.{Task, run, judgement, comparison, Sheet}
use Rattle.sheet.specs.Reading.{Reading, refused_at, accepted, read}
use Rattle.sheet.specs.ForContracts.Valid.{ValidTask}
use Rattle.sheet.specs.Theory.Accepted.{accepted_valid}
use Rattle.solving.specs.Judge.{first_holding}
use Rattle.solving.specs.Theory.Judge.{first_holding_pos, first_holding_is, first_holding_low}
use Rattle.solving.proofs.Theory.Solve.{solve_exact, solved_line_count}
use Rattle.reducing.specs.Test.{BothSolve, holding_in, holding_line, line_test, EverySolves}
use Rattle.reducing.proofs.Theory.Reference.{line_test_is}
use Rattle.reducing.specs.Walks.{equation_line, WalkRefusal, first_refusal}
use Rattle.outcomes.specs.Buffer.{fields, refusal_byte, cleared, blanked}
use Rattle.outcomes.specs.Asked.{found, find, asked, Judgement, values_in, judgement_in, judgement_task}
use Rattle.outcomes.specs.Outcome.{table_fits, table_unsolved, answer_number, judge_fields, judge_walked, judge_answer, judge_call}
use Rattle.outcomes.specs.Theory.Number.{fields_byte, refused_not_zero}
use Rattle.reducing.specs.Theory.Walks.{refused_first, none_refused, every_solves}
use Rattle.neblinaro.specs.Demands.{Served, JudgementNamed, frame_values, frame_instance, JudgeDemand, JudgesDemanded, JudgeServes, JudgeRefusedInOrder}
use Rattle.neblinaro.specs.Theory.Walks.{accepted_limits}

-- 1. What is asked for.
abbrev the_judgement : {sheet : List ℕ} {task : ℕ} → JudgementNamed sheet task → Judgement
the_judgement n = record { equations = n.content.equations; equation = n.equation; direction = n.direction; values = frame_values n }

named_asked : (sheet : List ℕ) (task : ℕ) (n : JudgementNamed sheet task) → asked true sheet (judgement_task task) ≡ accepted (the_judgement n)
unfolding asked find found judgement_task judgement_in values_in
named_asked sheet task n = rw (n.reads, n.task_there, n.equation_there)

-- On an accepted sheet a judgement has its equation, and ground values for its variables.
unfoldable judgement_named : (sheet : List ℕ) (task : ℕ) (s : Sheet) {e : ℕ} {d : Direction} {ts : Terms} → read sheet ≡ accepted s → entry s.tasks task ≡ some (judgement e d ts) → JudgementNamed sheet task
judgement_named sheet task s {e} {d} {ts} r x =
    let (q, there, each, is_ground, small) = every_entry (ValidTask s.arities s.equations) s.tasks task (accepted_valid sheet s r).0.tasks x in
    record { content = s; reads = r; equation_number = e; equation = q; direction = d; values = ts; task_there = x; equation_there = there; one_each = each; values_ground = is_ground }

asked_judgement : (sheet : List ℕ) (task : ℕ) (j : Judgement) → asked true sheet (judgement_task task) ≡ accepted j → (n : JudgementNamed sheet task) × (the_judgement n ≡ j)
unfolding asked find found judgement_task judgement_in
asked_judgement sheet task j h = from (read sheet) refl h
  where
    in_task : (s : Sheet) → read sheet ≡ accepted s → (o : Option Task) → entry s.tasks task ≡ o → found (judgement_in s.equations o) ≡ accepted j → (n : JudgementNamed sheet task) × (the_judgement n ≡ j)
    in_task s r none x h = let z : ◌≡◌ {A = ℕ} 0 1 = cc in absurd (omega arith)
    in_task s r (some (run k u)) x h = let z : ◌≡◌ {A = ℕ} 0 1 = cc in absurd (omega arith)
    in_task s r (some (judgement e d ts)) x k = let n = judgement_named sheet task s r x in let a = sym (named_asked sheet task n) ∙ h in (n, cc)
    in_task s r (some (comparison u w)) x h = let z : ◌≡◌ {A = ℕ} 0 1 = cc in absurd (omega arith)

    from : (r : Reading Sheet) → read sheet ≡ r → find (judgement_task task) r ≡ accepted j → (n : JudgementNamed sheet task) × (the_judgement n ≡ j)
    from (refused_at x l) r h = let z : ◌≡◌ {A = ℕ} 0 1 = cc in absurd (omega arith)
    from (accepted s) r h = in_task s r (entry s.tasks task) refl h

-- 2. The number's fields.
fields_told : (holding : ℕ) → judge_fields holding ≡ fields (answer_number (ltb 0 holding)) holding 0
unfolding judge_fields answer_number
fields_told zero = refl
fields_told (suc i) = rw (lt-ltb 0 (suc i) (omega arith))

-- 0 tells that there is none, where any other number tells that there is one.
none_told : (holding : ℕ) {A : Type 0} → (0 < holding) ↔ A → (holding ≡ 0) ↔ (¬ A)
none_told zero k = (λ h a. let l = k.1 a in omega arith, λ h. refl)
none_told (suc i) k = (λ h. absurd (omega arith), λ h. absurd (h (k.0 (omega arith))))

-- A place before that of a number counted from 1.
before : (holding j : ℕ) → suc j < holding → (i : ℕ) × (holding ≡ suc i) × (j < i)
before zero j l = absurd (omega arith)
before (suc i) j l = (i, refl, omega arith)

module _ (sheet : List ℕ) (task : ℕ) (table scratch : List ℕ) where
  -- 3. Where every direction solves, judge tells the test of a run, and the first line that holds.
  judge_gives : (n : JudgementNamed sheet task) → table_fits table scratch ≡ true → EverySolves n.content.equations
      → judge_call sheet task table scratch
      ≡ record { returned = fields (answer_number (line_test n.equation n.direction (frame_values n))) (holding_line n.equation n.direction (frame_values n)) 0; table = blanked table; scratch = cleared scratch }
  unfolding judge_call judge_answer judge_walked line_test
  judge_gives n f s =
      rw (f, named_asked sheet task n, none_refused 0 n.content.equations s)
      (ap (λ k. record { returned = k; table = blanked table; scratch = cleared scratch }) (fields_told (holding_line n.equation n.direction (frame_values n))))

  -- 4. The demand.
  judge_demand_of : (n : JudgementNamed sheet task) → table_fits table scratch ≡ true → EverySolves n.content.equations → JudgeDemand sheet task table scratch
  unfolding holding_line
  judge_demand_of n f every =
      let w = every_entry BothSolve n.content.equations n.equation_number every n.equation_there n.direction in
      let limits = every_entry WithinLimits n.content.equations n.equation_number (accepted_limits sheet n.content n.reads) n.equation_there in
      let ρ = frame_values n in
      let instances = frame_instance n in
      let told = line_test_is n.equation n.direction w ρ in
      let exact = solve_exact n.equation limits n.direction w.table w.turns w.walked ρ in
      let first : holding_line n.equation n.direction ρ ≡ first_holding ρ instances w.table = ap (holding_in n.equation ρ) w.walked in
      record {
        named = n;
        solves = every;
        lines = w.table;
        turns = w.turns;
        walked = w.walked;
        answer = line_test n.equation n.direction ρ;
        holding = holding_line n.equation n.direction ρ;
        given = judge_gives n f every;
        fits = omega (arith, first, first_holding_low ρ instances w.table, solved_line_count n.equation limits n.direction w.table w.turns w.walked);
        exceeds = (λ h. exact.1 (told.0 h), λ h. told.1 (exact.0 h));
        some_line = told;
        line_holds = λ i h. let k = first_holding_is ρ instances w.table i (sym first ∙ h) in (k.line_there, k.is_there, k.holds);
        none_earlier = λ j l b x. let (i, h, c) = before _ j b in (first_holding_is ρ instances w.table i (sym first ∙ h)).none_before j l c x;
        none_holds = none_told _ (rw first (first_holding_pos ρ instances w.table));
      }

  judge_demand : Served (judge_call sheet task table scratch).returned → JudgeDemand sheet task table scratch
  unfolding judge_call judge_answer judge_walked table_unsolved asked
  judge_demand h = fits (table_fits table scratch) refl h
    where
      walks : (n : JudgementNamed sheet task) → table_fits table scratch ≡ true → (o : Option WalkRefusal) → first_refusal 0 n.content.equations ≡ o
          → refusal_byte (judge_walked table scratch (the_judgement n) o).returned ≡ 0 → JudgeDemand sheet task table scratch
      walks n f (some r) x h = absurd (refused_not_zero r.refusal r.line h)
      walks n f none x h = judge_demand_of n f (every_solves 0 n.content.equations x)

      answer : table_fits table scratch ≡ true → (r : Reading Judgement) → asked true sheet (judgement_task task) ≡ r → refusal_byte (judge_answer table scratch r).returned ≡ 0 → JudgeDemand sheet task table scratch
      answer f (refused_at r l) a h = absurd (refused_not_zero r l h)
      answer f (accepted j) a h =
          let (n, x) = asked_judgement sheet task j a in
          walks n f (first_refusal 0 n.content.equations) refl (ap (λ j. refusal_byte (judge_answer table scratch (accepted j)).returned) x ∙ h)

      fits : (b : Bool) → table_fits table scratch ≡ b → refusal_byte (judge_answer table scratch (asked b sheet (judgement_task task))).returned ≡ 0 → JudgeDemand sheet task table scratch
      fits false f h = absurd (refused_not_zero short_buffer 0 h)
      fits true f h = answer f (asked true sheet (judgement_task task)) refl h

pub judges_demanded : JudgesDemanded
judges_demanded sheet task table scratch h = judge_demand sheet task table scratch h

pub judge_serves : JudgeServes
unfolding judgement_named
judge_serves sheet s task e d values table scratch r x every f = rw (judge_gives sheet task table scratch (judgement_named sheet task s r x) f every) (fields_byte _ _ 0)

-- 5. The first walk that is refused tells the refusal.
pub judge_refused_in_order : JudgeRefusedInOrder
unfolding judge_call judge_answer judge_walked table_unsolved judgement_named
judge_refused_in_order sheet s task e d values table scratch r x f i q o why there stops earlier =
    let line_is : 0 + i ≡ i = omega arith in
    rw (f, named_asked sheet task (judgement_named sheet task s r x), refused_first 0 s.equations i o q there stops earlier)
    (ap (λ k. table_unsolved table scratch why (equation_line k)) line_is)
