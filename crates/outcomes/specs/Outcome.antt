-- The outcome of each of the six calls (document 01, 'Calls and lent memory' and 'Who can cause a refusal'; document 02, W5, W6, W8 and W9): from the sheet,
-- the arguments and the former bytes of the lent buffers to the number returned and every byte of every buffer at exit. A buffer's length is that of its list.
use Rattle.std.specs.Prelude.{ℕ, zero, suc, Bool, true, false, ◌&&◌, List, [], ◌∷◌, length, leb}
use Rattle.std.proofs.Math.Option.{Option, none, some}
use Rattle.format.specs.Limits.{table_bytes, scratch_bytes, term_bytes, log_bytes}
use Rattle.format.specs.Buffer.{written}
use Rattle.format.specs.declared.refusal.Refusal.{Refusal}
use Rattle.terms.specs.Term.{Term, size}
use Rattle.terms.specs.Equation.{direction_number}
use Rattle.terms.specs.Prefix.{prefix}
use Rattle.ordering.specs.declared.decision.Decision.{Decision}
use Rattle.ordering.specs.Verdict.{verdict_number}
use Rattle.ordering.specs.Decision.{decision, verdict_of, clause_number_of}
use Rattle.sheet.specs.Sheet.{Sheet}
use Rattle.sheet.specs.Reading.{Reading, refused_at, accepted, read}
use Rattle.solving.specs.Line.{records}
use Rattle.solving.specs.Walk.{Walked, solved, refused, solve}
use Rattle.solving.specs.Always.{Answered, answered, unanswered, always}
use Rattle.reducing.specs.Run.{Step, Run, ending_number, last_term}
use Rattle.reducing.specs.Test.{holding_line, line_run}
use Rattle.reducing.specs.Walks.{equation_line, WalkRefusal, first_refusal}
use Rattle.outcomes.specs.Buffer.{fields, refusal_number, cleared, blanked}
use Rattle.outcomes.specs.Asked.{asked, Pair, comparison_task, Directed, direction_asked, Judgement, judgement_task, Reduction, reduction_task}

-- Check: "(refusal, line)". It is lent nothing but the sheet.
unfoldable pub check_answer : Reading Sheet → ℕ
unfolding refusal_number
check_answer (refused_at r line) = refusal_number r line
check_answer (accepted s) = 0

unfoldable pub check_call : (sheet : List ℕ) → ℕ
unfolding check_answer read
check_call sheet = check_answer (read sheet)

-- Compare: "0 smaller, 1 equal, 2 greater"; "the compare call a second field: 01, 02, 03, or 00 for equal" (W8).
unfoldable pub decision_fields : Decision → ℕ
unfolding fields verdict_number verdict_of clause_number_of
decision_fields d = fields (verdict_number (verdict_of d)) (clause_number_of d) 0

pub record CompareOutcome : Type 0 where
  pub returned : ℕ
  pub scratch : List ℕ

-- Refusals write nothing.
unfoldable pub compare_answer : (scratch : List ℕ) → Reading Pair → CompareOutcome
unfolding refusal_number decision_fields decision cleared
compare_answer scratch (refused_at r line) = record { returned = refusal_number r line; scratch = scratch }
compare_answer scratch (accepted c) = record { returned = decision_fields (decision c.first c.second); scratch = cleared scratch }

unfoldable pub compare_call : (sheet : List ℕ) → (task : ℕ) → (scratch : List ℕ) → CompareOutcome
unfolding compare_answer asked comparison_task
compare_call sheet task scratch = compare_answer scratch (asked (leb scratch_bytes (length scratch)) sheet (comparison_task task))

-- Solve, always and judge are lent a table and scratch.
pub record TableOutcome : Type 0 where
  pub returned : ℕ
  pub table : List ℕ
  pub scratch : List ℕ

-- "11, refusals 8 to 10 and the ff after judge, run and W6 go by the longer table" (document 02, W9): all by `table_bytes`.
unfoldable pub table_fits : (table scratch : List ℕ) → Bool
table_fits table scratch = leb table_bytes (length table) && leb scratch_bytes (length scratch)

-- "Refusals 8 to 10 leave" 23,715 (document 02, W9) "table bytes ff and 57,344 scratch bytes 00"
unfoldable pub table_unsolved : (table scratch : List ℕ) → Refusal → (line : ℕ) → TableOutcome
unfolding refusal_number blanked cleared
table_unsolved table scratch r line = record { returned = refusal_number r line; table = blanked table; scratch = cleared scratch }

-- Solve and always, with "the same lent buffers and order of refusals": `gives` is what the call gives where the sheet has the equation and the direction.
unfoldable pub directed_answer : (gives : Directed → TableOutcome) → (table scratch : List ℕ) → Reading Directed → TableOutcome
unfolding refusal_number
directed_answer gives table scratch (refused_at r line) = record { returned = refusal_number r line; table = table; scratch = scratch }
directed_answer gives table scratch (accepted q) = gives q

unfoldable pub directed_call : (gives : Directed → TableOutcome) → (sheet : List ℕ) → (equation direction : ℕ) → (table scratch : List ℕ) → TableOutcome
unfolding directed_answer asked direction_asked table_fits
directed_call gives sheet e d table scratch = directed_answer gives table scratch (asked (table_fits table scratch) sheet (direction_asked e d))

-- Solve: "lines, turns"; "solve's table holds its records, bytes beyond them unchanged".
unfoldable pub solve_walked : (equation : ℕ) → (table scratch : List ℕ) → Walked → TableOutcome
unfolding table_unsolved equation_line fields written records cleared
solve_walked e table scratch (refused r) = table_unsolved table scratch r (equation_line e)
solve_walked e table scratch (solved ls n) = record { returned = fields (length ls) n 0; table = written (records ls) table; scratch = cleared scratch }

unfoldable pub solve_directed : (equation : ℕ) → (table scratch : List ℕ) → Directed → TableOutcome
unfolding solve_walked solve
solve_directed e table scratch q = solve_walked e table scratch (solve q.equation q.direction)

unfoldable pub solve_call : (sheet : List ℕ) → (equation direction : ℕ) → (table scratch : List ℕ) → TableOutcome
unfolding directed_call solve_directed
solve_call sheet e d table scratch = directed_call (solve_directed e table scratch) sheet e d table scratch

-- Always: "Its fields are 1 or 0, and the turns taken by then. Table bytes are left ff, scratch 00."
unfoldable pub answer_number : Bool → ℕ
answer_number true = 1
answer_number false = 0

unfoldable pub always_answered : (equation : ℕ) → (table scratch : List ℕ) → Answered → TableOutcome
unfolding table_unsolved equation_line fields answer_number blanked cleared
always_answered e table scratch (unanswered r) = table_unsolved table scratch r (equation_line e)
always_answered e table scratch (answered b n) = record { returned = fields (answer_number b) n 0; table = blanked table; scratch = cleared scratch }

unfoldable pub always_directed : (equation : ℕ) → (table scratch : List ℕ) → Directed → TableOutcome
unfolding always_answered always
always_directed e table scratch q = always_answered e table scratch (always q.equation q.direction)

unfoldable pub always_call : (sheet : List ℕ) → (equation direction : ℕ) → (table scratch : List ℕ) → TableOutcome
unfolding directed_call always_directed
always_call sheet e d table scratch = directed_call (always_directed e table scratch) sheet e d table scratch

-- Judge: "1 or 0, first holding line counted from 1 or 0"; "judge and run leave the table's first" 23,715 (W9) "bytes ff".
unfoldable pub judge_fields : (holding : ℕ) → ℕ
unfolding fields
judge_fields zero = fields 0 0 0
judge_fields (suc i) = fields 1 (suc i) 0

unfoldable pub judge_walked : (table scratch : List ℕ) → Judgement → Option WalkRefusal → TableOutcome
unfolding table_unsolved judge_fields holding_line blanked cleared
judge_walked table scratch j (some r) = table_unsolved table scratch r.refusal r.line
judge_walked table scratch j none = record { returned = judge_fields (holding_line j.equation j.direction j.values); table = blanked table; scratch = cleared scratch }

unfoldable pub judge_answer : (table scratch : List ℕ) → Reading Judgement → TableOutcome
unfolding refusal_number judge_walked first_refusal
judge_answer table scratch (refused_at r line) = record { returned = refusal_number r line; table = table; scratch = scratch }
judge_answer table scratch (accepted j) = judge_walked table scratch j (first_refusal 0 j.equations)

unfoldable pub judge_call : (sheet : List ℕ) → (task : ℕ) → (table scratch : List ℕ) → TableOutcome
unfolding judge_answer asked judgement_task table_fits
judge_call sheet task table scratch = judge_answer table scratch (asked (table_fits table scratch) sheet (judgement_task task))

-- Run is lent a term and a log besides.
pub record RunOutcome : Type 0 where
  pub returned : ℕ
  pub table : List ℕ
  pub scratch : List ℕ
  pub term : List ℕ
  pub log : List ℕ

unfoldable pub run_fits : (table scratch term log : List ℕ) → Bool
unfolding table_fits
run_fits table scratch term log = table_fits table scratch && leb term_bytes (length term) && leb log_bytes (length log)

-- The log: "equation, direction, position" of each step, in the order taken.
unfoldable pub log_of : List Step → List ℕ
unfolding direction_number
log_of [] = []
log_of (s ∷ steps) = s.equation ∷ direction_number s.direction ∷ s.position ∷ log_of steps

-- Run: "steps, ending, bytes of the term"; "term and log hold the result first, the rest unchanged".
unfoldable pub run_done : (table scratch term log : List ℕ) → (subject : Term) → Run → RunOutcome
unfolding fields ending_number last_term size prefix written blanked cleared log_of
run_done table scratch term log subject r =
    let last = last_term subject r.steps in
    record {
      returned = fields (length r.steps) (ending_number r.ending) (size last);
      table = blanked table;
      scratch = cleared scratch;
      term = written (prefix last) term;
      log = written (log_of r.steps) log;
    }

unfoldable pub run_walked : (table scratch term log : List ℕ) → Reduction → Option WalkRefusal → RunOutcome
unfolding refusal_number blanked cleared run_done line_run
run_walked table scratch term log t (some r) = record { returned = refusal_number r.refusal r.line; table = blanked table; scratch = cleared scratch; term = term; log = log }
run_walked table scratch term log t none = run_done table scratch term log t.subject (line_run t.filling t.equations t.limit t.subject)

unfoldable pub run_answer : (table scratch term log : List ℕ) → Reading Reduction → RunOutcome
unfolding refusal_number run_walked first_refusal
run_answer table scratch term log (refused_at r line) = record { returned = refusal_number r line; table = table; scratch = scratch; term = term; log = log }
run_answer table scratch term log (accepted t) = run_walked table scratch term log t (first_refusal 0 t.equations)

unfoldable pub run_call : (sheet : List ℕ) → (task : ℕ) → (table scratch term log : List ℕ) → RunOutcome
unfolding run_answer asked reduction_task run_fits
run_call sheet task table scratch term log = run_answer table scratch term log (asked (run_fits table scratch term log) sheet (reduction_task task))
