-- `run_found` walks every rule, runs the term, and leaves the table and scratch blank.
use mathlib.Core.Path.{◌≡◌, refl, ap, ◌∙◌}
use native.Mathlib.Omega.{arith}
use lib.ListN.{drop}
use Rattle.format.specs.Limits.{table_bytes, scratch_bytes}
use Rattle.scanning.specs.ForContracts.Scan.{known_arities}
use Rattle.run_task.specs.ForContracts.RunTask.{RanAs}
use Rattle.run_task.proofs.RunTaskLaws.{ran_as, number_ran, refused_as, its_equations, its_run, limit_low, equation_fits, its_lines, term_had, scratch_behind, reduction_answered}
use Rattle.outcomes.specs.Theory.Fill.{cleared_behind, blanked_behind}
use Rattle.run_task.proofs.task.run_found.Goals.{in-Err, in-Ok}
use Rattle.run_task.proofs.task.run_found.Goals as goal

pub overflow_add-stopped : goal.overflow_add-stopped
overflow_add-stopped c =
    let low = equation_fits c.requires.has_reduction.is _ _ _ _ c.store_equations.ensures _ c.keep_rules-walked.ensures.by_index c.in-Err.is in
    omega arith

pub refusal_number-number-requires : goal.refusal_number-number-requires
refusal_number-number-requires c =
    equation_fits c.requires.has_reduction.is _ _ _ _ c.store_equations.ensures _ c.keep_rules-walked.ensures.by_index c.in-Err.is

pub run_course-course-requires-clause-has_run_term : goal.run_course-course-requires-clause-has_run_term
run_course-course-requires-clause-has_run_term c =
    let is = c.requires.has_reduction.is in
    (term_had is _ _ _ _ c.store_equations.ensures _ c.keep_rules-walked.ensures.by_index c.keep_rules-walked.auto.bounds c.in-Ok.fits c.in-Ok.is, limit_low is)

pub course_number-number-requires : goal.course_number-number-requires
course_number-number-requires c =
    let is = c.requires.has_reduction.is in
    let course = c.run_course-course.ensures.run_course (its_equations is) is.subject (its_run is _ _ _ c.store_equations.ensures c.keep_rules-walked.auto.bounds)
    (its_lines is _ _ _ _ c.store_equations.ensures _ c.keep_rules-walked.ensures.by_index c.in-Ok.fits c.in-Ok.is) in
    (course.few_steps (limit_low is), course.small)

pub returns : goal.returns
returns c task is =
    let table = c.args.table.now in
    let scratch = c.args.scratch.now in
    let term = c.args.term.now in
    let log = c.args.log.now in
    let now = c.match-walked in
    let walks = c.keep_rules-walked.ensures in
    let behind : (drop table_bytes now.table ≡ drop table_bytes table) × (drop scratch_bytes now.scratch ≡ drop scratch_bytes scratch) × RanAs c.keep_rules-walked.result (known_arities c.args.known) (its_equations is) c.args.limit is.subject term now.term log now.log now.number =
    elim now.branch [
      | in-Err w ↦ (
        ap (drop table_bytes) w.table-is ∙ walks.table_unchanged,
        ap (drop scratch_bytes) w.scratch-is ∙ scratch_behind scratch c.keep_rules-walked.new.scratch c.keep_rules-walked.new.scratch walks.scratch_unchanged refl,
        refused_as (known_arities c.args.known) (its_equations is) c.args.limit is.subject w.in-Err.is w.term-is w.log-is (w.number-is ∙ w.refusal_number-number.ensures),
      )
      | in-Ok w ↦
          let ran = w.run_course-course.ensures in
          let course = ran.run_course (its_equations is) is.subject (its_run is _ _ _ c.store_equations.ensures c.keep_rules-walked.auto.bounds)
          (its_lines is _ _ _ _ c.store_equations.ensures _ walks.by_index w.in-Ok.fits w.in-Ok.is) in (
            ap (drop table_bytes) w.table-is ∙ ran.table_unchanged_2 ∙ walks.table_unchanged,
            ap (drop scratch_bytes) w.scratch-is ∙ scratch_behind scratch c.keep_rules-walked.new.scratch w.run_course-course.new.scratch walks.scratch_unchanged ran.scratch_unchanged,
            ran_as w.in-Ok.is (number_ran course w.term-is w.log-is (w.number-is ∙ w.course_number-number.ensures)),
          )
    ] in
    reduction_answered is _ _ _ _ c.store_equations.ensures _ walks.by_index table scratch term log
    (blanked_behind table now.table c.fill.new.buffer behind.0 c.fill.ensures)
    (cleared_behind scratch_bytes scratch now.scratch c.fill-2.new.buffer (omega arith) behind.1 c.fill-2.ensures)
    behind.2
