-- `list_run` prints the frames of a run from its course.
use mathlib.Core.Path.{sym}
use native.Mathlib.Omega.{arith}
use lib.Seq.{length-take-le}
use Rattle.rules.specs.Theory.Walks.{lines_stay}
use Rattle.tasks.proofs.RunLaws.{run_given}
use Rattle.tasks.proofs.task.list_run.Goals as goal

pub put_steps-behind-requires : goal.put_steps-behind-requires
put_steps-behind-requires c =
    let has = c.requires.has_run_term.0 in
    let run = c.run_course-course.ensures.run_course has.those has.subject has.is has.ready in
    let few = run.few_steps c.requires.has_run_term.1 in
    (few, omega (arith, few, c.run_course-course.auto.log, c.requires.table_bytes_in_bounds), omega (arith, few, c.requires.table_bytes_in_bounds))

pub slice_bounds-term-end : goal.slice_bounds-term-end
slice_bounds-term-end c =
    let has = c.requires.has_run_term.0 in
    let run = c.run_course-course.ensures.run_course has.those has.subject has.is has.ready in
    omega (arith, run.small, c.run_course-course.auto.term)

pub slice_bounds-last-end : goal.slice_bounds-last-end
slice_bounds-last-end c =
    let has = c.requires.has_run_term.0 in
    let run = c.run_course-course.ensures.run_course has.those has.subject has.is has.ready in
    sym (length-take-le c.run_course-course.result.size c.run_course-course.new.term (omega (arith, run.small, c.run_course-course.auto.term, c.requires.table_bytes_in_bounds)))

pub put_run-bytes-requires : goal.put_run-bytes-requires
put_run-bytes-requires c =
    let has = c.requires.has_run_term.0 in
    let run = c.run_course-course.ensures.run_course has.those has.subject has.is has.ready in
    let few = run.few_steps c.requires.has_run_term.1 in
    let size = length-take-le c.run_course-course.result.size c.run_course-course.new.term (omega (arith, run.small, c.run_course-course.auto.term, c.requires.table_bytes_in_bounds)) in
    (few, omega (arith, run.small, size), omega (arith, few, c.put_steps-behind.ensures.value, c.out-1.given, c.requires.table_bytes_in_bounds))

pub returns-clause-task_given : goal.returns-clause-task_given
returns-clause-task_given c = λ es subject is ready. run_given (c.run_course-course.ensures.run_course es subject is ready) c.requires.has_run_term.1 c.put_steps-behind.ensures.appended c.put_run-bytes.ensures

pub returns-clause-lines_ready : goal.returns-clause-lines_ready
returns-clause-lines_ready c = λ es every ready. lines_stay c.args.asked.opened.fits c.args.bounds.now es c.run_course-course.ensures.table_unchanged ready
