-- `reading::read::task_frame` reads a task's frame where it is in order.
use Rattle.std.proofs.lemmas.Result.{err_from_is_err_and}
use Rattle.reading.proofs.OneFrame.{before_equations, tasks_full, task_refused, task_done}
use Rattle.reading.proofs.read.task_frame.Goals as goal
use Rattle.reading.proofs.read.task_frame.Goals.{then-known-eq0-via-then-known-eq0, then-known-eq0-via-else-known-eq0+then-known-ge-TASKS}

pub returns-then-known-eq0 : goal.returns-then-known-eq0
returns-then-known-eq0 c = λ sheet knows. elim c.then-known-eq0.branch [
  | then-known-eq0-via-then-known-eq0 w ↦ before_equations _ sheet knows w.if-known-eq0.true _ c.requires.2 _
  | then-known-eq0-via-else-known-eq0+then-known-ge-TASKS w ↦ tasks_full _ sheet knows w.if-known-ge-TASKS.true _ c.requires.2 _
]

pub returns-in_err-task_body : goal.returns-in_err-task_body
returns-in_err-task_body c =
    let p = err_from_is_err_and c.from_residual.result c.from_residual.ensures.1 in
    rw (p.1, p.2) (λ sheet knows. task_refused _ sheet knows c.if-known-eq0.false c.if-known-ge-TASKS.false _ c.requires.2 _ (c.in_err-task_body.ensures sheet knows))

pub returns : goal.returns
returns c = λ sheet knows.
    task_done _ sheet knows c.if-known-eq0.false c.if-known-ge-TASKS.false _ c.requires.2 _ c.requires.0.body.are_bytes (c.in_ok-task_body.ensures sheet knows) c.with_task.ensures
