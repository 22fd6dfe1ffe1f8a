-- `from_task` prints a task, or the last frame.
use native.Mathlib.Omega.{arith}
use Rattle.places.proofs.PlaceLaws.{steps_few, total_done, task_low, steps_low, task_done}
use Rattle.places.proofs.step.from_task.Goals as goal

pub returns-then-task-opened : goal.returns-then-task-opened
returns-then-task-opened c =
    let (s, r, at) = c.requires.ready in total_done r _ _ _ c.moved.ensures c.if-task-opened.true (omega (arith, c.requires.table_bytes_in_bounds.2)) c.put_total-bytes.ensures

pub overflow_add-next-2 : goal.overflow_add-next-2
overflow_add-next-2 c =
    let (s, r, at) = c.requires.ready in
    omega (arith, steps_low r (task_low r at.0 c.if-task-opened.false) c.list_task-listed.result c.list_task-listed.ensures.task_given, steps_few r at.0 at.1)

pub returns : goal.returns
returns c =
    let (s, r, at) = c.requires.ready in
    task_done r (task_low r at.0 c.if-task-opened.false) c.list_task-listed.result c.list_task-listed.ensures.task_given _ c.list_task-listed.ensures.lines_ready c.moved-2.ensures at.1
