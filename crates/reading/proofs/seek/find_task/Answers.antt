-- `reading::seek::find_task` finds a task's frame and takes it apart.
use Rattle.reading.specs.Theory.Found.{task_asked}
use Rattle.reading.proofs.Located.{task_line, task_wanted}
use Rattle.reading.proofs.seek.find_task.Goals as goal

pub frame_at-frame-requires : goal.frame_at-frame-requires
frame_at-frame-requires c = task_wanted _ _ _ c.requires.0 c.requires.1

pub task_head-requires : goal.task_head-requires
task_head-requires c =
    let (t, h) = task_asked _ _ _ c.requires.0 c.requires.1 in
    (t, c.frame_at-frame.ensures _ (task_line _ _ _ c.requires.0 t h))

pub returns : goal.returns
returns c = λ t h. c.task_head.ensures t (c.frame_at-frame.ensures _ (task_line _ _ _ c.requires.0 t h))
