-- `run_task` is run on an accepted sheet.
use Rattle.run_task.proofs.RunTaskLaws.{task_absent, other_there, reduction_found}
use Rattle.run_task.proofs.task.run_task.Goals as goal

pub returns-then-known-task : goal.returns-then-known-task
returns-then-known-task c = task_absent _ _ _ _ _ _ _ c.requires.accepts c.if-known-task.true c.refusal_number.ensures

pub returns-in_default : goal.returns-in_default
returns-in_default c = other_there _ _ _ _ _ _ _ c.requires.accepts c.if-known-task.false c.find_task-found.result c.find_task-found.ensures c.in_default.not-Run c.refusal_number-in_default.ensures

pub run_found-requires-clause-has_reduction : goal.run_found-requires-clause-has_reduction
run_found-requires-clause-has_reduction c =
    record { task = c.args.task; is = reduction_found _ _ _ c.requires.accepts c.if-known-task.false c.find_task-found.result c.find_task-found.ensures c.in-Run.is }

pub returns : goal.returns
returns c =
    c.run_found.ensures c.args.task (reduction_found _ _ _ c.requires.accepts c.if-known-task.false c.find_task-found.result c.find_task-found.ensures c.in-Run.is)
