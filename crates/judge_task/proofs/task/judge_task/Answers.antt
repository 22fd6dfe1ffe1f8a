-- `judge_task` is judge on an accepted sheet.
use native.Mathlib.Omega.{arith}
use Rattle.judge_task.proofs.JudgeTaskLaws.{task_absent, run_there, comparison_there, judgement_found, judgement_has, rule_low}
use Rattle.judge_task.proofs.task.judge_task.Goals as goal

pub returns-then-known-task : goal.returns-then-known-task
returns-then-known-task c = task_absent _ _ _ _ _ c.requires.0 c.if-known-task.true c.refusal_number.ensures

pub overflow_add-equation : goal.overflow_add-equation
overflow_add-equation c =
    omega (arith, rule_low (judgement_found _ _ _ c.requires.0 c.if-known-task.false c.find_task-found.result c.find_task-found.ensures c.in-Judgement.is))

pub overflow_add-equation-in-Judgement : goal.overflow_add-equation-in-Judgement
overflow_add-equation-in-Judgement c =
    omega (arith, rule_low (judgement_found _ _ _ c.requires.0 c.if-known-task.false c.find_task-found.result c.find_task-found.ensures c.in-Judgement.is))

pub judge_found-requires : goal.judge_found-requires
judge_found-requires c =
    (judgement_has _ _ _ c.requires.0 c.if-known-task.false c.find_task-found.result c.find_task-found.ensures c.in-Judgement.is, c.requires.1, c.requires.2)

pub returns-in-Judgement : goal.returns-in-Judgement
returns-in-Judgement c =
    c.judge_found.ensures c.args.task (judgement_found _ _ _ c.requires.0 c.if-known-task.false c.find_task-found.result c.find_task-found.ensures c.in-Judgement.is)

pub returns-in-Comparison : goal.returns-in-Comparison
returns-in-Comparison c =
    comparison_there _ _ _ _ _ c.requires.0 c.if-known-task.false c.find_task-found.result c.find_task-found.ensures c.in-Comparison.is c.refusal_number-in-Comparison.ensures

pub returns-in-Run : goal.returns-in-Run
returns-in-Run c =
    run_there _ _ _ _ _ c.requires.0 c.if-known-task.false c.find_task-found.result c.find_task-found.ensures c.in-Run.is c.refusal_number-in-Run.ensures
