-- `compare_task` is compare on an accepted sheet.
use Rattle.compare_task.proofs.CompareTask.{task_absent, run_there, judgement_there, pair_has, comparison_there, known_roomy}
use Rattle.compare_task.proofs.compare.compare_task.Goals as goal

pub returns-then-known-task : goal.returns-then-known-task
returns-then-known-task c = task_absent _ _ _ _ c.requires.0 c.if-known-task.true c.refusal_number.ensures

pub compare_terms-decision-requires : goal.compare_terms-decision-requires
compare_terms-decision-requires c =
    record { pair_in = pair_has _ c.args.scratch.now _ _ c.requires.0 c.if-known-task.false c.find_task-found.result c.find_task-found.ensures c.in-Comparison.is; roomy = (known_roomy _ c.args.scratch.now c.args.task _ c.requires.0, c.requires.1) }

pub returns-in-Comparison : goal.returns-in-Comparison
returns-in-Comparison c =
    comparison_there _ c.args.scratch.now _ _ c.requires.0 c.if-known-task.false c.find_task-found.result c.find_task-found.ensures c.in-Comparison.is
    c.compare_terms-decision.result _ c.compare_terms-decision.ensures.value c.decision_number.ensures c.compare_terms-decision.ensures.scratch_after

pub returns-in-Run : goal.returns-in-Run
returns-in-Run c =
    run_there _ _ _ _ c.requires.0 c.if-known-task.false c.find_task-found.result c.find_task-found.ensures c.in-Run.is c.refusal_number-in-Run.ensures

pub returns-in-Judgement : goal.returns-in-Judgement
returns-in-Judgement c =
    judgement_there _ _ _ _ c.requires.0 c.if-known-task.false c.find_task-found.result c.find_task-found.ensures c.in-Judgement.is c.refusal_number-in-Judgement.ensures
