-- `list_task` prints a task by its head.
use native.Mathlib.Omega.{arith}
use Rattle.tasks.proofs.TaskLaws.{run_has, judgement_has, rule_low, comparison_has, run_printed, judgement_printed, comparison_printed}
use Rattle.tasks.proofs.task.list_task.Goals as goal

pub list_run-requires-clause-has_run_term : goal.list_run-requires-clause-has_run_term
list_run-requires-clause-has_run_term c = run_has c.args.task c.find_task-found.result c.find_task-found.ensures c.requires.has_task c.in-Run.is

pub overflow_add-rule : goal.overflow_add-rule
overflow_add-rule c =
    omega (arith, rule_low c.args.task c.find_task-found.result c.find_task-found.ensures c.requires.has_task c.in-Judgement.is)

pub overflow_add-rule-in-Judgement : goal.overflow_add-rule-in-Judgement
overflow_add-rule-in-Judgement c =
    omega (arith, rule_low c.args.task c.find_task-found.result c.find_task-found.ensures c.requires.has_task c.in-Judgement.is)

pub list_judgement-bytes-requires-clause-has_judgement_at : goal.list_judgement-bytes-requires-clause-has_judgement_at
list_judgement-bytes-requires-clause-has_judgement_at c = judgement_has c.args.task c.find_task-found.result c.find_task-found.ensures c.requires.has_task c.in-Judgement.is

pub compare_terms-decision-requires-clause-pair_in : goal.compare_terms-decision-requires-clause-pair_in
compare_terms-decision-requires-clause-pair_in c = comparison_has c.args.task c.find_task-found.result c.find_task-found.ensures c.requires.has_task c.in-Comparison.is

pub returns-in-Run-clause-task_given : goal.returns-in-Run-clause-task_given
returns-in-Run-clause-task_given c =
    λ s t ready x. run_printed c.args.task c.find_task-found.result c.find_task-found.ensures ready x c.in-Run.is c.list_run.ensures.task_given

pub returns-in-Judgement-clause-task_given : goal.returns-in-Judgement-clause-task_given
returns-in-Judgement-clause-task_given c =
    λ s t ready x. judgement_printed c.args.task c.find_task-found.result c.find_task-found.ensures ready x c.in-Judgement.is c.list_judgement-bytes.ensures

pub returns-in-Comparison-clause-task_given : goal.returns-in-Comparison-clause-task_given
returns-in-Comparison-clause-task_given c =
    λ s t ready x. comparison_printed c.args.task c.find_task-found.result c.find_task-found.ensures ready x c.in-Comparison.is c.compare_terms-decision.ensures.value c.put_comparison-bytes.ensures
