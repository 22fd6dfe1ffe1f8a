-- `scanning::task::task_body` reads a task's body by its kind.
use Rattle.scanning.proofs.Tasks.{comparison_read, run_kind_is, judgement_kind_is, comparison_kind_is, other_kind}
use Rattle.scanning.proofs.task.task_body.Goals as goal

pub returns-in-Run : goal.returns-in-Run
returns-in-Run c = λ sheet knows. run_kind_is sheet _ c.run_task.result c.in-Run.is (c.run_task.ensures sheet knows)

pub returns-in-Judgement : goal.returns-in-Judgement
returns-in-Judgement c = λ sheet knows. judgement_kind_is sheet _ c.judgement_task.result c.in-Judgement.is (c.judgement_task.ensures sheet knows)

pub returns-in-Comparison : goal.returns-in-Comparison
returns-in-Comparison c = λ sheet knows. comparison_kind_is sheet _ c.ground_terms.result c.in-Comparison.is (comparison_read _ sheet knows _ c.ground_terms.result c.ground_terms.ensures)

pub returns-in_default : goal.returns-in_default
returns-in_default c = λ sheet knows. other_kind sheet _ _ c.in_default.in_default-own.keys4
