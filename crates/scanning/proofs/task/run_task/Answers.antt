-- `scanning::task::run_task` is the definition's `run_body`.
use Rattle.std.proofs.Common.{arith}
use Rattle.scanning.specs.Theory.Between.{body_behind}
use Rattle.scanning.proofs.Tasks.{run_early, run_read}
use Rattle.scanning.proofs.task.run_task.Goals as goal

pub returns-then-part : goal.returns-then-part
returns-then-part c = λ sheet knows. run_early _ sheet knows _ _ _ c.if-part.true

pub ground_terms-requires : goal.ground_terms-requires
ground_terms-requires c =
    rw c.tail.ensures (record { body = body_behind _ _ _ c.requires.body c.if-part.false; few_symbols = c.requires.few_symbols }, omega arith)

pub returns : goal.returns
returns c = λ sheet knows. run_read _ sheet knows _ _ _ c.requires.body c.if-part.false c.ground_terms.result (rw c.tail.ensures at c.ground_terms.ensures)
