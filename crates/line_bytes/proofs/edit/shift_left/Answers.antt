-- Goals of `shift_left`.
use Rattle.line_bytes.proofs.Shifting.{left_next, left_done}
use Rattle.line_bytes.proofs.edit.shift_left.Goals as goal

pub loop-i-preserved : goal.loop-i-preserved
loop-i-preserved c = left_next c.loop-i.invariant c.loop-i-test.true

pub returns : goal.returns
returns c = left_done c.loop-i.invariant c.loop-i-test.false
