-- Goals of `shift_right`.
use Rattle.line_bytes.proofs.Shifting.{right_next, right_done}
use Rattle.line_bytes.proofs.edit.shift_right.Goals as goal

pub loop-i-preserved : goal.loop-i-preserved
loop-i-preserved c = right_next c.loop-i.invariant c.loop-i-test.true

pub returns : goal.returns
returns c = right_done c.loop-i.invariant c.loop-i-test.false
