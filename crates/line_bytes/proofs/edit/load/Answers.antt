-- Goals of `load`.
use Rattle.line_bytes.specs.Theory.Placed.{loading_start, loading_next, loading_done}
use Rattle.line_bytes.proofs.edit.load.Goals as goal

pub loop-i-preserved : goal.loop-i-preserved
loop-i-preserved c = loading_next c.loop-i.invariant c.loop-i-test.true

pub returns : goal.returns
returns c = loading_done c.loop-i.invariant c.loop-i-test.false
