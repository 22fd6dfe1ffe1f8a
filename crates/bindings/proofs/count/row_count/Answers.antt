-- Goals of `row_count`.
use Rattle.bindings.proofs.Rows.{counting_next, counting_done}
use Rattle.bindings.proofs.count.row_count.Goals as goal

pub loop-t-preserved : goal.loop-t-preserved
loop-t-preserved c = counting_next _ _ _ c.loop-t.invariant c.from-t.result c.loop-t-test.true c.from-t.ensures

pub returns : goal.returns
returns c = counting_done _ _ _ c.loop-t.invariant c.loop-t-test.false
