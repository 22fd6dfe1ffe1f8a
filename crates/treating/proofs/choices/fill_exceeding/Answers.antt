-- Goals of `fill_exceeding`.
use Prim.Native.Nat.{◌+◌}
use native.Mathlib.Omega.{arith}
use Rattle.treating.proofs.Exceeding.{filling_next, filling_done}
use Rattle.treating.proofs.choices.fill_exceeding.Goals as goal

pub loop-t-preserved : goal.loop-t-preserved
loop-t-preserved c =
    filling_next _ _ _ c.from-t.result (c.loop-t.place + 2) c.put.new.line c.loop-t.invariant c.loop-t-test.true c.put.ensures c.from-t.ensures (omega arith)

pub returns : goal.returns
returns c = filling_done _ _ _ c.loop-t.invariant c.loop-t-test.false
