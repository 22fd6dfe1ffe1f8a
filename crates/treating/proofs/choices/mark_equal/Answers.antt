-- Goals of `mark_equal`.
use Prim.Native.Nat.{◌+◌}
use native.Mathlib.Omega.{arith}
use Rattle.treating.proofs.Marked.{marking_next, marking_done}
use Rattle.treating.proofs.choices.mark_equal.Goals as goal

pub loop-s-preserved : goal.loop-s-preserved
loop-s-preserved c = marking_next _ _ c.from-s.result (c.loop-s.place + 2) c.loop-s.invariant c.loop-s-test.true c.from-s.ensures (omega arith)

pub returns : goal.returns
returns c = marking_done _ _ c.loop-s.invariant c.loop-s-test.false
