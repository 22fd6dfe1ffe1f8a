-- Goals of `store`.
use native.Mathlib.Omega.{arith}
use Rattle.line_bytes.specs.Theory.Placed.{storing_start, storing_next, storing_done, storing_length}
use Rattle.line_bytes.proofs.edit.store.Goals as goal

pub bounds-records-at : goal.bounds-records-at
bounds-records-at c = omega (arith, storing_length c.loop-i.invariant, c.loop-i.invariant.room)

pub loop-i-preserved : goal.loop-i-preserved
loop-i-preserved c = storing_next c.loop-i.invariant c.loop-i-test.true

pub returns : goal.returns
returns c = storing_done c.loop-i.invariant c.loop-i-test.false
