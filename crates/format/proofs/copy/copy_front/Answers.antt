-- Goals of `copy_front`.
use native.Mathlib.Omega.{arith}
use Rattle.format.specs.Theory.Front.{fronting_length, front_next, front_done}
use Rattle.format.proofs.copy.copy_front.Goals as goal

pub bounds-to-i : goal.bounds-to-i
bounds-to-i c = let f = c.loop-i.invariant in omega (arith, fronting_length f, f.room, c.loop-i-test.true)

pub loop-i-preserved : goal.loop-i-preserved
loop-i-preserved c = front_next c.args.n c.loop-i.i c.args.from.now c.args.to.now c.loop-i.to c.loop-i.invariant c.loop-i-test.true

pub returns : goal.returns
returns c = front_done c.args.n c.loop-i.i c.args.from.now c.args.to.now c.loop-i.to c.loop-i.invariant c.loop-i-test.false
