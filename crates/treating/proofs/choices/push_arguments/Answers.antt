-- Goals of `push_arguments`.
use Prim.Native.Nat.{◌+◌, ◌*◌}
use mathlib.Core.Path.{◌∙◌}
use native.Mathlib.Omega.{arith}
use Rattle.line_bytes.specs.ForContracts.Layout.{line_bytes}
use Rattle.treating.proofs.Arguments.{arguments_room, pushing_next, pushing_done}
use Rattle.treating.proofs.choices.push_arguments.Goals as goal

pub store_with-requires : goal.store_with-requires
store_with-requires c = (omega (arith, arguments_room _ _ _ _ _ c.loop-s.invariant.fits c.loop-s-test.true), c.loop-s.invariant.fits.whole, c.loop-s.invariant.fits.place)

pub store_with-requires-in-loop-s : goal.store_with-requires-in-loop-s
store_with-requires-in-loop-s c =
    (omega (arith, arguments_room _ _ _ _ _ c.loop-s.invariant.fits c.loop-s-test.true, c.store_with.auto.records), c.loop-s.invariant.fits.whole, c.loop-s.invariant.fits.place)

pub loop-s-preserved : goal.loop-s-preserved
loop-s-preserved c =
    pushing_next _ _ _ _ _ c.from-s.result (c.loop-s.next + 2 * line_bytes) c.store_with.new.records c.store_with-in-loop-s.new.records c.loop-s.invariant c.loop-s-test.true
    c.store_with.ensures c.store_with-in-loop-s.ensures (c.store_with-in-loop-s.auto.records ∙ c.store_with.auto.records) c.from-s.ensures (omega arith)

pub returns : goal.returns
returns c = pushing_done _ _ _ _ _ c.loop-s.invariant c.loop-s-test.false
