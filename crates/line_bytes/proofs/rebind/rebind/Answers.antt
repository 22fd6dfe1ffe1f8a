-- Goals of `rebind`.
use Prim.Native.Nat.{◌+◌}
use mathlib.Core.Path.{ap}
use lib.ListN.{set}
use Rattle.line_bytes.specs.ForContracts.Layout.{reduced_place}
use Rattle.line_bytes.specs.Theory.Placed.{storing_next, storing_done}
use Rattle.line_bytes.proofs.rebind.rebind.Goals as goal

pub loop-i-preserved : goal.loop-i-preserved
loop-i-preserved c = storing_next c.loop-i.invariant c.loop-i-test.true

pub returns : goal.returns
returns c = ap (λ m. set m (c.args.place + reduced_place) 0) (storing_done c.loop-i.invariant c.loop-i-test.false)
