-- `singleton` meets its contract: a power of two has one bit.
use native.Mathlib.Omega.{arith}
use Rattle.bindings.proofs.Bits.{power_singleton}
use Rattle.bindings.proofs.sets.singleton.Goals as goal

pub returns : goal.returns
returns c = power_singleton _ (omega (arith, c.requires))
