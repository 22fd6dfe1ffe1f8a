-- Laws of sets of variables.
use Rattle.std.specs.Prelude.{ℕ, ◌^◌}
use Rattle.std.proofs.Math.Nat.{zero-div}
use Rattle.std.proofs.Common.{arith}
use Rattle.bindings.specs.ForContracts.Sets.{Has}

-- Nothing is in the empty set.
pub none_has : (w : ℕ) → Has 0 w → ⊥
none_has w h = omega (arith, h.bit, zero-div (2 ^ w))
