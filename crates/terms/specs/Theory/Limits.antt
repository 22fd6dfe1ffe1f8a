-- An equation within the limits has few positions.
use Rattle.std.specs.Prelude.{◌≤◌}
use Rattle.std.proofs.Common.{arith}
use Rattle.format.specs.Limits.{position_count}
use Rattle.terms.specs.Equation.{Equation}
use Rattle.terms.specs.ForContracts.Limits.{WithinLimits, positions}

pub positions_few : {e : Equation} → WithinLimits e → positions e ≤ position_count
positions_few w = omega (arith, w.left_size, w.right_size)
