-- `refusal_number` puts the line above the refusal's number.
use native.Mathlib.Omega.{arith}
use Rattle.outcomes.specs.Buffer.{refusal_number, fields}
use Rattle.outcomes.proofs.number.refusal_number.Goals as goal

pub returns : goal.returns
unfolding refusal_number fields
returns c = omega (arith, c.from.ensures, c.from-2.ensures)
