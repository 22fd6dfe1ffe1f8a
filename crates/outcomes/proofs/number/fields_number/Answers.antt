-- `fields_number` puts three fields above the lowest byte.
use native.Mathlib.Omega.{arith}
use Rattle.outcomes.specs.Buffer.{fields}
use Rattle.outcomes.proofs.number.fields_number.Goals as goal

pub returns : goal.returns
unfolding fields
returns c = omega arith
