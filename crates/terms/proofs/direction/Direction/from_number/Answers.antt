-- `from_number` gives the direction of the definitions.
use mathlib.Core.Path.{ap}
use native.Mathlib.Omega.{arith}
use Rattle.terms.specs.Equation.{direction_of}
use Rattle.terms.specs.Theory.Directions.{no_direction}
use Rattle.terms.proofs.direction.Direction.from_number.Goals as goal

pub returns-in-0 : goal.returns-in-0
unfolding direction_of
returns-in-0 c = ap direction_of c.in-0.is

pub returns-in-1 : goal.returns-in-1
unfolding direction_of
returns-in-1 c = ap direction_of c.in-1.is

pub returns-in_default : goal.returns-in_default
returns-in_default c = no_direction c.args.number (omega arith)
