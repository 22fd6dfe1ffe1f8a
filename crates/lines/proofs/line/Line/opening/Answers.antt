-- `Line::opening` makes the walk's first line.
use mathlib.Core.Path.{refl}
use native.Mathlib.Omega.{arith}
use Rattle.lines.specs.ForContracts.Line.{resting_of, opening_line}
use Rattle.lines.proofs.line.Line.opening.Goals as goal

pub returns : goal.returns
unfolding resting_of opening_line
returns c = record { result_value = refl; writable = record { few = omega arith; fresh = refl; markable = tt } }
