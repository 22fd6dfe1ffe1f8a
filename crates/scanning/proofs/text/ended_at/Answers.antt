-- `scanning::text::ended_at` tells an even count that is not zero from any other.
use Rattle.std.proofs.Common.{◌-◌, ◌/◌, refl, inr, arith}
use Rattle.scanning.proofs.text.ended_at.Goals as goal

pub returns-in_default : goal.returns-in_default
returns-in_default c = inr ((c.args.end - c.args.at) / 2, omega arith)

pub returns-in_default-2 : goal.returns-in_default-2
returns-in_default-2 c = (refl, (c.args.end - c.args.at) / 2 - 1, omega arith)
