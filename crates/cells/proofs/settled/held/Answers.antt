-- `held` meets its contract.
use Rattle.std.proofs.Common.{rules}
use Rattle.ordering.specs.Verdict.{verdict_number}
use Rattle.cells.proofs.Held.{holds, holds_greater}
use Rattle.cells.proofs.settled.held.Goals as goal

pub returns-in-1 : goal.returns-in-1
unfolding verdict_number
returns-in-1 c = holds c.in-1.is

pub returns-in-2 : goal.returns-in-2
unfolding verdict_number
returns-in-2 c = holds c.in-2.is

pub returns-in_default : goal.returns-in_default
returns-in_default c = holds_greater (search rules) (search rules)
