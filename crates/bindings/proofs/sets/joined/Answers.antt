-- `joined` meets its contract, by the law of `|`.
use Rattle.bindings.proofs.Bits.{or_joined}
use Rattle.bindings.proofs.sets.joined.Goals as goal

pub returns : goal.returns
returns c = or_joined _ _
