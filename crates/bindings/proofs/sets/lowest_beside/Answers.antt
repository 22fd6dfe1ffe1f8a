-- `lowest_beside` meets its contract: the lowest bit in which the two sets differ is in the larger one.
use Rattle.bindings.proofs.Bits.{lowest_difference}
use Rattle.bindings.proofs.sets.lowest_beside.Goals as goal

pub returns : goal.returns
returns c = lowest_difference c.args.set c.args.part c.well_formed.0.1 c.well_formed.1.0.1 c.requires.0 c.requires.1
