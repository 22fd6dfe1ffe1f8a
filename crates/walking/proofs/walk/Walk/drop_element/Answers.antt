-- `drop_element` meets its contract.
use mathlib.Core.Path.{refl}
use Rattle.walking.proofs.Treating.{removal_fits, element_dropped}
use Rattle.walking.proofs.walk.Walk.drop_element.Goals as goal

pub put_without-requires : goal.put_without-requires
put_without-requires c = removal_fits c.requires.0

pub returns : goal.returns
returns c = rw c.turned.ensures (element_dropped c.requires.0 c.requires.1 _ refl c.put_without.ensures)
