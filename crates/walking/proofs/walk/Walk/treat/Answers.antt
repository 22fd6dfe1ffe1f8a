-- `treat` meets its contract, by what the element asks for.
use Rattle.walking.proofs.Searching.{below_limit}
use Rattle.walking.proofs.Treating.{treating_as, treating_counted, too_long_walk, line_dropped}
use Rattle.walking.proofs.walk.Walk.treat.Goals as goal

pub returns-then-self-eq-TURNS : goal.returns-then-self-eq-TURNS
returns-then-self-eq-TURNS c = record { outcome = too_long_walk c.requires.0.treating c.requires.1 c.if-self-eq-TURNS.true }

pub split-requires : goal.split-requires
split-requires c =
    treating_counted (treating_as c.requires.0 c.in-Split.is) (below_limit c.requires.0.treating.turns_within c.if-self-eq-TURNS.false)

pub returns-in-DropLine : goal.returns-in-DropLine
returns-in-DropLine c =
    rw c.turned.ensures (record { outcome = line_dropped c.requires.0.treating (below_limit c.requires.0.treating.turns_within c.if-self-eq-TURNS.false) c.in-DropLine.is })
