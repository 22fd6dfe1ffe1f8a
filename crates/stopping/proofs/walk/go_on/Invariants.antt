-- `go_on` walks turn by turn. The loop's invariant, `Underway`: nothing has stopped the walk so far.
use Rattle.walking.specs.ForContracts.Walking.{left_to_do}
use Rattle.stopping.proofs.Stopping.{Underway}
use Rattle.stopping.proofs.walk.go_on.Given as goal

abbrev pub invariant-loop-cursor : goal.invariant-loop-cursor
invariant-loop-cursor l = Underway l.equation.nodes.now l.equation.sizes.now l.memory l.stops l.initial.cursor l.cursor

abbrev pub decreases-loop-cursor : goal.decreases-loop-cursor
decreases-loop-cursor l = left_to_do l.cursor
