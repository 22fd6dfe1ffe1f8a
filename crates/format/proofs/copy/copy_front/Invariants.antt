-- `copy_front` meets its contract. The invariant: the first `i` bytes are copied.
use lib.ListN.{take}
use Rattle.format.specs.Theory.Front.{Fronting}
use Rattle.format.proofs.copy.copy_front.Given as goal

abbrev pub invariant-loop-i : goal.invariant-loop-i
invariant-loop-i l = Fronting l.n (take l.n l.from) l.initial.to l.to l.i
