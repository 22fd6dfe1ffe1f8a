-- `fill_exceeding` fills the room with all s > tj. The loop's invariant, `FillingExceeding`: what is still to be done does the whole.
use Prim.Native.Nat.{◌-◌}
use Rattle.treating.proofs.Exceeding.{FillingExceeding}
use Rattle.treating.proofs.choices.fill_exceeding.Given as goal

abbrev pub invariant-loop-t : goal.invariant-loop-t
invariant-loop-t l = FillingExceeding l.sizes l.p l.arguments.end l.initial.t l.at l.initial.line l.t l.place l.line

abbrev pub decreases-loop-t : goal.decreases-loop-t
decreases-loop-t l = l.arguments.end - l.t
