-- `mark_equal` marks an equality for each term. The loop's invariant, `MarkingEqual`: what is still to be done does the whole.
use Prim.Native.Nat.{◌-◌}
use Rattle.treating.proofs.Marked.{MarkingEqual}
use Rattle.treating.proofs.choices.mark_equal.Given as goal

abbrev pub invariant-loop-s : goal.invariant-loop-s
invariant-loop-s l = MarkingEqual l.sizes l.end l.k l.at l.initial.bytes l.s l.place l.bytes

abbrev pub decreases-loop-s : goal.decreases-loop-s
decreases-loop-s l = l.end - l.s
