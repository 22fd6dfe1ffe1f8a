-- `push_lexicographic` puts the lines of the lexicographic choices into the memory. The loop's invariant, `PushingLexicographic`:
-- what is still to be done does the whole.
use Prim.Native.Nat.{◌-◌}
use Rattle.treating.proofs.Lexicographic.{PushingLexicographic}
use Rattle.treating.proofs.choices.push_lexicographic.Given as goal

abbrev pub invariant-loop-s : goal.invariant-loop-s
invariant-loop-s l = PushingLexicographic l.sizes l.left.end l.right.end l.left.from l.initial.t l.at l.to l.line l.initial.records l.s l.t l.place l.next l.records

abbrev pub decreases-loop-s : goal.decreases-loop-s
decreases-loop-s l = l.left.end - l.s
