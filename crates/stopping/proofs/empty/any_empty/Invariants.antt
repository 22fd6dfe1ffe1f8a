-- `any_empty` looks at one line after the other. The loop's invariant, `Looking`: the lines that are left tell what all of them tell.
use Rattle.stopping.proofs.Looking.{Looking}
use Rattle.stopping.proofs.empty.any_empty.Given as goal

abbrev pub invariant-loop-i : goal.invariant-loop-i
invariant-loop-i l = Looking l.memory l.first l.end l.i
