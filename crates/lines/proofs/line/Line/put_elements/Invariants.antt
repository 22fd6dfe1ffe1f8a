-- `Line::put_elements` puts a line's elements. The loop's invariant, `Putting`: those passed stand there.
use Rattle.lines.proofs.Writing.{Putting}
use Rattle.lines.proofs.line.Line.put_elements.Given as goal

abbrev pub invariant-loop-i : goal.invariant-loop-i
invariant-loop-i l = Putting l.self l.from l.to l.initial.bytes l.bytes l.i
