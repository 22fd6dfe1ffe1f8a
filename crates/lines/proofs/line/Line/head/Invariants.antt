-- `Line::head` reads the bindings and the counts of a resting line. The loop's invariant, `Loading`: the bindings passed are copied.
use Rattle.format.specs.Limits.{variable_count}
use Rattle.line_bytes.specs.Theory.Placed.{Loading}
use Rattle.lines.proofs.line.Line.head.Given as goal

abbrev pub invariant-loop-i : goal.invariant-loop-i
invariant-loop-i l = Loading variable_count l.memory l.place l.initial.bindings l.bindings l.i
