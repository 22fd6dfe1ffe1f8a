-- `rebind` replaces a line's bindings. The loop's invariant, `Storing`: those passed stand there.
use Rattle.format.specs.Limits.{variable_count}
use Rattle.line_bytes.specs.Theory.Placed.{Storing}
use Rattle.line_bytes.proofs.rebind.rebind.Given as goal

abbrev pub invariant-loop-i : goal.invariant-loop-i
invariant-loop-i l = Storing variable_count l.bindings l.place l.initial.memory l.memory l.i
