-- `differ` compares a line's bindings with others. The loop's invariant, `Comparing`: those passed are the same.
use Rattle.line_bytes.proofs.Rebinding.{Comparing}
use Rattle.line_bytes.proofs.rebind.differ.Given as goal

abbrev pub invariant-loop-i : goal.invariant-loop-i
invariant-loop-i l = Comparing l.memory l.place l.bindings l.i
