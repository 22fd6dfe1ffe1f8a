-- `load` copies a line. The loop's invariant, `Loading`: the bytes passed stand in the line.
use Rattle.line_bytes.specs.ForContracts.Layout.{line_bytes}
use Rattle.line_bytes.specs.Theory.Placed.{Loading}
use Rattle.line_bytes.proofs.edit.load.Given as goal

abbrev pub invariant-loop-i : goal.invariant-loop-i
invariant-loop-i l = Loading line_bytes l.records l.at l.initial.line l.line l.i
