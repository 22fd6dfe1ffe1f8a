-- `store` puts a line into the memory. The loop's invariant, `Storing`: the bytes passed stand there.
use Rattle.line_bytes.specs.ForContracts.Layout.{line_bytes}
use Rattle.line_bytes.specs.Theory.Placed.{Storing}
use Rattle.line_bytes.proofs.edit.store.Given as goal

abbrev pub invariant-loop-i : goal.invariant-loop-i
invariant-loop-i l = Storing line_bytes l.line l.at l.initial.records l.records l.i
