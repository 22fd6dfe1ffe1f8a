-- `copy_line` copies bytes. The loop's invariant, `Storing`: the bytes passed stand in the table.
use Prim.Native.Nat.{◌+◌}
use lib.Seq.{slice}
use Rattle.line_bytes.specs.Theory.Placed.{Storing}
use Rattle.kept_lines.proofs.trimmed.copy_line.Given as goal

abbrev pub invariant-loop-i : goal.invariant-loop-i
invariant-loop-i l = Storing l.n (slice l.from (l.from + l.n) l.records) l.to l.initial.table l.table l.i
