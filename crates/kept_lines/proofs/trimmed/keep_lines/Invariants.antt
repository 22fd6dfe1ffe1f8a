-- `keep_lines` keeps lines without their filler. The loop's invariant, `Keeping`: the lines passed stand in the table.
use Rattle.kept_lines.proofs.Keeping.{Keeping}
use Rattle.kept_lines.proofs.trimmed.keep_lines.Given as goal

abbrev pub invariant-loop-i : goal.invariant-loop-i
invariant-loop-i l = Keeping l.records l.initial.table l.start l.lines l.table l.to l.i
