-- `list_lines` prints the lines that there is room for. The invariant: those before line `line` are printed.
use Rattle.tables.proofs.TableLaws.{LinesPassed}
use Rattle.tables.proofs.table.list_lines.Given as goal

abbrev pub invariant-loop-line : goal.invariant-loop-line
invariant-loop-line l = LinesPassed l.rows.equations.now l.rows.lengths.now l.rule l.first l.lines l.scratch l.initial.out l.out l.at l.line
