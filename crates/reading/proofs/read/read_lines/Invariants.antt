-- `reading::read::read_lines` reads the lines of a sheet. The loop's invariant, `PassedBy`: what is left of the text decides.
use Rattle.reading.proofs.Lines.{PassedBy}
use Rattle.reading.proofs.read.read_lines.Given as goal

abbrev pub invariant-loop-line : goal.invariant-loop-line
invariant-loop-line l = PassedBy l.s l.known l.line-iterator l.lines
