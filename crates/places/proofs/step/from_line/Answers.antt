-- `from_line` prints lines, or goes on to the next table.
use Rattle.places.proofs.PlaceLaws.{lines_done, some_lines_done}
use Rattle.places.proofs.step.from_line.Goals as goal

pub returns-then-line-lines : goal.returns-then-line-lines
returns-then-line-lines c = λ bounds table s r at. lines_done r _ _ _ c.moved.ensures c.if-line-lines.true at.0

pub returns : goal.returns
returns c = λ bounds table s r at. some_lines_done r _ _ _ c.list_lines-listed.result c.moved-2.ensures at.0 (c.list_lines-listed.ensures _ s.equations r.rows at.0)
