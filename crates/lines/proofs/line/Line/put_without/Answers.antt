-- `Line::put_without` deletes an element of a resting line: those behind it move, and the counts change.
use mathlib.Core.Path.{refl}
use Rattle.lines.proofs.Removing.{removed}
use Rattle.lines.proofs.line.Line.put_without.Goals as goal

pub returns : goal.returns
returns c = removed c.requires _ _ _ _ _ _ refl refl c.put_elements.ensures c.put.ensures refl refl
