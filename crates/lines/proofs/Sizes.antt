-- How many places and bindings a line has: from what is known of a parameter, `c.good`.
use mathlib.Core.Path.{◌≡◌}
use mathlib.Core.List.{[], ◌∷◌}
use Rattle.format.specs.Limits.{variable_count, max_elements}
use lib.ListN.{length}
use denote.Laws.{Is}
use denote.Struct.Declared.{row}
use denote.Struct.Laws.{val}
use Rattle.lines.specs.declared.line.Line.{Line}
use Rattle.lines.specs.contracts.line.Line.{the_type}
use Rattle.lines.proofs.line.Line.TheLaws.{the_laws}

abbrev pub Known : Line → Type 0
Known l = Is (row the_type) l (val the_type the_laws l ∷ [])

pub elements_places : (l : Line) → Known l → length l.elements ≡ max_elements
elements_places l h = h.1.1.1.1.1.0.1.0.1

pub bindings_slots : (l : Line) → Known l → length l.bindings ≡ variable_count
bindings_slots l h = h.1.1.0.1.0.1
