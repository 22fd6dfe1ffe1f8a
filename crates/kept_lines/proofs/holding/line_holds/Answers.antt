-- `line_holds` meets its contract: a line holds exactly if its bindings and its inequalities do.
use Rattle.kept_lines.proofs.Lines.{has_bindings, has_elements, line_fails, line_tells}
use Rattle.kept_lines.proofs.holding.line_holds.Goals as goal

pub bindings_hold-requires : goal.bindings_hold-requires
bindings_hold-requires c = record { settled_cells = c.requires.settled_cells; has_bindings = has_bindings c.requires.has_line }

pub elements_hold-requires : goal.elements_hold-requires
elements_hold-requires c = record { settled_cells = c.bindings_hold.ensures.settled_cells_2; has_elements = has_elements c.requires.has_line }

pub returns-then-bindings_hold-clause-variant : goal.returns-then-bindings_hold-clause-variant
returns-then-bindings_hold-clause-variant c = line_tells c.bindings_hold.ensures.variant c.if-bindings_hold.true c.elements_hold.ensures.variant

pub returns-else-bindings_hold-clause-variant : goal.returns-else-bindings_hold-clause-variant
returns-else-bindings_hold-clause-variant c = rw c.if-bindings_hold.false (line_fails c.bindings_hold.ensures.variant c.if-bindings_hold.false)
