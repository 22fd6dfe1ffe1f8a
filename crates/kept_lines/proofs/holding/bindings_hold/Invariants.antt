-- `bindings_hold` tells whether a line's bindings hold. The loop's invariant, `SlotsHold`: all hold exactly if those that are left do.
use Rattle.kept_lines.proofs.Slots.{SlotsHold}
use Rattle.kept_lines.proofs.holding.bindings_hold.Given as goal

abbrev pub invariant-loop-v : goal.invariant-loop-v
invariant-loop-v l = SlotsHold l.compared.nodes.now l.compared.sizes.now l.compared.values.now l.table l.at l.v l.ready l.cells
