-- `elements_hold` tells whether a line's inequalities hold. The loop's invariant, `PairsHold`: all hold exactly if those that are left do.
use Rattle.kept_lines.proofs.Pairs.{PairsHold}
use Rattle.kept_lines.proofs.holding.elements_hold.Given as goal

abbrev pub invariant-loop-i : goal.invariant-loop-i
invariant-loop-i l = PairsHold l.compared.nodes.now l.compared.sizes.now l.compared.values.now l.table l.from l.end l.i l.ready l.cells
