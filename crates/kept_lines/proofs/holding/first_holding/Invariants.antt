-- `first_holding` finds the first line that holds. The loop's invariant, `NoneHolds`: none of the lines passed does.
use Prim.Native.Nat.{◌-◌}
use Rattle.kept_lines.proofs.Lines.{NoneHolds}
use Rattle.kept_lines.proofs.holding.first_holding.Given as goal

abbrev pub invariant-loop-at : goal.invariant-loop-at
invariant-loop-at l = NoneHolds l.compared.nodes.now l.compared.sizes.now l.compared.values.now l.table l.lines l.at l.line l.ready l.cells

abbrev pub decreases-loop-at : goal.decreases-loop-at
decreases-loop-at l = l.lines.end - l.at
