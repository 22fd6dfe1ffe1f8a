-- `find_by_positions` finds the first step. The invariant of the loop over nodes, `Finding`: no rule can step at a node passed; of the loop over rules, `Seeking`: no rule
-- passed can step at the node.
use Prim.Native.Nat.{◌-◌}
use Rattle.step_by_position.proofs.PositionLaws.{Seeking, Finding}
use Rattle.step_by_position.proofs.positions.find_by_positions.Given as goal

abbrev pub invariant-loop-rule : goal.invariant-loop-rule
invariant-loop-rule l =
    Seeking l.rows.equations.now l.rows.lengths.now l.rules l.bounds l.next l.table l.initial.nodes l.initial.sizes l.node l.nodes l.sizes l.ready l.cells l.rule

abbrev pub decreases-loop-rule : goal.decreases-loop-rule
decreases-loop-rule l =
    l.rules - l.rule

abbrev pub invariant-loop-node : goal.invariant-loop-node
invariant-loop-node l =
    Finding l.rows.equations.now l.rows.lengths.now l.rules l.bounds l.next l.table l.initial.nodes l.initial.sizes l.nodes l.sizes l.ready l.cells l.node
