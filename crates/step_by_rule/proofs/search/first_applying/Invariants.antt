-- `first_applying` finds the first node at which a rule can step. The invariant: it can step at no node passed, the subject is the same, and the cells are settled.
use Rattle.step_by_rule.proofs.RulewiseLaws.{Trying}
use Rattle.step_by_rule.proofs.search.first_applying.Given as goal

abbrev pub invariant-loop-node : goal.invariant-loop-node
invariant-loop-node l =
    Trying l.rows.equations.now l.rows.lengths.now l.kept.rule l.table l.kept.lines l.initial.nodes l.initial.sizes l.from l.end l.nodes l.sizes l.ready l.cells l.node
