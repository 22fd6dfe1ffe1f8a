-- `find_by_rules` finds the first step. The invariant: the rules passed cannot step before the best node, and none of them before the found one can step there.
use Rattle.step_by_rule.proofs.RulewiseLaws.{Finding}
use Rattle.step_by_rule.proofs.search.find_by_rules.Given as goal

abbrev pub invariant-loop-rule : goal.invariant-loop-rule
invariant-loop-rule l =
    Finding l.rows.equations.now l.rows.lengths.now l.rules l.initial.nodes l.initial.sizes l.n l.initial.table l.initial.scratch l.table l.nodes l.sizes l.scratch l.best l.found l.rule
