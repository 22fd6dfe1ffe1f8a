-- `binding_holds` meets its contract: without a value, where the symbols differ, and by the verdict.
use Rattle.ordering.proofs.Theory.Decision.{verdict_of_equal, is_equal}
use Rattle.kept_lines.proofs.Answer.{so, not_so}
use Rattle.kept_lines.proofs.Terms.{resolvable, readable, instance_node, has_instance, value_node, other_symbols, binding_equal, binding_other}
use Rattle.kept_lines.proofs.holding.binding_holds.Goals as goal

pub resolve-s-requires : goal.resolve-s-requires
resolve-s-requires c = resolvable c.requires.settled_cells c.requires.has_binding.0.testable.instance_there.stands

pub bounds-compared-s : goal.bounds-compared-s
bounds-compared-s c =
    readable c.requires.settled_cells (instance_node c.requires.has_binding.0.testable.instance_there c.resolve-s.ensures).denotes

pub bounds-compared-node : goal.bounds-compared-node
bounds-compared-node c =
    readable c.requires.settled_cells (value_node c.requires.has_binding.0.testable c.from-node.ensures c.if-node-lt-SUBJECT.false)

pub returns-then-compared-s-clause-variant : goal.returns-then-compared-s-clause-variant
returns-then-compared-s-clause-variant c =
    let low = c.if-node-lt-SUBJECT.false in
    λ ρ value b. not_so (other_symbols b c.from-node.ensures low c.resolve-s.ensures (c.requires.settled_cells.symbols c.from-node.result low) c.if-compared-s.true)

pub compare-requires-clause-has_term : goal.compare-requires-clause-has_term
compare-requires-clause-has_term c =
    let there = c.requires.has_binding.0.testable.instance_there in (has_instance there c.resolve-s.ensures, (instance_node there c.resolve-s.ensures).symbol)

pub returns-in_default : goal.returns-in_default
returns-in_default c =
    record { variant = λ ρ value b. not_so (binding_other b c.from-node.ensures c.if-node-lt-SUBJECT.false c.resolve-s.ensures c.compare.ensures.decision_of.verdict_is (λ e. c.in_default.not-Equal (is_equal c.compare.result e))); settled_cells_2 = c.compare.ensures.settled_cells_2 }

pub returns-in-Equal-clause-variant : goal.returns-in-Equal-clause-variant
returns-in-Equal-clause-variant c =
    λ ρ value b. so (binding_equal b c.from-node.ensures c.if-node-lt-SUBJECT.false c.resolve-s.ensures c.compare.ensures.decision_of.verdict_is (verdict_of_equal c.in-Equal.is))
