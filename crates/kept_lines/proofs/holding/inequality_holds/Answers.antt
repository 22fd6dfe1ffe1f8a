-- `inequality_holds` meets its contract, by symbols and sizes where these tell, else by the verdict of the two nodes, asked for in the one order or the other.
use Rattle.ordering.proofs.Theory.Decision.{verdict_of_smaller, verdict_of_greater, is_smaller, is_greater}
use Rattle.kept_lines.proofs.Answer.{so, not_so}
use Rattle.kept_lines.proofs.Terms.{resolvable, readable, measurable, instance_node, has_instance, one_low, inequality_fails, inequality_told, inequality_greater, inequality_not_greater, inequality_smaller, inequality_not_smaller}
use Rattle.kept_lines.proofs.holding.inequality_holds.Goals as goal

pub resolve-s-requires : goal.resolve-s-requires
resolve-s-requires c = resolvable c.requires.settled_cells c.requires.has_inequality.testable.0.stands

pub resolve-t-requires : goal.resolve-t-requires
resolve-t-requires c = resolvable c.requires.settled_cells c.requires.has_inequality.testable.1.stands

pub bounds-compared-s : goal.bounds-compared-s
bounds-compared-s c =
    measurable c.requires.settled_cells (instance_node c.requires.has_inequality.testable.0 c.resolve-s.ensures).denotes

pub bounds-compared-t : goal.bounds-compared-t
bounds-compared-t c =
    readable c.requires.settled_cells (instance_node c.requires.has_inequality.testable.1 c.resolve-t.ensures).denotes

pub returns-then-compared-s-clause-variant : goal.returns-then-compared-s-clause-variant
returns-then-compared-s-clause-variant c = λ ρ value x. not_so (inequality_fails x c.resolve-s.ensures c.resolve-t.ensures c.if-compared-s-eq1.true c.if-compared-s.true)

pub bounds-compared-t-2 : goal.bounds-compared-t-2
bounds-compared-t-2 c =
    measurable c.requires.settled_cells (instance_node c.requires.has_inequality.testable.1 c.resolve-t.ensures).denotes

pub bounds-compared-s-then-compared-t-eq1 : goal.bounds-compared-s-then-compared-t-eq1
bounds-compared-s-then-compared-t-eq1 c =
    readable c.requires.settled_cells (instance_node c.requires.has_inequality.testable.0 c.resolve-s.ensures).denotes

pub returns-then-compared-t-clause-variant : goal.returns-then-compared-t-clause-variant
returns-then-compared-t-clause-variant c = λ ρ value x. so (inequality_told x c.resolve-s.ensures c.resolve-t.ensures c.if-compared-t-eq1.true c.if-compared-t.true)

pub compare-requires : goal.compare-requires
compare-requires c =
    let x = c.requires.has_inequality.testable in
    record { settled_cells = c.requires.settled_cells; has_term = (has_instance x.1 c.resolve-t.ensures, (instance_node x.1 c.resolve-t.ensures).symbol); has_term_2 = (has_instance x.0 c.resolve-s.ensures, one_low x c.resolve-s.ensures c.resolve-t.ensures c.if-t-lt-SUBJECT.true) }

pub returns-in_default : goal.returns-in_default
returns-in_default c =
    record { variant = λ ρ value x. not_so (inequality_not_smaller x c.resolve-s.ensures c.resolve-t.ensures c.compare.ensures.decision_of.verdict_is (λ e. let (b, d) = is_smaller c.compare.result e in c.in_default.not-Smaller b d)); settled_cells_2 = c.compare.ensures.settled_cells_2 }

pub returns-in-Smaller-clause-variant : goal.returns-in-Smaller-clause-variant
returns-in-Smaller-clause-variant c = λ ρ value x. so (inequality_smaller x c.resolve-s.ensures c.resolve-t.ensures c.compare.ensures.decision_of.verdict_is (verdict_of_smaller c.in-Smaller.is))

pub compare-requires-2 : goal.compare-requires-2
compare-requires-2 c =
    let x = c.requires.has_inequality.testable in
    record { settled_cells = c.requires.settled_cells; has_term = (has_instance x.0 c.resolve-s.ensures, (instance_node x.0 c.resolve-s.ensures).symbol); has_term_2 = (has_instance x.1 c.resolve-t.ensures, c.if-t-lt-SUBJECT.false) }

pub returns-in_default-matches : goal.returns-in_default-matches
returns-in_default-matches c =
    record { variant = λ ρ value x. not_so (inequality_not_greater x c.resolve-s.ensures c.resolve-t.ensures c.compare-2.ensures.decision_of.verdict_is (λ e. let (b, d) = is_greater c.compare-2.result e in c.in_default-matches.not-Greater b d)); settled_cells_2 = c.compare-2.ensures.settled_cells_2 }

pub returns-in-Greater-clause-variant : goal.returns-in-Greater-clause-variant
returns-in-Greater-clause-variant c = λ ρ value x. so (inequality_greater x c.resolve-s.ensures c.resolve-t.ensures c.compare-2.ensures.decision_of.verdict_is (verdict_of_greater c.in-Greater.is))
