-- `compare` gives the decision that is kept, or finds it and keeps it.
use Rattle.cells.specs.Theory.Nodes.{within}
use Rattle.cells.specs.Theory.Cells.{made_ready_settled, cell_put}
use Rattle.clauses.proofs.Keeping.{decision_settles, decision_kept}
use Rattle.clauses.proofs.compare.compare.Goals as goal

pub returns-then-known-ge-CLAUSE_UNIT : goal.returns-then-known-ge-CLAUSE_UNIT
returns-then-known-ge-CLAUSE_UNIT c =
    let settled = made_ready_settled c.requires.settled_cells c.make_ready.ensures in
    record { decision_of = decision_kept settled c.make_ready.ensures.is_ready c.requires.has_term_2.1 c.if-known-ge-CLAUSE_UNIT.true c.held_decision.ensures; settled_cells_2 = settled }

pub decide-decision-requires-clause-settled_cells : goal.decide-decision-requires-clause-settled_cells
decide-decision-requires-clause-settled_cells c =
    made_ready_settled c.requires.settled_cells c.make_ready.ensures

pub returns-clause-settled_cells_2 : goal.returns-clause-settled_cells_2
returns-clause-settled_cells_2 c =
    rw c.keep.ensures.cells_after (cell_put c.decide-decision.ensures.settled_cells_2 (within c.requires.has_term.0.denotes) (within c.requires.has_term_2.0.denotes) (decision_settles c.decide-decision.ensures.decision_of))
