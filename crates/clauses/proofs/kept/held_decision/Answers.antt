-- `held_decision` gives the decision that a cell holds.
use Rattle.clauses.proofs.Keeping.{held_smaller, held_equal, held_greater}
use Rattle.clauses.proofs.kept.held_decision.Goals as goal

pub returns-in-Smaller : goal.returns-in-Smaller
returns-in-Smaller c = held_smaller c.held.ensures c.clause_of_number-clause.ensures c.in-Smaller.is

pub returns-in-Equal : goal.returns-in-Equal
returns-in-Equal c = held_equal c.held.ensures c.clause_of_number-clause.ensures c.in-Equal.is

pub returns-in-Greater : goal.returns-in-Greater
returns-in-Greater c = held_greater c.held.ensures c.clause_of_number-clause.ensures c.in-Greater.is
