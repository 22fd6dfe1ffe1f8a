-- `clause_of_number` gives the clause with a number.
use Rattle.std.proofs.Common.{rules}
use Rattle.ordering.specs.Decision.{clause_number}
use Rattle.clauses.proofs.Keeping.{numbered, numbered_L3}
use Rattle.clauses.proofs.kept.clause_of_number.Goals as goal

pub returns-in-1 : goal.returns-in-1
unfolding clause_number
returns-in-1 c = numbered c.in-1.is

pub returns-in-2 : goal.returns-in-2
unfolding clause_number
returns-in-2 c = numbered c.in-2.is

pub returns-in_default : goal.returns-in_default
returns-in_default c = numbered_L3 (search rules) (search rules)
