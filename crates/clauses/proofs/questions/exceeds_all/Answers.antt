-- `exceeds_all` meets its contract.
use Rattle.clauses.proofs.Members.{among_not_exceeded}
use Rattle.clauses.proofs.questions.exceeds_all.Goals as goal

pub returns-then-among-clause-compares_with_all : goal.returns-then-among-clause-compares_with_all
returns-then-among-clause-compares_with_all c = among_not_exceeded (rw c.if-among.true at c.among.ensures)
