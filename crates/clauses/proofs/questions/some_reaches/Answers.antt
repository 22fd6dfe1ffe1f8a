-- `some_reaches` meets its contract.
use Rattle.clauses.proofs.Members.{among_reaches}
use Rattle.clauses.proofs.questions.some_reaches.Goals as goal

pub returns-then-among-clause-finds_reaching : goal.returns-then-among-clause-finds_reaching
returns-then-among-clause-finds_reaching c = among_reaches (rw c.if-among.true at c.among.ensures)
