-- `behind_smaller` meets its contract. The invariant: the nodes before `at` are passed over.
use Rattle.cells.specs.ForContracts.Passing.{BehindSmaller}
use Rattle.cells.proofs.passing.behind_smaller.Given as goal

abbrev pub invariant-loop-at : goal.invariant-loop-at
invariant-loop-at l = BehindSmaller l.nodes l.symbol l.from l.end l.at
