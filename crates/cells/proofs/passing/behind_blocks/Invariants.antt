-- `behind_blocks` meets its contract. The invariant: the nodes before `at` are passed over.
use Prim.Native.Nat.{◌-◌}
use Rattle.cells.specs.ForContracts.Passing.{BehindSmaller}
use Rattle.cells.proofs.passing.behind_blocks.Given as goal

abbrev pub invariant-loop-at : goal.invariant-loop-at
invariant-loop-at l = BehindSmaller l.nodes l.symbol l.initial.at l.end l.at

abbrev pub decreases-loop-at : goal.decreases-loop-at
decreases-loop-at l = l.end - l.at
