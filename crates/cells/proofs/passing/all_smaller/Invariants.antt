-- `all_smaller` meets its contract. The invariant: `all` tells of the nodes before `at`.
use mathlib.Core.Path.{◌≡◌}
use mathlib.Core.Logic.{◌↔◌}
use mathlib.Core.Bool.{true}
use Rattle.cells.specs.ForContracts.Passing.{AllSmaller}
use Rattle.cells.proofs.passing.all_smaller.Given as goal

abbrev pub invariant-loop-at : goal.invariant-loop-at
invariant-loop-at l = (l.all ≡ true) ↔ AllSmaller l.nodes l.symbol l.from l.at
