-- `among` meets its contract. The invariant: if the term is among those from `at` on, it is among all.
use Prim.Native.Nat.{◌-◌}
use mathlib.Core.Bool.{Bool}
use Rattle.clauses.specs.ForContracts.Among.{HasRowAndTerm, TellsAmong}
use Rattle.clauses.proofs.among.among.Given as goal

abbrev pub invariant-loop-at : goal.invariant-loop-at
invariant-loop-at l = HasRowAndTerm l.nodes l.sizes (record { from = l.at; end = l.end }) l.j × ((r : Bool) → TellsAmong l.nodes l.sizes (record { from = l.at; end = l.end }) l.j r → TellsAmong l.nodes l.sizes (record { from = l.initial.at; end = l.end }) l.j r)

abbrev pub decreases-loop-at : goal.decreases-loop-at
decreases-loop-at l = l.end - l.at
