-- `turn` meets its contract: the line is filled in and searched, and then finished or treated. The loops' invariants: `Filling`, the elements passed are filled in; `Searching`, those passed are fully reduced.
use mathlib.Core.Path.{◌≡◌}
use Rattle.walking.proofs.Searching.{Filling, Searching}
use Rattle.walking.proofs.walk.Walk.turn.Given as goal

abbrev pub invariant-loop-i : goal.invariant-loop-i
invariant-loop-i l = Filling l.memory l.place l.initial.line l.line l.i

abbrev pub invariant-loop-at : goal.invariant-loop-at
invariant-loop-at l = (l.memory ≡ l.initial.memory) × Searching l.equation.nodes.now l.equation.sizes.now l.initial.memory l.place l.line l.at
