-- `measure` meets its contract. The invariant: the sizes from `i` to `end` are filled in, `size` is the first of them, and the others are as they were.
use mathlib.Core.Path.{◌≡◌}
use lib.ListN.{get_or}
use lib.Seq.{slice}
use Rattle.terms.proofs.Filled.{SizesFilled}
use Rattle.terms.proofs.measure.measure.Given as goal

abbrev pub invariant-loop-i : goal.invariant-loop-i
invariant-loop-i l = SizesFilled l.arities l.nodes l.initial.sizes l.from l.end l.sizes l.i × (l.size ≡ get_or (slice l.i l.end l.sizes) 0 0)
