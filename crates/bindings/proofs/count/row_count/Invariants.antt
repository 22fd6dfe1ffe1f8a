-- `row_count` counts the terms of a row. The loop's invariant, `Counting`: those passed are counted.
use Prim.Native.Nat.{◌-◌}
use Rattle.bindings.proofs.Rows.{Counting}
use Rattle.bindings.proofs.count.row_count.Given as goal

abbrev pub invariant-loop-t : goal.invariant-loop-t
invariant-loop-t l = Counting l.sizes l.k l.end l.t l.count

abbrev pub decreases-loop-t : goal.decreases-loop-t
decreases-loop-t l = l.end - l.t
