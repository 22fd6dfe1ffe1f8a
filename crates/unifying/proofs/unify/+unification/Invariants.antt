-- `unify_terms`, `unify_symbols` and `unify_rows` meet their contracts. They call each other while the depth falls, and at the same depth while the row gets shorter.
use Rattle.format.specs.Limits.{position_count}
use Prim.Native.Nat.{◌+◌, ◌-◌, ◌*◌}
use Rattle.unifying.proofs.unify.+unification.Given as goal

abbrev pub decreases-unify_rows : goal.decreases-unify_rows
decreases-unify_rows l = (position_count + 3) * l.depth + 1 + (l.left.end - l.left.from)

abbrev pub decreases-unify_symbols : goal.decreases-unify_symbols
decreases-unify_symbols l = (position_count + 3) * l.depth + (position_count + 2)

abbrev pub decreases-unify_terms : goal.decreases-unify_terms
decreases-unify_terms l = (position_count + 3) * l.depth
