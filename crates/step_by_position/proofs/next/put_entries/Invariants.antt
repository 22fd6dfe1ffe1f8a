-- `put_entries` puts one entry of each row. The loop's invariant, `PutBelow`: it is put in the rows of the symbols passed.
use Prim.Native.Nat.{◌≤◌}
use Rattle.format.specs.Limits.{max_symbols}
use Rattle.step_by_position.proofs.NextLaws.{PutBelow}
use Rattle.step_by_position.proofs.next.put_entries.Given as goal

abbrev pub invariant-loop-f : goal.invariant-loop-f
invariant-loop-f l = (l.f ≤ max_symbols) × PutBelow l.initial.next l.next l.rule l.top l.live l.f
