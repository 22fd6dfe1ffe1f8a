-- `fill_next` fills the table of next rules. The loops' invariants: `Ended`, the last entries of the rows passed are put; `Filling`, the entries from `rule` on are as they
-- are to be.
use Rattle.format.specs.Limits.{max_symbols}
use Rattle.step_by_position.proofs.NextLaws.{Ended, Filling}
use Rattle.step_by_position.proofs.next.fill_next.Given as goal

abbrev pub invariant-loop-f : goal.invariant-loop-f
invariant-loop-f l = Ended l.rules l.next l.f

abbrev pub invariant-loop-rule : goal.invariant-loop-rule
invariant-loop-rule l = Filling l.rows.equations.now l.rows.lengths.now l.rules l.bounds l.table l.next l.rule
