-- `keep_rules` walks the rules in order. The invariant: those passed solve, and where their lines fit together, these stand one behind the other.
use Rattle.rules.proofs.WalkLaws.{Walking}
use Rattle.rules.proofs.walks.keep_rules.Given as goal

abbrev pub invariant-loop-rule : goal.invariant-loop-rule
invariant-loop-rule l = Walking l.rows.equations.now l.rows.lengths.now l.count l.initial.table l.initial.scratch l.bounds l.table l.scratch l.fits l.start l.rule
