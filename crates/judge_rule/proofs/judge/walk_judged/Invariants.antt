-- `walk_judged` walks every rule. The loop's invariant, `Judging`: the walks passed solve, and if the judged rule is among them its lines are kept.
use Rattle.judge_rule.proofs.JudgeLaws.{Judging}
use Rattle.judge_rule.proofs.judge.walk_judged.Given as goal

abbrev pub invariant-loop-rule : goal.invariant-loop-rule
invariant-loop-rule l = Judging l.rows.equations.now l.rows.lengths.now l.count l.judged l.initial.table l.initial.scratch l.table l.scratch l.end l.rule
