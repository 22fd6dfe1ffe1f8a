-- Goals of `walk_judged`.
use Prim.Native.Nat.{ℕ, ◌+◌}
use mathlib.Core.Path.{sym, subst, ◌∙◌}
use mathlib.Core.List.{List}
use native.Mathlib.Omega.{arith}
use Rattle.judge_rule.proofs.JudgeLaws.{Judging, judging_done, judging_refused, judging_records, judging_passed, judging_kept, never_full}
use Rattle.rules.specs.Theory.Rows.{rule_there}
use Rattle.judge_rule.proofs.judge.walk_judged.Goals as goal
use Rattle.judge_rule.proofs.judge.walk_judged.Goals.{then-rule-judged+in-Some, then-rule-judged+in_default, else-rule-judged}

pub walk_rule-requires : goal.walk_rule-requires
walk_rule-requires c = let k = c.loop-rule.invariant in (rule_there c.requires.0 c.loop-rule-test.true, omega (arith, k.scratch_length, c.requires.2))

pub returns-in-Err : goal.returns-in-Err
returns-in-Err c =
    let k = c.loop-rule.invariant in
    record { by_index = judging_refused k c.requires.0 c.loop-rule-test.true c.walk_rule.ensures.by_index c.in-Err.is; table_unchanged = k.table_behind; scratch_unchanged = c.walk_rule.ensures.scratch_unchanged ∙ k.scratch_behind }

pub keep_lines-kept-requires : goal.keep_lines-kept-requires
keep_lines-kept-requires c =
    let k = c.loop-rule.invariant in (
      judging_records k c.requires.0 c.loop-rule-test.true c.walk_rule.ensures.by_index c.in-Ok.is,
      omega arith,
      omega (arith, k.table_length, c.requires.1),
    )

pub loop-rule-preserved : goal.loop-rule-preserved
loop-rule-preserved c =
    let k = c.loop-rule.invariant in
    let there = c.loop-rule-test.true in
    let solves = c.in-Ok.is in
    let after = c.walk_rule.new.scratch in
    let length-kept = c.walk_rule.auto.scratch in
    let Next : List ℕ → ℕ → Type 0 = λ table end. Judging c.args.rows.now.equations.now c.args.rows.now.lengths.now c.args.count c.args.judged c.args.table.now c.args.scratch.now table after end (c.loop-rule.rule + 1) in
    elim c.if-rule-judged.branch [
      | then-rule-judged+in-Some w ↦
          subst (λ t. Next t c.if-rule-judged.end) (sym w.table-is) (subst (Next w.keep_lines-kept.new.table) (sym w.end-is)
          (judging_kept k c.requires.0 there c.walk_rule.ensures.by_index solves length-kept c.walk_rule.ensures.scratch_unchanged c.requires.1 w.if-rule-judged.true w.keep_lines-kept.new.table w.keep_lines-kept.result w.keep_lines-kept.ensures w.in-Some.is))
      | then-rule-judged+in_default w ↦
          absurd (never_full k c.requires.0 there c.walk_rule.ensures.by_index solves length-kept c.walk_rule.ensures.scratch_unchanged c.requires.1 w.if-rule-judged.true w.keep_lines-kept.new.table w.keep_lines-kept.result w.keep_lines-kept.ensures w.in_default.is)
      | else-rule-judged w ↦
          subst (λ t. Next t c.if-rule-judged.end) (sym w.table-is) (subst (Next c.loop-rule.table) (sym w.end-is)
          (judging_passed k c.requires.0 there c.walk_rule.ensures.by_index solves length-kept c.walk_rule.ensures.scratch_unchanged w.if-rule-judged.false))
    ]

pub returns : goal.returns
returns c = let k = c.loop-rule.invariant in record { by_index = judging_done k c.loop-rule-test.false; table_unchanged = k.table_behind; scratch_unchanged = k.scratch_behind }
