-- `judge_found` walks every rule, judges the values by the lines of one, and leaves the lent buffers blank.
use mathlib.Core.Path.{◌∙◌}
use native.Mathlib.Omega.{arith}
use Rattle.judge_task.proofs.JudgeTaskLaws.{walk_behind, left_over, judged_has, judgement_told}
use Rattle.judge_task.proofs.task.judge_found.Goals as goal

pub judge_walked-number-requires : goal.judge_walked-number-requires
judge_walked-number-requires c = (
  judged_has c.requires.0.is c.store_equations.new.equations c.store_equations.new.lengths c.store_equations.ensures c.walk_judged-judged.new.table c.walk_judged-judged.result c.walk_judged-judged.ensures.by_index,
  omega (arith, c.walk_judged-judged.auto.scratch, c.requires.2),
)

pub returns : goal.returns
returns c task j =
    let table = c.args.table.now in
    let scratch = c.args.scratch.now in
    let worked = c.walk_judged-judged.new.table in
    judgement_told j c.store_equations.new.equations c.store_equations.new.lengths c.store_equations.ensures worked c.walk_judged-judged.result c.walk_judged-judged.ensures.by_index table scratch c.judge_walked-number.ensures.judged_number
    ∙ left_over c.judge_walked-number.result table worked c.fill.new.buffer scratch c.judge_walked-number.new.scratch c.fill-2.new.buffer c.walk_judged-judged.ensures.table_unchanged c.fill.ensures
    (c.judge_walked-number.ensures.scratch_unchanged ∙ walk_behind scratch c.walk_judged-judged.new.scratch c.walk_judged-judged.ensures.scratch_unchanged) c.fill-2.ensures
