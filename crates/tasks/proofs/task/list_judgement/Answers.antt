-- `list_judgement` walks its rule, keeps its lines and prints the first that holds.
use mathlib.Core.Path.{refl}
use lib.ListN.{replicate}
use native.Mathlib.Omega.{arith}
use Rattle.format.specs.Limits.{table_bytes}
use Rattle.reducing.specs.Test.{holding_line, given_values}
use Rattle.judge_task.specs.Theory.Holding.{holding_few}
use Rattle.tasks.proofs.JudgementLaws.{never_refused, records_has, never_full, values_kept, values_has}
use Rattle.tasks.proofs.task.list_judgement.Goals as goal

pub returns-in_default : goal.returns-in_default
returns-in_default c = λ i e d ts at. absurd (never_refused at c.walk_rule.ensures.by_index c.in_default.is)

pub keep_lines-requires : goal.keep_lines-requires
keep_lines-requires c =
    let has = c.requires.has_judgement_at in
    (records_has has.are c.walk_rule.ensures.by_index c.in-Ok.is, omega arith, omega arith)

pub returns-in_default-keep_lines : goal.returns-in_default-keep_lines
returns-in_default-keep_lines c =
    let solved = c.in-Ok.is in
    λ i e d ts at. absurd (never_full at c.walk_rule.ensures.by_index solved (replicate table_bytes 0) (omega arith) c.keep_lines.new.table c.keep_lines.result c.keep_lines.ensures c.in_default-keep_lines.is)

pub judge_values-holding-requires : goal.judge_values-holding-requires
judge_values-holding-requires c =
    let solved = c.in-Ok.is in
    let has = c.requires.has_judgement_at in
    (values_has has.are c.walk_rule.ensures.by_index solved (replicate table_bytes 0) (omega arith) c.keep_lines.new.table c.keep_lines.result c.keep_lines.ensures c.in-Some.is, omega (arith, c.scratch-1.given, c.requires.scratch_bytes_in_bounds))

pub put_judgement-requires : goal.put_judgement-requires
put_judgement-requires c =
    let has = c.requires.has_judgement_at in
    let values = values_kept has.are c.walk_rule.ensures.by_index c.in-Ok.is (replicate table_bytes 0) (omega arith) c.keep_lines.new.table c.keep_lines.result c.keep_lines.ensures c.in-Some.is in
    let told = c.judge_values-holding.ensures.by_index has.number has.equation has.direction has.terms values in
    ((holding_line has.equation has.direction (given_values has.terms), told, holding_few values refl), omega (arith, c.requires.scratch_bytes_in_bounds))

pub returns : goal.returns
returns c = λ i e d ts at.
    let values = values_kept at c.walk_rule.ensures.by_index c.in-Ok.is (replicate table_bytes 0) (omega arith) c.keep_lines.new.table c.keep_lines.result c.keep_lines.ensures c.in-Some.is in
    c.put_judgement.ensures (holding_line e d (given_values ts)) (c.judge_values-holding.ensures.by_index i e d ts values)
