-- `keep_rule` walks a rule, and keeps the lines of its table.
use mathlib.Core.Path.{refl}
use Rattle.std.proofs.lemmas.Result.{err_from_is_err_and}
use Rattle.rules.proofs.KeepLaws.{rule_kept}
use Rattle.rules.specs.Theory.Kept.{leaves_refused, records_there}
use Rattle.rules.proofs.keep.keep_rule.Goals as goal

pub keep_lines-requires : goal.keep_lines-requires
keep_lines-requires c =
    let has = c.requires.has_rule_in.0 in
    let leaves = c.walk_rule.ensures.by_index has.arities has.number has.equation has.direction has.is in
    (record { kept = _; are = records_there has.is.row.limits has.direction leaves c.in_ok-solved.was }, c.requires.start_le_table_bytes.0, c.requires.start_le_table_bytes.1)

pub returns-in_err-solved : goal.returns-in_err-solved
returns-in_err-solved c =
    let p = err_from_is_err_and c.from_residual.result c.from_residual.ensures.1 in
    rw (p.1, p.2)
    (record {
      by_index = λ arities i e d is. (leaves_refused (c.walk_rule.ensures.by_index arities i e d is) c.in_err-solved.was, refl);
      scratch_unchanged = c.walk_rule.ensures.scratch_unchanged;
    })

pub returns : goal.returns
returns c =
    record {
      by_index = λ arities i e d is. rule_kept is.row.limits d (c.walk_rule.ensures.by_index arities i e d is) c.in_ok-solved.was c.args.start c.args.table.now c.keep_lines.new.table c.keep_lines.result c.keep_lines.ensures;
      scratch_unchanged = c.walk_rule.ensures.scratch_unchanged;
    }
