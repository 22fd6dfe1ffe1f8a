-- Goals of `keep_rules`.
use mathlib.Core.Path.{ap, ◌∙◌}
use Rattle.std.specs.Prelude.{Ok}
use native.Mathlib.Omega.{arith}
use Rattle.rules.proofs.WalkLaws.{Turn, walking_start, walk_refused, refused_behind, turn_full, turn_kept, turn_unkept, all_walked}
use Rattle.rules.specs.Theory.Rows.{rule_there}
use Rattle.rules.proofs.walks.keep_rules.Goals as goal
use Rattle.rules.proofs.walks.keep_rules.Goals.{After-keep_rule, in-None, in-Some+then-fits, in-Some+else-fits}

pub loop-rule-init : goal.loop-rule-init
loop-rule-init c = walking_start _ _ _ _ _ c.args.bounds.now c.requires.has_rows.1

pub keep_rule-requires : goal.keep_rule-requires
keep_rule-requires c =
    let k = c.loop-rule.invariant in
    record { has_rule_in = (rule_there c.requires.has_rows.0 c.loop-rule-test.true, omega (arith, k.scratch_length, c.requires.table_bytes_in_bounds.1)); start_le_table_bytes = (k.within, omega (arith, k.table_length, c.requires.table_bytes_in_bounds.0)) }

-- What is known behind the walk of a rule.
turn_at : (c : After-keep_rule) → Turn c.args.rows.now.equations.now c.args.rows.now.lengths.now c.args.count c.args.table.now c.args.scratch.now c.loop-rule.bounds c.loop-rule.table c.loop-rule.scratch c.loop-rule.fits c.loop-rule.start c.loop-rule.rule c.keep_rule.result c.keep_rule.new.table c.keep_rule.new.scratch
turn_at c =
    record {
      has = c.requires.has_rows.0;
      low = c.loop-rule-test.true;
      room = c.requires.table_bytes_in_bounds.0;
      walking = c.loop-rule.invariant;
      answer = c.keep_rule.ensures.by_index;
      same_table = c.keep_rule.auto.table;
      same_scratch = c.keep_rule.auto.scratch;
      scratch_rest = c.keep_rule.ensures.scratch_unchanged;
    }

pub returns-in-Err : goal.returns-in-Err
returns-in-Err c =
    let t = turn_at (goal.at.returns-in-Err c).After-keep_rule in
    record { by_index = walk_refused t c.in-Err.is; table_unchanged = refused_behind t c.in-Err.is; scratch_unchanged = c.keep_rule.ensures.scratch_unchanged ∙ c.loop-rule.invariant.scratch_behind }

pub loop-rule-preserved : goal.loop-rule-preserved
loop-rule-preserved c =
    let t = turn_at (goal.at.loop-rule-preserved c).After-keep_rule in
    let kept = c.in-Ok.is in
    elim c.match-kept.branch [
      | in-None w ↦ turn_full t (kept ∙ ap Ok w.in-None.is) w.fits-is w.start-is
      | in-Some+then-fits w ↦ turn_kept t (kept ∙ ap Ok w.in-Some.is) w.fits-is w.start-is
      | in-Some+else-fits w ↦ turn_unkept t (kept ∙ ap Ok w.in-Some.is) w.fits-is w.if-fits.false w.start-is
    ]

pub returns : goal.returns
returns c =
    let k = c.loop-rule.invariant in
    record { by_index = all_walked k c.loop-rule-test.false; table_unchanged = k.table_behind; scratch_unchanged = k.scratch_behind }
