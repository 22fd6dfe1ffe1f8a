-- Goals of `find_by_rules`.
use native.Mathlib.Omega.{arith}
use Rattle.step_by_rule.proofs.RulewiseLaws.{finding_start, rule_to_try, rule_tried, finding_nodes, finding_sizes, all_tried}
use Rattle.step_by_rule.proofs.search.find_by_rules.Goals as goal
use Rattle.step_by_rule.proofs.search.find_by_rules.Goals.{in-Some, in_default}

pub overflow_add-best : goal.overflow_add-best
overflow_add-best c = let has = c.requires.has_all_solve in omega (arith, has.are.size_is, has.are.subject_is.stored.within)

pub loop-rule-init : goal.loop-rule-init
loop-rule-init c = finding_start _ _ _ _ _ _ _ _

pub first_node-first-requires : goal.first_node-first-requires
first_node-first-requires c =
    let k = c.loop-rule.invariant in
    record { has_unkept_try = rule_to_try k c.requires.has_all_solve c.loop-rule-test.true; table_bytes_in_bounds = (omega (arith, k.table_length, c.requires.table_bytes_in_bounds.0), omega (arith, k.scratch_length, c.requires.table_bytes_in_bounds.1)) }

pub loop-rule-preserved : goal.loop-rule-preserved
loop-rule-preserved c =
    let t = c.first_node-first in
    let next = rule_tried c.loop-rule.invariant c.requires.has_all_solve c.loop-rule-test.true _ _ _ _ t.result t.ensures.by_index t.ensures.by_index_2 t.auto.table t.auto.scratch t.ensures.table_unchanged t.ensures.scratch_unchanged in
    elim c.match-first.branch [
      | in-Some w ↦ let found = rw w.in-Some.is at next in rw (w.best-is, w.found-is) found
      | in_default w ↦ let none = rw w.in_default.is at next in rw (w.best-is, w.found-is) none
    ]

pub shape_of-table : goal.shape_of-table
shape_of-table c = c.loop-rule.invariant.table_length

pub shape_of-nodes : goal.shape_of-nodes
shape_of-nodes c = finding_nodes c.loop-rule.invariant c.requires.has_all_solve

pub shape_of-sizes : goal.shape_of-sizes
shape_of-sizes c = finding_sizes c.loop-rule.invariant c.requires.has_all_solve

pub shape_of-scratch : goal.shape_of-scratch
shape_of-scratch c = c.loop-rule.invariant.scratch_length

pub returns : goal.returns
returns c =
    let k = c.loop-rule.invariant in
    record { by_index = all_tried k c.loop-rule-test.false; by_index_2 = k.same; table_unchanged = k.table_behind; scratch_unchanged = k.scratch_behind }
