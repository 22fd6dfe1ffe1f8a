-- `first_node` walks a rule only if its source matches; else it can step nowhere. The lines are kept at the front of the table.
use mathlib.Core.Path.{refl, sym, ap, ◌∙◌}
use Rattle.std.specs.Prelude.{Some, Ok}
use native.Mathlib.Omega.{arith}
use lib.Seq.{length-take-le}
use Rattle.format.specs.Limits.{cell_count}
use Rattle.terms.specs.Filling.{filling}
use Rattle.reducing.proofs.Theory.Step.{none_matches}
use Rattle.step_by_rule.proofs.RulewiseLaws.{none_for, no_step, source_there, kept_ends, room_there, kept_at_front, matched_from, matched_nowhere, front_behind, scratch_after_walk, scratch_after_cells}
use Rattle.step_by_rule.proofs.search.first_node.Goals as goal

pub sides_of-sides-requires : goal.sides_of-sides-requires
sides_of-sides-requires c =
    let has = c.requires.has_unkept_try in
    record { equations = c.args.rows.now.equations.now; arities = has.arities; number = has.number; equation = has.equation; direction = has.direction; is = has.is.rule_is }

pub first_match-requires : goal.first_match-requires
first_match-requires c =
    let has = c.requires.has_unkept_try in
    let (s, t) = c.sides_of-sides.ensures c.args.rows.now.equations.now has.arities has.number has.equation has.direction has.is.rule_is in
    record { arities = has.arities; pattern = _; subject = has.subject; is = source_there has.is s }

pub returns-in_err-from : goal.returns-in_err-from
returns-in_err-from c =
    record {
      by_index = λ arities i e d subject u.
          let (s, t) = c.sides_of-sides.ensures c.args.rows.now.equations.now arities i e d u.rule_is in
          let m = matched_nowhere (c.first_match.ensures arities _ subject (source_there u s)) c.in_err-from.was in
          no_step u c.from_residual.ensures (none_for u (λ p l. none_matches (filling arities) subject p i e d (m.none_before p l)));
      by_index_2 = (λ arities subject s. s);
      table_unchanged = refl;
      scratch_unchanged = refl;
    }

pub keep_rule-requires : goal.keep_rule-requires
keep_rule-requires c =
    let has = c.requires.has_unkept_try in record { has_rule_in = (record { arities = has.arities; number = has.number; equation = has.equation; direction = has.direction; is = has.is.rule_is }, omega (arith, c.requires.table_bytes_in_bounds.1)); start_le_table_bytes = (omega arith, c.requires.table_bytes_in_bounds.0) }

-- Every rule solves, and there is room for its lines.
pub returns-in_default : goal.returns-in_default
returns-in_default c =
    let has = c.requires.has_unkept_try in
    let (last, y) = kept_ends has.is c.args.table.now c.keep_rule.new.table c.keep_rule.result (c.keep_rule.ensures.by_index has.arities has.number has.equation has.direction has.is.rule_is) in
    absurd (c.in_default.not-Ok (Some last) y)

pub returns-in_err-last : goal.returns-in_err-last
returns-in_err-last c =
    let has = c.requires.has_unkept_try in
    absurd (room_there has.is c.args.table.now c.keep_rule.new.table c.keep_rule.result (c.keep_rule.ensures.by_index has.arities has.number has.equation has.direction has.is.rule_is) c.in-Ok.is c.in_err-last.was)

pub slice_bounds-first_applying-end : goal.slice_bounds-first_applying-end
slice_bounds-first_applying-end c = omega (arith, c.keep_rule.auto.scratch, c.requires.table_bytes_in_bounds.1)

pub slice_bounds-first_applying-end-2 : goal.slice_bounds-first_applying-end-2
slice_bounds-first_applying-end-2 c = sym (length-take-le cell_count c.keep_rule.new.scratch (omega (arith, c.keep_rule.auto.scratch, c.requires.table_bytes_in_bounds.1)))

pub first_applying-requires : goal.first_applying-requires
first_applying-requires c =
    let has = c.requires.has_unkept_try in
    let (s, t) = c.sides_of-sides.ensures c.args.rows.now.equations.now has.arities has.number has.equation has.direction has.is.rule_is in
    let matches = c.first_match.ensures has.arities _ has.subject (source_there has.is s) in (
      record {
        arities = has.arities;
        number = has.number;
        equation = has.equation;
        direction = has.direction;
        subject = has.subject;
        is =
            kept_at_front has.is c.args.table.now c.keep_rule.new.table c.requires.table_bytes_in_bounds.0 (c.keep_rule.ensures.by_index has.arities has.number has.equation has.direction has.is.rule_is) (c.in-Ok.is ∙ ap Ok c.in_ok-last.was) (matched_from matches c.in_ok-from.was);
      },
      length-take-le cell_count c.keep_rule.new.scratch (omega (arith, c.keep_rule.auto.scratch, c.requires.table_bytes_in_bounds.1)),
    )

pub shape_of-table : goal.shape_of-table
shape_of-table c = c.keep_rule.auto.table

pub shape_of-nodes : goal.shape_of-nodes
shape_of-nodes c = c.first_applying.auto.nodes

pub shape_of-sizes : goal.shape_of-sizes
shape_of-sizes c = c.first_applying.auto.sizes

pub shape_of-scratch : goal.shape_of-scratch
shape_of-scratch c = c.scratch-2-1.given.1 ∙ c.keep_rule.auto.scratch

pub returns : goal.returns
returns c =
    let has = c.requires.has_unkept_try in
    let cells = c.first_applying.auto.cells ∙ length-take-le cell_count c.keep_rule.new.scratch (omega (arith, c.keep_rule.auto.scratch, c.requires.table_bytes_in_bounds.1)) in record {
      by_index = λ arities i e d subject u.
          let (s, t) = c.sides_of-sides.ensures c.args.rows.now.equations.now arities i e d u.rule_is in
          let matches = c.first_match.ensures arities _ subject (source_there u s) in
          c.first_applying.ensures.by_index arities i e d subject (kept_at_front u c.args.table.now c.keep_rule.new.table c.requires.table_bytes_in_bounds.0 (c.keep_rule.ensures.by_index arities i e d u.rule_is) (c.in-Ok.is ∙ ap Ok c.in_ok-last.was) (matched_from matches c.in_ok-from.was));
      by_index_2 = c.first_applying.ensures.by_index_2;
      table_unchanged = front_behind has c.args.table.now c.keep_rule.new.table c.keep_rule.result c.requires.table_bytes_in_bounds.0 (c.keep_rule.ensures.by_index has.arities has.number has.equation has.direction has.is.rule_is);
      scratch_unchanged = scratch_after_cells c.first_applying.new.cells c.keep_rule.new.scratch cells ∙ scratch_after_walk c.args.scratch.now c.keep_rule.new.scratch c.keep_rule.ensures.scratch_unchanged;
    }
