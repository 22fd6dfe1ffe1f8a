-- `find_step` searches by positions or rule by rule, whichever is possible.
use Prim.Native.Nat.{ℕ}
use mathlib.Core.Path.{◌≡◌, refl, sym, ◌∙◌}
use native.Mathlib.Omega.{arith}
use Rattle.format.specs.Theory.Behind.{cells_there, cells_behind}
use Rattle.step_search.proofs.SearchLaws.{by_positions, by_rules}
use Rattle.step_search.proofs.seek.find_step.Goals as goal

pub slice_bounds-find_by_positions-end-then-search : goal.slice_bounds-find_by_positions-end-then-search
slice_bounds-find_by_positions-end-then-search c = sym (cells_there c.args.scratch.now c.requires.table_bytes_in_bounds.1)

pub find_by_positions-requires : goal.find_by_positions-requires
find_by_positions-requires c =
    let has = c.requires.has_run in (
      record { arities = has.arities; those = has.those; subject = has.subject; is = by_positions has.is c.if-search.true; counted = has.is.size_is },
      cells_there c.args.scratch.now c.requires.table_bytes_in_bounds.1,
    )

pub shape_of-nodes-then-search : goal.shape_of-nodes-then-search
shape_of-nodes-then-search c = c.find_by_positions.auto.nodes

pub shape_of-sizes-then-search : goal.shape_of-sizes-then-search
shape_of-sizes-then-search c = c.find_by_positions.auto.sizes

pub returns-then-search : goal.returns-then-search
returns-then-search c =
    record { by_index = λ arities es subject is. c.find_by_positions.ensures.by_index arities es subject (by_positions is c.if-search.true); by_index_2 = c.find_by_positions.ensures.by_index_2; table_unchanged = λ h. refl; table_unchanged_2 = refl; scratch_unchanged = cells_behind c.args.scratch.now c.find_by_positions.new.cells (c.find_by_positions.auto.cells ∙ cells_there c.args.scratch.now c.requires.table_bytes_in_bounds.1) }

pub find_by_rules-requires : goal.find_by_rules-requires
find_by_rules-requires c =
    let has = c.requires.has_run in
    record { has_all_solve = record { arities = has.arities; those = has.those; subject = has.subject; are = by_rules has.is c.if-search.false }; table_bytes_in_bounds = c.requires.table_bytes_in_bounds }

pub shape_of-table : goal.shape_of-table
shape_of-table c = c.find_by_rules.auto.table

pub shape_of-nodes : goal.shape_of-nodes
shape_of-nodes c = c.find_by_rules.auto.nodes

pub shape_of-sizes : goal.shape_of-sizes
shape_of-sizes c = c.find_by_rules.auto.sizes

pub shape_of-scratch : goal.shape_of-scratch
shape_of-scratch c = c.find_by_rules.auto.scratch

pub returns : goal.returns
returns c =
    let left = c.if-search.false in
    record { by_index = λ arities es subject is. c.find_by_rules.ensures.by_index arities es subject (by_rules is left); by_index_2 = c.find_by_rules.ensures.by_index_2; table_unchanged = λ h. let z : ◌≡◌ {A = ℕ} 0 1 = cc (h, left) in absurd (omega arith); table_unchanged_2 = c.find_by_rules.ensures.table_unchanged; scratch_unchanged = c.find_by_rules.ensures.scratch_unchanged }
