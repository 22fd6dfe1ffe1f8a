-- `match_holds` tests the kept lines at the match, once the row is loaded.
use native.Mathlib.Omega.{arith}
use Rattle.terms.specs.Equation.{value}
use Rattle.terms.specs.Filling.{filling}
use Rattle.reducing.specs.Match.{values_of}
use Rattle.rules.specs.Theory.Rows.{rule_row}
use Rattle.step_try.proofs.FrontLaws.{subject_kept, settled_next, lines_are, lines_tell}
use Rattle.step_try.specs.Theory.Front.{equations_room, lengths_room, nodes_fronted, sizes_fronted}
use Rattle.step_try.proofs.applies.match_holds.Goals as goal

pub overflow_mul-row : goal.overflow_mul-row
overflow_mul-row c = let is = c.requires.has_matched_try.is.rule_is in omega (arith, rule_row is, is.row.inside, is.row.equations_length)

pub slice_bounds-load_row-count : goal.slice_bounds-load_row-count
slice_bounds-load_row-count c = let is = c.requires.has_matched_try.is.rule_is in omega (arith, rule_row is, is.row.inside, is.row.equations_length)

pub slice_bounds-load_row-start : goal.slice_bounds-load_row-start
slice_bounds-load_row-start c = let is = c.requires.has_matched_try.is.rule_is in omega (arith, rule_row is, is.row.inside, is.row.equations_length)

pub load_row-requires : goal.load_row-requires
load_row-requires c = let is = c.requires.has_matched_try.is in (equations_room is.rule_is, omega (arith, is.subject_is.nodes_length))

pub slice_bounds-load_row-count-2 : goal.slice_bounds-load_row-count-2
slice_bounds-load_row-count-2 c = let is = c.requires.has_matched_try.is.rule_is in omega (arith, rule_row is, is.row.inside, is.row.lengths_length)

pub slice_bounds-load_row-start-2 : goal.slice_bounds-load_row-start-2
slice_bounds-load_row-start-2 c = let is = c.requires.has_matched_try.is.rule_is in omega (arith, rule_row is, is.row.inside, is.row.lengths_length)

pub load_row-requires-2 : goal.load_row-requires-2
load_row-requires-2 c = let is = c.requires.has_matched_try.is in (lengths_room is.rule_is, omega (arith, is.subject_is.sizes_length))

pub first_holding-requires : goal.first_holding-requires
first_holding-requires c =
    let has = c.requires.has_matched_try in
    let is = has.is in
    let (n, bytes) = nodes_fronted is.rule_is c.args.nodes.now c.load_row.new.to is.subject_is.nodes_length c.load_row.ensures in
    let (l, measured) = sizes_fronted is.rule_is c.args.sizes.now c.load_row-2.new.to is.subject_is.sizes_length c.load_row-2.ensures in record { settled_cells = settled_next n l c.args.values.now c.requires.settled is.met.values_length c.clear.ensures; has_lines = record { assigned = values_of (filling has.arities) has.found; value = value has.equation (values_of (filling has.arities) has.found); these = is.kept; are = lines_are is n l bytes measured } }

pub returns : goal.returns
returns c =
    let nodes = c.args.nodes.now in
    let sizes = c.args.sizes.now in
    let fronts = nodes_fronted c.requires.has_matched_try.is.rule_is nodes c.load_row.new.to c.requires.has_matched_try.is.subject_is.nodes_length c.load_row.ensures in
    let sized = sizes_fronted c.requires.has_matched_try.is.rule_is sizes c.load_row-2.new.to c.requires.has_matched_try.is.subject_is.sizes_length c.load_row-2.ensures in record {
      by_index = λ arities i e d subject m is.
          let (n, x) = nodes_fronted is.rule_is nodes c.load_row.new.to is.subject_is.nodes_length c.load_row.ensures in
          let (l, y) = sizes_fronted is.rule_is sizes c.load_row-2.new.to is.subject_is.sizes_length c.load_row-2.ensures in
          rw c.is_some.ensures (lines_tell is c.first_holding.result (c.first_holding.ensures.value (values_of (filling arities) m) (value e (values_of (filling arities) m)) is.kept (lines_are is n l x y)));
      by_index_2 = λ arities subject s. subject_kept fronts.0 sized.0 s;
      settled_2 = record { values = c.args.values.now; are = c.first_holding.ensures.settled_cells_2 };
    }
