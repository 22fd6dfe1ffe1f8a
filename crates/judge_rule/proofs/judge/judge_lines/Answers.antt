-- `judge_lines` loads the row of the rule before the values and tests its lines there.
use Prim.Native.Nat.{◌+◌}
use mathlib.Core.Path.{refl}
use native.Mathlib.Omega.{arith}
use Rattle.format.specs.Limits.{position_count}
use Rattle.terms.specs.Equation.{value}
use Rattle.reducing.specs.Test.{given_values}
use Rattle.judge_rule.proofs.ValueLaws.{has_values, judge_settled, judge_lines_are}
use Rattle.rules.specs.Theory.Rows.{rule_row}
use Rattle.step_try.specs.Theory.Front.{equations_room, lengths_room, nodes_fronted, sizes_fronted}
use Rattle.judge_rule.proofs.judge.judge_lines.Goals as goal

pub place_values-requires : goal.place_values-requires
place_values-requires c = (has_values c.requires.0.is (position_count + c.args.n) refl, refl)

pub overflow_mul-row : goal.overflow_mul-row
overflow_mul-row c = let is = c.requires.0.is.rule_is in omega (arith, rule_row is, is.row.inside, is.row.equations_length)

pub slice_bounds-copy_front-count : goal.slice_bounds-copy_front-count
slice_bounds-copy_front-count c = let is = c.requires.0.is.rule_is in omega (arith, rule_row is, is.row.inside, is.row.equations_length)

pub slice_bounds-copy_front-start : goal.slice_bounds-copy_front-start
slice_bounds-copy_front-start c = let is = c.requires.0.is.rule_is in omega (arith, rule_row is, is.row.inside, is.row.equations_length)

pub copy_front-requires : goal.copy_front-requires
copy_front-requires c = let is = c.requires.0.is in (equations_room is.rule_is, omega (arith, is.loaded.nodes_length))

pub slice_bounds-copy_front-count-2 : goal.slice_bounds-copy_front-count-2
slice_bounds-copy_front-count-2 c = let is = c.requires.0.is.rule_is in omega (arith, rule_row is, is.row.inside, is.row.lengths_length)

pub slice_bounds-copy_front-start-2 : goal.slice_bounds-copy_front-start-2
slice_bounds-copy_front-start-2 c = let is = c.requires.0.is.rule_is in omega (arith, rule_row is, is.row.inside, is.row.lengths_length)

pub copy_front-requires-2 : goal.copy_front-requires-2
copy_front-requires-2 c = let is = c.requires.0.is in (lengths_room is.rule_is, omega (arith, is.loaded.sizes_length))

pub first_holding-requires : goal.first_holding-requires
first_holding-requires c =
    let has = c.requires.0 in
    let is = has.is in
    let nodes = c.args.nodes.now in
    let (n, x) = nodes_fronted is.rule_is nodes c.copy_front.new.to is.loaded.nodes_length c.copy_front.ensures in
    let (l, y) = sizes_fronted is.rule_is c.args.sizes.now c.copy_front-2.new.to is.loaded.sizes_length c.copy_front-2.ensures in
    let at = c.place_values.ensures has.arities nodes has.terms c.args.n is.loaded refl in record { settled_cells = judge_settled is at n l refl c.requires.1; has_lines = record { assigned = given_values has.terms; value = value has.equation (given_values has.terms); these = has.kept; are = judge_lines_are is at n l x y } }

pub returns : goal.returns
returns c = λ arities i e d ls ts is.
    let nodes = c.args.nodes.now in
    let (n, x) = nodes_fronted is.rule_is nodes c.copy_front.new.to is.loaded.nodes_length c.copy_front.ensures in
    let (l, y) = sizes_fronted is.rule_is c.args.sizes.now c.copy_front-2.new.to is.loaded.sizes_length c.copy_front-2.ensures in
    let at = c.place_values.ensures arities nodes ts c.args.n is.loaded refl in
    c.first_holding.ensures.value (given_values ts) (value e (given_values ts)) ls (judge_lines_are is at n l x y)
