-- Goals of `store_equations`.
use native.Mathlib.Omega.{arith}
use Rattle.scanning.specs.Theory.Arities.{symbols_room, symbols_taken}
use Rattle.rules.proofs.StoreLaws.{arities_few, none_stored, all_stored, row_low, room_for_equation, row_measurable, one_more_stored}
use Rattle.rules.proofs.rows.store_equations.Goals as goal

pub loop-e-init : goal.loop-e-init
loop-e-init c = none_stored c.requires.1 c.requires.2

pub overflow_mul-row : goal.overflow_mul-row
overflow_mul-row c = omega (arith, row_low c.requires.0 c.loop-e.invariant c.loop-e-test.true)

pub slice_bounds-equation_at-count : goal.slice_bounds-equation_at-count
slice_bounds-equation_at-count c = let k = c.loop-e.invariant in omega (arith, row_low c.requires.0 k c.loop-e-test.true, k.equations_length)

pub slice_bounds-equation_at-start : goal.slice_bounds-equation_at-start
slice_bounds-equation_at-start c = let k = c.loop-e.invariant in omega (arith, row_low c.requires.0 k c.loop-e-test.true, k.equations_length)

pub equation_at-n-requires : goal.equation_at-n-requires
equation_at-n-requires c = let a = c.requires.0 in let there = c.loop-e-test.true in (a, there, room_for_equation a c.loop-e.invariant there)

pub slice_bounds-measure-count : goal.slice_bounds-measure-count
slice_bounds-measure-count c = let k = c.loop-e.invariant in omega (arith, row_low c.requires.0 k c.loop-e-test.true, k.equations_length, c.equations-1.given.1)

pub slice_bounds-measure-start : goal.slice_bounds-measure-start
slice_bounds-measure-start c = let k = c.loop-e.invariant in omega (arith, row_low c.requires.0 k c.loop-e-test.true, k.equations_length, c.equations-1.given.1)

pub slice_bounds-arities-end : goal.slice_bounds-arities-end
slice_bounds-arities-end c = let g = c.requires.0.2 in symbols_room g.roomy (arities_few g)

pub slice_bounds-measure-end-in-loop-e : goal.slice_bounds-measure-end-in-loop-e
slice_bounds-measure-end-in-loop-e c = let g = c.requires.0.2 in symbols_taken g.roomy (arities_few g)

pub slice_bounds-measure-count-in-loop-e : goal.slice_bounds-measure-count-in-loop-e
slice_bounds-measure-count-in-loop-e c = let k = c.loop-e.invariant in omega (arith, row_low c.requires.0 k c.loop-e-test.true, k.lengths_length)

pub slice_bounds-measure-start-in-loop-e : goal.slice_bounds-measure-start-in-loop-e
slice_bounds-measure-start-in-loop-e c = let k = c.loop-e.invariant in omega (arith, row_low c.requires.0 k c.loop-e-test.true, k.lengths_length)

pub measure-requires : goal.measure-requires
measure-requires c = row_measurable c.requires.0 c.loop-e.invariant c.loop-e-test.true c.equation_at-n.auto.out c.equation_at-n.ensures

pub loop-e-preserved : goal.loop-e-preserved
loop-e-preserved c =
    one_more_stored c.requires.0 c.loop-e.invariant c.loop-e-test.true c.equation_at-n.auto.out c.equation_at-n.ensures c.measure.auto.sizes c.measure.ensures

pub returns : goal.returns
returns c = all_stored c.requires.0 c.loop-e.invariant c.loop-e-test.false
