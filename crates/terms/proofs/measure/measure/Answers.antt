-- Goals of `measure`.
use Prim.Native.Nat.{◌+◌, ◌-◌}
use mathlib.Core.Path.{◌≡◌}
use native.Mathlib.Omega.{arith}
use lib.Seq.{slice_empty}
use Rattle.terms.proofs.Filled.{filled_none, filled_same_length, first_asks, filled_asks, filled_more, filled_first}
use Rattle.terms.proofs.measure.measure.Goals as goal

pub loop-i-init : goal.loop-i-init
loop-i-init c = (filled_none c.requires, rw (slice_empty c.args.end c.args.sizes.now))

pub slice_bounds-first_size-end-in-loop-i : goal.slice_bounds-first_size-end-in-loop-i
slice_bounds-first_size-end-in-loop-i c =
    let f = c.loop-i.invariant.0 in
    omega (arith, filled_same_length c.requires f, c.requires.sizes_room)

pub first_size-size-requires : goal.first_size-size-requires
first_size-size-requires c =
    let loop = c.loop-i in
    let q = first_asks c.requires loop.invariant.0 c.loop-i-test.true in
    let behind : (loop.i - 1) + 1 ≡ loop.i = omega (arith, c.loop-i-test.true) in
    rw behind (record { whole = q.0; nodes_nonzero = q.1; sizes_value = (q.2, filled_asks c.requires loop.invariant.0 loop.invariant.1) })

pub loop-i-preserved : goal.loop-i-preserved
loop-i-preserved c =
    let loop = c.loop-i in
    let loop-test = c.loop-i-test in
    let behind : (loop.i - 1) + 1 ≡ loop.i = omega (arith, loop-test.true) in
    let first = rw behind at c.first_size-size.ensures in
    (filled_more c.requires loop.invariant.0 loop-test.true first, filled_first c.requires loop.invariant.0 loop-test.true first)

pub shape_of-sizes : goal.shape_of-sizes
shape_of-sizes c = filled_same_length c.requires c.loop-i.invariant.0
