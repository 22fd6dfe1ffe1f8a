-- Goals of `turn`.
use native.Mathlib.Omega.{arith}
use Rattle.walking.proofs.Searching.{filling_next, place_there, head_few, filled_readable, filled_few, head_within, head_next, head_treating, head_finishing}
use Rattle.walking.proofs.walk.Walk.turn.Goals as goal

pub element_at-requires : goal.element_at-requires
element_at-requires c =
    omega (arith, head_few c.requires.0 c.requires.1 c.head-line.ensures, place_there c.requires.0 c.requires.1)

pub bounds-line-i : goal.bounds-line-i
bounds-line-i c =
    omega (arith, head_few c.requires.0 c.requires.1 c.head-line.ensures)

pub loop-i-preserved : goal.loop-i-preserved
loop-i-preserved c =
    filling_next c.loop-i.invariant (omega (arith, head_few c.requires.0 c.requires.1 c.head-line.ensures)) _ c.element_at.ensures

pub bounds-line-at : goal.bounds-line-at
bounds-line-at c =
    omega (arith, filled_few c.requires.0 c.requires.1 c.head-line.ensures c.loop-i.invariant c.loop-i-test.false c.loop-at.invariant.1, c.loop-at-test.true)

pub treatment_of-treatment-requires : goal.treatment_of-treatment-requires
treatment_of-treatment-requires c =
    let filled = c.loop-i.invariant in
    let full = c.loop-i-test.false in
    record { readable = (filled_readable c.requires.0 c.requires.1 c.head-line.ensures filled full c.loop-at.invariant.1, c.requires.2); within = head_within c.requires.0 c.requires.1 c.head-line.ensures filled full c.loop-at.invariant.1 c.loop-at-test.true }

pub treat-requires : goal.treat-requires
treat-requires c =
    let filled = c.loop-i.invariant in
    let full = c.loop-i-test.false in
    (head_treating c.requires.0 c.requires.1 c.head-line.ensures filled full c.loop-at.invariant.1 c.loop-at-test.true c.treatment_of-treatment.result c.treatment_of-treatment.ensures _ c.loop-at.invariant.0, c.in_default.not-Reduced, c.requires.2)

pub loop-at-preserved : goal.loop-at-preserved
loop-at-preserved c =
    let filled = c.loop-i.invariant in
    let full = c.loop-i-test.false in
    (c.loop-at.invariant.0, head_next c.requires.0 c.requires.1 c.head-line.ensures filled full c.loop-at.invariant.1 c.loop-at-test.true c.treatment_of-treatment.result c.treatment_of-treatment.ensures c.in-Reduced.is)

pub finish-requires : goal.finish-requires
finish-requires c =
    let filled = c.loop-i.invariant in
    let full = c.loop-i-test.false in
    head_finishing c.requires.0 c.requires.1 c.head-line.ensures filled full c.loop-at.invariant.1 c.loop-at-test.false _ c.loop-at.invariant.0
