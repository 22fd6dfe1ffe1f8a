-- Goals of `elements_hold`.
use native.Mathlib.Omega.{arith}
use Rattle.std.proofs.Common.{rules}
use Rattle.kept_lines.proofs.Pairs.{pair_there, no_equality, pair_read, inequality_there, pair_fails, pair_holds, pairs_done}
use Rattle.kept_lines.proofs.holding.elements_hold.Goals as goal

pub element_at-requires : goal.element_at-requires
element_at-requires c = omega (arith, (pair_there c.loop-i.invariant c.loop-i-test.true c.requires.has_elements).room)

pub returns-in_default : goal.returns-in_default
returns-in_default c =
    absurd (no_equality c.loop-i.invariant c.loop-i-test.true c.element_at.result c.element_at.ensures c.requires.has_elements c.in_default.is)

pub inequality_holds-requires : goal.inequality_holds-requires
inequality_holds-requires c =
    let inv = c.loop-i.invariant in
    let h = c.loop-i-test.true in
    let read = pair_read inv h c.element_at.result c.element_at.ensures c.requires.has_elements c.in-Greater.is c.from.ensures c.from-in-loop-i.ensures in
    record { settled_cells = inv.settled; has_inequality = inequality_there inv h read c.requires.has_elements }

pub returns-then-not-inequality_holds : goal.returns-then-not-inequality_holds
returns-then-not-inequality_holds c =
    let inv = c.loop-i.invariant in
    let h = c.loop-i-test.true in
    let read = pair_read inv h c.element_at.result c.element_at.ensures c.requires.has_elements c.in-Greater.is c.from.ensures c.from-in-loop-i.ensures in
    record { variant = pair_fails inv h read c.inequality_holds.ensures.variant (search rules); settled_cells_2 = c.inequality_holds.ensures.settled_cells_2 }

pub loop-i-preserved : goal.loop-i-preserved
loop-i-preserved c =
    let inv = c.loop-i.invariant in
    let h = c.loop-i-test.true in
    let read = pair_read inv h c.element_at.result c.element_at.ensures c.requires.has_elements c.in-Greater.is c.from.ensures c.from-in-loop-i.ensures in
    pair_holds inv h read c.inequality_holds.ensures.variant (search rules) c.inequality_holds.ensures.settled_cells_2

pub returns : goal.returns
returns c = record { variant = pairs_done c.loop-i.invariant c.loop-i-test.false; settled_cells_2 = c.loop-i.invariant.settled }

pub returns-else-not-inequality_holds-clause-variant : goal.returns-else-not-inequality_holds-clause-variant
returns-else-not-inequality_holds-clause-variant c =
    let inv = c.loop-i.invariant in
    let h = c.loop-i-test.true in
    let read = pair_read inv h c.element_at.result c.element_at.ensures c.requires.has_elements c.in-Greater.is c.from.ensures c.from-in-loop-i.ensures in
    pairs_done (pair_holds inv h read c.inequality_holds.ensures.variant c.if-not-inequality_holds.false c.inequality_holds.ensures.settled_cells_2) (omega arith)
