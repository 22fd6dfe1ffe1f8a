-- Goals of `find_by_positions`.
use native.Mathlib.Omega.{arith}
use Rattle.step_by_position.proofs.PositionLaws.{few_rules_here, node_inside, row_inside, following_inside, seeking_start, seeking_onward, try_there, seeking_found, seeking_next, seeking_done, finding_start, search_there, finding_found, finding_next, finding_done}
use Rattle.step_by_position.proofs.positions.find_by_positions.Goals as goal

pub loop-node-init : goal.loop-node-init
loop-node-init c = finding_start c.requires.0 c.requires.1

pub bounds-nodes-node : goal.bounds-nodes-node
bounds-nodes-node c =
    let inv = c.loop-node.invariant in
    node_inside (search_there c.requires.0 inv c.loop-node-test.true)

pub bounds-next-row : goal.bounds-next-row
bounds-next-row c =
    let inv = c.loop-node.invariant in
    let h = search_there c.requires.0 inv c.loop-node-test.true in
    row_inside h c.from-row.ensures

pub loop-rule-init : goal.loop-rule-init
loop-rule-init c =
    let inv = c.loop-node.invariant in
    let h = search_there c.requires.0 inv c.loop-node-test.true in
    seeking_start h c.from-row.ensures c.from-rule.ensures inv.settled

pub bounds-bounds-rule-in-loop-rule : goal.bounds-bounds-rule-in-loop-rule
bounds-bounds-rule-in-loop-rule c =
    let inv = c.loop-node.invariant in
    let h = search_there c.requires.0 inv c.loop-node-test.true in
    omega (arith, few_rules_here h, h.is.rules_are.bounds_length)

pub applies-requires : goal.applies-requires
applies-requires c =
    let inv = c.loop-node.invariant in
    let h = search_there c.requires.0 inv c.loop-node-test.true in
    let seeking = c.loop-rule.invariant in
    record { has_try = try_there h seeking c.loop-rule-test.true; settled = seeking.settled }

pub shape_of-nodes-then-applies : goal.shape_of-nodes-then-applies
shape_of-nodes-then-applies c = omega (arith, c.applies.ensures.settled_2.are.nodes_length, c.requires.0.is.subject_is.nodes_length)

pub shape_of-sizes-then-applies : goal.shape_of-sizes-then-applies
shape_of-sizes-then-applies c = omega (arith, c.applies.ensures.settled_2.are.sizes_length, c.requires.0.is.subject_is.sizes_length)

pub shape_of-cells-then-applies : goal.shape_of-cells-then-applies
shape_of-cells-then-applies c = omega (arith, c.applies.ensures.settled_2.are.cells_length, c.loop-node.invariant.settled.are.cells_length)

pub returns-then-applies : goal.returns-then-applies
returns-then-applies c =
    let inv = c.loop-node.invariant in
    let h = search_there c.requires.0 inv c.loop-node-test.true in
    let seeking = c.loop-rule.invariant in
    let below = c.loop-rule-test.true in
    record { by_index = finding_found c.requires.0 inv c.loop-node-test.true (seeking_found h seeking below c.applies.ensures.by_index c.if-applies.true) below; by_index_2 = λ arities subject s. c.applies.ensures.by_index_2 arities subject (seeking.subject_kept arities subject (inv.subject_kept arities subject s)) }

pub overflow_add-row : goal.overflow_add-row
overflow_add-row c =
    let inv = c.loop-node.invariant in
    let h = search_there c.requires.0 inv c.loop-node-test.true in
    omega (arith, following_inside h c.from-row.ensures c.loop-rule-test.true, h.is.next_is.whole)

pub overflow_add-row-in-loop-rule : goal.overflow_add-row-in-loop-rule
overflow_add-row-in-loop-rule c =
    let inv = c.loop-node.invariant in
    let h = search_there c.requires.0 inv c.loop-node-test.true in
    omega (arith, following_inside h c.from-row.ensures c.loop-rule-test.true, h.is.next_is.whole)

pub bounds-next-row-in-loop-rule : goal.bounds-next-row-in-loop-rule
bounds-next-row-in-loop-rule c =
    let inv = c.loop-node.invariant in
    let h = search_there c.requires.0 inv c.loop-node-test.true in
    following_inside h c.from-row.ensures c.loop-rule-test.true

pub loop-rule-smaller : goal.loop-rule-smaller
loop-rule-smaller c =
    let inv = c.loop-node.invariant in
    let h = search_there c.requires.0 inv c.loop-node-test.true in
    let below = c.loop-rule-test.true in
    omega (arith, below, seeking_onward h c.from-row.ensures below c.from-rule-in-loop-rule.ensures)

pub loop-rule-preserved : goal.loop-rule-preserved
loop-rule-preserved c =
    let inv = c.loop-node.invariant in
    let h = search_there c.requires.0 inv c.loop-node-test.true in
    seeking_next h c.loop-rule.invariant c.loop-rule-test.true c.applies.ensures.by_index c.if-applies.false c.from-row.ensures c.from-rule-in-loop-rule.ensures c.applies.ensures.by_index_2 c.applies.ensures.settled_2

pub loop-node-preserved : goal.loop-node-preserved
loop-node-preserved c =
    let seeking = c.loop-rule.invariant in
    finding_next c.requires.0 c.loop-node.invariant c.loop-node-test.true (seeking_done seeking c.loop-rule-test.false) (omega arith) seeking.subject_kept seeking.settled

pub shape_of-nodes : goal.shape_of-nodes
shape_of-nodes c = omega (arith, c.loop-node.invariant.settled.are.nodes_length, c.requires.0.is.subject_is.nodes_length)

pub shape_of-sizes : goal.shape_of-sizes
shape_of-sizes c = omega (arith, c.loop-node.invariant.settled.are.sizes_length, c.requires.0.is.subject_is.sizes_length)

pub shape_of-cells : goal.shape_of-cells
shape_of-cells c = omega (arith, c.loop-node.invariant.settled.are.cells_length, c.requires.1)

pub returns : goal.returns
returns c = record { by_index = finding_done c.requires.0 c.loop-node.invariant c.loop-node-test.false; by_index_2 = c.loop-node.invariant.subject_kept }
