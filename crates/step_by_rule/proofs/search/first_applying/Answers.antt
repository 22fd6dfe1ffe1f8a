-- Goals of `first_applying`.
use mathlib.Core.Path.{refl, sym, ◌∙◌}
use native.Mathlib.Omega.{arith}
use Rattle.step_by_rule.proofs.RulewiseLaws.{trying_start, try_here, trying_next, trying_found, trying_nodes, trying_sizes, trying_done}
use Rattle.step_by_rule.proofs.search.first_applying.Goals as goal

pub loop-node-init : goal.loop-node-init
loop-node-init c = trying_start c.requires.0 c.requires.1 refl

pub applies-requires : goal.applies-requires
applies-requires c =
    let has = c.requires.0 in
    let k = c.loop-node.invariant in record {
      has_try = record {
        arities = has.arities;
        number = has.number;
        equation = has.equation;
        direction = has.direction;
        subject = has.subject;
        position = _;
        is = try_here k c.loop-node-test.true has.is;
      };
      settled = k.settled;
    }

pub shape_of-nodes-then-applies : goal.shape_of-nodes-then-applies
shape_of-nodes-then-applies c = c.applies.auto.nodes ∙ trying_nodes c.loop-node.invariant c.requires.0

pub shape_of-sizes-then-applies : goal.shape_of-sizes-then-applies
shape_of-sizes-then-applies c = c.applies.auto.sizes ∙ trying_sizes c.loop-node.invariant c.requires.0

pub shape_of-cells-then-applies : goal.shape_of-cells-then-applies
shape_of-cells-then-applies c = c.applies.auto.cells ∙ (c.loop-node.invariant.settled.are.cells_length ∙ sym c.requires.1)

pub returns-then-applies : goal.returns-then-applies
returns-then-applies c =
    let k = c.loop-node.invariant in
    record { by_index = trying_found k c.loop-node-test.true c.applies.ensures.by_index c.if-applies.true; by_index_2 = λ arities subject s. c.applies.ensures.by_index_2 arities subject (k.same arities subject s) }

pub loop-node-preserved : goal.loop-node-preserved
loop-node-preserved c =
    trying_next c.loop-node.invariant c.loop-node-test.true c.applies.ensures.by_index c.if-applies.false c.applies.ensures.settled_2 c.applies.ensures.by_index_2

pub shape_of-nodes : goal.shape_of-nodes
shape_of-nodes c = trying_nodes c.loop-node.invariant c.requires.0

pub shape_of-sizes : goal.shape_of-sizes
shape_of-sizes c = trying_sizes c.loop-node.invariant c.requires.0

pub shape_of-cells : goal.shape_of-cells
shape_of-cells c = c.loop-node.invariant.settled.are.cells_length ∙ sym c.requires.1

pub returns : goal.returns
returns c = record { by_index = trying_done c.loop-node.invariant c.loop-node-test.false; by_index_2 = c.loop-node.invariant.same }
