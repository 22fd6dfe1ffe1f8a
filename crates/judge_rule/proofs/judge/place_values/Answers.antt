-- Goals of `place_values`.
use Prim.Native.Nat.{◌+◌}
use mathlib.Core.Path.{sym, subst}
use native.Mathlib.Omega.{arith}
use lib.ListN.{set}
use Rattle.judge_rule.proofs.ValueLaws.{Placing, placing_start, placing_next, placing_done, slot_there, size_some}
use Rattle.judge_rule.proofs.judge.place_values.Goals as goal

pub loop-node-init : goal.loop-node-init
loop-node-init c = placing_start c.args.sizes.now c.args.end c.requires.1

pub bounds-values-v : goal.bounds-values-v
bounds-values-v c = let k = c.loop-node.invariant in omega (arith, slot_there c.requires.0 k c.loop-node-test.true, k.slots)

pub overflow_add-v : goal.overflow_add-v
overflow_add-v c = omega (arith, slot_there c.requires.0 c.loop-node.invariant c.loop-node-test.true)

pub loop-node-smaller : goal.loop-node-smaller
loop-node-smaller c = let h = c.loop-node-test.true in omega (arith, h, size_some c.requires.0 c.loop-node.invariant h, c.from-node.ensures)

pub loop-node-preserved : goal.loop-node-preserved
loop-node-preserved c =
    subst (λ k. Placing c.args.sizes.now c.args.end (set c.loop-node.values c.loop-node.v c.loop-node.node) (c.loop-node.node + k) (c.loop-node.v + 1)) (sym c.from-node.ensures)
    (placing_next c.requires.0 c.loop-node.invariant c.loop-node-test.true)

pub returns : goal.returns
returns c = placing_done c.loop-node.invariant c.loop-node-test.false
