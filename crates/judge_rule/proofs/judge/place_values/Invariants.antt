-- `place_values` finds the node of each value. The loop's invariant, `Placing`: the values passed have theirs.
use Prim.Native.Nat.{◌-◌}
use Rattle.judge_rule.proofs.ValueLaws.{Placing}
use Rattle.judge_rule.proofs.judge.place_values.Given as goal

abbrev pub invariant-loop-node : goal.invariant-loop-node
invariant-loop-node l = Placing l.sizes l.end l.values l.node l.v

abbrev pub decreases-loop-node : goal.decreases-loop-node
decreases-loop-node l = l.end - l.node
