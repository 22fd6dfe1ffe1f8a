-- `occurs_at` meets its contract. The loop's invariant is `Search`; with each turn one variable more is looked through.
use Prim.Native.Nat.{◌-◌, ◌<◌}
use Rattle.bindings.proofs.Occurrence.{Search}
use Rattle.bindings.proofs.equation.EquationTerms.occurs_at.Given as goal

abbrev pub invariant-loop-seen : goal.invariant-loop-seen
invariant-loop-seen l = Search l.self.nodes.now l.self.sizes.now l.self.variables.now l.bindings l.v l.p l.seen l.through × (l.through < 65536)

abbrev pub decreases-loop-seen : goal.decreases-loop-seen
decreases-loop-seen l = 65536 - l.through
