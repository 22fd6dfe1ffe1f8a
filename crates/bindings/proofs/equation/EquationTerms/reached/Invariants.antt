-- `reached` meets its contract. The invariant: from where the walk has come, the hops that are left lead to the same position.
use Rattle.std.proofs.Common.{◌-◌}
use Rattle.format.specs.Limits.{variable_count}
use Rattle.bindings.proofs.Follow.{Following}
use Rattle.bindings.proofs.equation.EquationTerms.reached.Given as goal

abbrev pub invariant-loop-hop : goal.invariant-loop-hop
invariant-loop-hop l = Following l.self.nodes.now l.self.sizes.now l.bindings l.p l.at (variable_count - l._hop)
