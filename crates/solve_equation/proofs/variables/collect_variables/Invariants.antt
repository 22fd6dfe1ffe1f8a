-- `collect_variables` meets its contract. The loop's invariant: the sets from `p` on are filled in.
use Prim.Native.Nat.{◌≤◌}
use lib.ListN.{length}
use Rattle.bindings.specs.ForContracts.Sets.{VariablesFrom}
use Rattle.solve_equation.proofs.variables.collect_variables.Given as goal

abbrev pub invariant-loop-p : goal.invariant-loop-p
invariant-loop-p l = (l.p ≤ length l.nodes) × VariablesFrom l.nodes l.sizes l.variables l.p

abbrev pub decreases-loop-p : goal.decreases-loop-p
decreases-loop-p l = l.p
