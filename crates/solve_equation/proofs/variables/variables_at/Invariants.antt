-- `variables_at` meets its contract. The loop's invariant, `Collecting`: the sets of the arguments passed are joined.
use Prim.Native.Nat.{◌-◌}
use Rattle.solve_equation.proofs.Collected.{Collecting}
use Rattle.solve_equation.proofs.variables.variables_at.Given as goal

abbrev pub invariant-loop-k : goal.invariant-loop-k
invariant-loop-k l = Collecting l.nodes l.sizes l.p l.end l.k l.set

abbrev pub decreases-loop-k : goal.decreases-loop-k
decreases-loop-k l = l.end - l.k
