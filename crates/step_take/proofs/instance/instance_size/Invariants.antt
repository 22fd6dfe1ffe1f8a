-- `instance_size` meets its contract. The loop's invariant: what is counted, and the instances of the terms that are left, make the whole instance.
use Prim.Native.Nat.{ℕ}
use mathlib.Core.List.{List}
use Rattle.terms.specs.Term.{Term, Values}
use Rattle.step_take.specs.ForContracts.Replacing.{InstanceIs}
use Rattle.step_take.proofs.Counted.{Counted}
use Rattle.step_take.proofs.instance.instance_size.Given as goal

abbrev pub invariant-loop-i : goal.invariant-loop-i
invariant-loop-i l = (arities : List ℕ) (t : Term) (ρ : Values) → InstanceIs l.bytes l.fn.side l.nodes l.sizes l.values arities t ρ → Counted l.bytes l.fn.side.end l.nodes l.sizes l.values arities t ρ l.i l.size
