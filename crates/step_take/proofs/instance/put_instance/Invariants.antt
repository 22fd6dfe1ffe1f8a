-- `put_instance` meets its contract. The loop's invariant: the instance is what is put and the instances of the terms that are left.
use Prim.Native.Nat.{ℕ}
use mathlib.Core.List.{List}
use Rattle.terms.specs.Term.{Term, Values}
use Rattle.step_take.specs.ForContracts.Replacing.{InstanceIs}
use Rattle.step_take.proofs.Putting.{Putting}
use Rattle.step_take.proofs.instance.put_instance.Given as goal

abbrev pub invariant-loop-i : goal.invariant-loop-i
invariant-loop-i l = (arities : List ℕ) (t : Term) (ρ : Values) → InstanceIs l.bytes l.fn.side l.nodes l.sizes l.values arities t ρ → Putting l.bytes l.fn.side.end l.nodes l.sizes l.values arities t ρ l.initial.out l.out l.i l.at
