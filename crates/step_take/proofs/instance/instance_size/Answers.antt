-- Goals of `instance_size`.
use native.Mathlib.Omega.{arith}
use Rattle.terms.specs.Theory.Spelled.{spelled_room}
use Rattle.step_take.proofs.Left.{value_there}
use Rattle.step_take.proofs.Counted.{count_start, of_some, symbol_counted, value_counted, all_counted}
use Rattle.step_take.proofs.instance.instance_size.Goals as goal
use Rattle.step_take.proofs.instance.instance_size.Goals.{then-byte-lt-FIRST_VARIABLE, else-byte-lt-FIRST_VARIABLE}

pub loop-i-init : goal.loop-i-init
loop-i-init c = λ arities t ρ s. count_start s

pub bounds-bytes-i : goal.bounds-bytes-i
bounds-bytes-i c =
    let k = of_some c.requires c.loop-i.invariant in
    let h = c.loop-i-test.true in
    omega (arith, spelled_room k.left.spelled h)

pub overflow_add-size : goal.overflow_add-size
overflow_add-size c = omega (arith, (of_some c.requires c.loop-i.invariant).few)

pub bounds-values-from : goal.bounds-values-from
bounds-values-from c =
    let k = of_some c.requires c.loop-i.invariant in
    omega (arith, c.from.ensures, (value_there k.left c.loop-i-test.true c.if-byte-lt-FIRST_VARIABLE.false).slot)

pub bounds-sizes-node : goal.bounds-sizes-node
bounds-sizes-node c =
    let k = of_some c.requires c.loop-i.invariant in
    rw (c.from-node.ensures, c.from.ensures) (value_there k.left c.loop-i-test.true c.if-byte-lt-FIRST_VARIABLE.false).stands.in_lengths

pub overflow_add-size-else-byte-lt-FIRST_VARIABLE : goal.overflow_add-size-else-byte-lt-FIRST_VARIABLE
overflow_add-size-else-byte-lt-FIRST_VARIABLE c = omega (arith, (of_some c.requires c.loop-i.invariant).few, c.from-size.ensures, c.type_inv.sizes c.from-node.result)

pub loop-i-preserved : goal.loop-i-preserved
loop-i-preserved c =
    λ arities t ρ s.
    let k = c.loop-i.invariant arities t ρ s in
    elim c.if-byte-lt-FIRST_VARIABLE.branch [
      | then-byte-lt-FIRST_VARIABLE w ↦ rw w.size-is (symbol_counted k c.loop-i-test.true w.if-byte-lt-FIRST_VARIABLE.true)
      | else-byte-lt-FIRST_VARIABLE w ↦ rw (w.size-is, w.from-size.ensures, w.from-node.ensures, w.from.ensures) (value_counted k c.loop-i-test.true w.if-byte-lt-FIRST_VARIABLE.false)
    ]

pub returns : goal.returns
returns c =
    record { by_index = λ arities t ρ s. all_counted (c.loop-i.invariant arities t ρ s) c.loop-i-test.false; upper_bound = omega (arith, (of_some c.requires c.loop-i.invariant).few) }
