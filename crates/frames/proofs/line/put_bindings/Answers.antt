-- Goals of `put_bindings`.
use native.Mathlib.Omega.{arith}
use Rattle.listing.specs.Listing.{digits}
use Rattle.frames.proofs.BindingLaws.{no_binding_passed, free_passed, bound_there, bound_passed, passed_moved, bindings_passed}
use Rattle.frames.proofs.ElementLaws.{all_bytes}
use Rattle.frames.proofs.line.put_bindings.Goals as goal
use Rattle.frames.proofs.line.put_bindings.Goals.{then-p-lt-NO_POSITION, else-p-lt-NO_POSITION}

pub loop-v-init : goal.loop-v-init
loop-v-init c = no_binding_passed _ _ _ _ _

pub bounds-bytes-v : goal.bounds-bytes-v
bounds-bytes-v c = omega (arith, all_bytes c.requires.0, c.loop-v-test.true)

pub put_term-to-requires : goal.put_term-to-requires
unfolding digits
put_term-to-requires c =
    let h = c.loop-v-test.true in
    (bound_there c.loop-v.invariant h c.if-p-lt-NO_POSITION.true c.from.ensures c.requires.0, omega (arith, c.loop-v.invariant.reached, c.loop-v.invariant.same_length, h, c.put_byte-behind.ensures.ends, c.put_byte-behind.ensures.same_length, c.requires.1))

pub loop-v-preserved : goal.loop-v-preserved
loop-v-preserved c =
    let h = c.loop-v-test.true in
    elim c.if-p-lt-NO_POSITION.branch [
      | then-p-lt-NO_POSITION w ↦ passed_moved w.out-is w.to-is (bound_passed c.loop-v.invariant h w.if-p-lt-NO_POSITION.true w.from.ensures w.put_byte-behind.ensures w.put_term-to.ensures.appended w.put_term-to.ensures.upper_bound w.put_term-to.auto.out)
      | else-p-lt-NO_POSITION w ↦ passed_moved w.out-is w.to-is (free_passed c.loop-v.invariant h w.if-p-lt-NO_POSITION.false)
    ]

pub returns : goal.returns
returns c = record { appended = bindings_passed c.loop-v.invariant c.loop-v-test.false; upper_bound = omega (arith, c.loop-v.invariant.reached, c.loop-v.invariant.within) }
