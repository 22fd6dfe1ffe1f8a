-- Goals of `count_bindings`.
use native.Mathlib.Omega.{arith}
use Rattle.frames.proofs.BindingLaws.{none_counted, counted_bound, counted_free, counted_moved, all_counted}
use Rattle.frames.proofs.line.count_bindings.Goals as goal
use Rattle.frames.proofs.line.count_bindings.Goals.{then-bytes-v-lt-NO_POSITION, else-bytes-v-lt-NO_POSITION}

pub loop-v-init : goal.loop-v-init
loop-v-init c = none_counted _

pub loop-v-preserved : goal.loop-v-preserved
loop-v-preserved c =
    let h = c.loop-v-test.true in
    elim c.if-bytes-v-lt-NO_POSITION.branch [
      | then-bytes-v-lt-NO_POSITION w ↦ counted_moved w.n-is (counted_bound c.loop-v.invariant h w.if-bytes-v-lt-NO_POSITION.true)
      | else-bytes-v-lt-NO_POSITION w ↦ counted_moved w.n-is (counted_free c.loop-v.invariant h w.if-bytes-v-lt-NO_POSITION.false)
    ]

pub returns : goal.returns
returns c = record { by_index = all_counted c.loop-v.invariant c.loop-v-test.false; upper_bound = omega (arith, c.loop-v.invariant.low, c.loop-v.invariant.within) }
