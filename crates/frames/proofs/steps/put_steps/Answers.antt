-- Goals of `put_steps`.
use Rattle.frames.proofs.StepLaws.{no_steps_passed, step_passed}
use Rattle.frames.proofs.steps.put_steps.Goals as goal

pub loop-i-init : goal.loop-i-init
loop-i-init c = no_steps_passed _ _ _ _

pub loop-i-preserved : goal.loop-i-preserved
loop-i-preserved c = step_passed c.loop-i.invariant c.loop-i-test.true c.put_frame-to.ensures
