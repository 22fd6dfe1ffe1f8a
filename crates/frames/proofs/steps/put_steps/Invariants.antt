-- `put_steps` prints logged steps. The invariant: those before step `i` are printed.
use Rattle.frames.proofs.StepLaws.{StepsPassed}
use Rattle.frames.proofs.steps.put_steps.Given as goal

abbrev pub invariant-loop-i : goal.invariant-loop-i
invariant-loop-i l = StepsPassed l.log l.initial.out l.at l.steps l.out l.to l.i
