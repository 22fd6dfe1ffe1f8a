-- `run_steps` goes from step to step as the definition does.
use Prim.Native.Nat.{◌-◌}
use Rattle.run_steps.proofs.CourseLaws.{Running}
use Rattle.run_steps.proofs.course.run_steps.Given as goal

abbrev pub invariant-loop-rule : goal.invariant-loop-rule
invariant-loop-rule l =
    Running l.equations l.lengths l.start.rules l.bounds l.next l.start.fits l.arities l.limit l.initial.log l.initial.table l.initial.nodes l.initial.sizes l.initial.scratch l.start.size l.table l.nodes l.sizes l.scratch l.log l.size l.steps

abbrev pub decreases-loop-rule : goal.decreases-loop-rule
decreases-loop-rule l =
    l.limit - l.steps
