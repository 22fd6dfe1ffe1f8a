-- `count_bindings` counts the variables that are bound. The invariant: those before `v` are counted.
use Rattle.frames.proofs.BindingLaws.{Counted}
use Rattle.frames.proofs.line.count_bindings.Given as goal

abbrev pub invariant-loop-v : goal.invariant-loop-v
invariant-loop-v l = Counted l.bytes l.n l.v
