-- `put_bindings` prints the variables that are bound, each with its term. The invariant: those before `v` are printed.
use Rattle.frames.proofs.BindingLaws.{BindingsPassed}
use Rattle.frames.proofs.line.put_bindings.Given as goal

abbrev pub invariant-loop-v : goal.invariant-loop-v
invariant-loop-v l = BindingsPassed l.bytes l.nodes l.sizes l.initial.out l.at l.out l.to l.v
