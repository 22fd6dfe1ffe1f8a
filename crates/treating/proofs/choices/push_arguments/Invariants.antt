-- `push_arguments` puts the lines of each argument into the memory. The loop's invariant, `PushingArguments`: what is still to be done does the whole.
use Prim.Native.Nat.{◌-◌}
use Rattle.treating.proofs.Arguments.{PushingArguments}
use Rattle.treating.proofs.choices.push_arguments.Given as goal

abbrev pub invariant-loop-s : goal.invariant-loop-s
invariant-loop-s l = PushingArguments l.sizes l.at l.q l.arguments.end l.line l.initial.s l.to l.initial.records l.s l.next l.records

abbrev pub decreases-loop-s : goal.decreases-loop-s
decreases-loop-s l = l.arguments.end - l.s
