-- `put_elements` prints both terms of each element. The invariant: those before element `i` are printed.
use Rattle.frames.proofs.ElementLaws.{ElementsPassed}
use Rattle.frames.proofs.line.put_elements.Given as goal

abbrev pub invariant-loop-i : goal.invariant-loop-i
invariant-loop-i l = ElementsPassed l.bytes l.nodes l.sizes l.initial.out l.at l.out l.to l.i
