-- `reading::symbols::arities` reads the arities. The loop's invariant, `AritiesFilled`: those passed are known and low.
use Rattle.reading.proofs.Arities.{AritiesFilled}
use Rattle.reading.proofs.symbols.arities.Given as goal

abbrev pub invariant-loop-i : goal.invariant-loop-i
invariant-loop-i l = AritiesFilled l.s l.from l.n l.known l.i
