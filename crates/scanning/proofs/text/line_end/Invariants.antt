-- `scanning::text::line_end` finds the end of a line. The loop's invariant, `DigitsTo`: what is passed are digits, and not too many.
use Rattle.scanning.specs.ForContracts.Digits.{DigitsTo}
use Rattle.scanning.proofs.text.line_end.Given as goal

abbrev pub invariant-loop-i : goal.invariant-loop-i
invariant-loop-i l = DigitsTo l.s l.at l.i
