-- `scanning::text::blocks_end` passes a block of digits at a time. The loop's invariant, `DigitsTo`: what is passed are digits, and not too many.
use Rattle.std.proofs.Common.{◌-◌, length}
use Rattle.scanning.specs.ForContracts.Digits.{DigitsTo}
use Rattle.scanning.proofs.text.blocks_end.Given as goal

abbrev pub invariant-loop-i : goal.invariant-loop-i
invariant-loop-i l = DigitsTo l.s l.at l.i

abbrev pub decreases-loop-i : goal.decreases-loop-i
decreases-loop-i l = length l.s - l.i
