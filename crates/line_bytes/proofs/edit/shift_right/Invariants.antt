-- `shift_right` moves bytes to the right. The loop's invariant, `ShiftingRight`: what is still to be moved gives the whole.
use Rattle.line_bytes.proofs.Shifting.{ShiftingRight}
use Rattle.line_bytes.proofs.edit.shift_right.Given as goal

abbrev pub invariant-loop-i : goal.invariant-loop-i
invariant-loop-i l = ShiftingRight l.from l.end l.by l.initial.bytes l.i l.bytes
