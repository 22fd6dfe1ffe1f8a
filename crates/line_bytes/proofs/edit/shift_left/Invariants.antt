-- `shift_left` moves bytes to the left. The loop's invariant, `ShiftingLeft`: what is still to be moved gives the whole.
use Rattle.line_bytes.proofs.Shifting.{ShiftingLeft}
use Rattle.line_bytes.proofs.edit.shift_left.Given as goal

abbrev pub invariant-loop-i : goal.invariant-loop-i
invariant-loop-i l = ShiftingLeft l.from l.end l.by l.initial.bytes l.i l.bytes
