-- `reading::seek::decode` writes the bytes of digits to the front of a buffer. The loop's invariant, `Decoding`: those passed stand there.
use Prim.Native.Nat.{◌+◌, ◌*◌}
use Rattle.reading.proofs.Decode.{Decoding}
use Rattle.reading.proofs.seek.decode.Given as goal

abbrev pub invariant-loop-n : goal.invariant-loop-n
invariant-loop-n l = Decoding l.part.sheet.now l.part.span.from l.part.span.end l.initial.out l.out (l.part.span.from + 2 * l.n) l.n
