-- `put_bytes` appends the digits of bytes. The invariant: those before place `i` are appended.
use Rattle.listing.proofs.Digit.{BytesPassed}
use Rattle.listing.proofs.digits.put_bytes.Given as goal

abbrev pub invariant-loop-byte : goal.invariant-loop-byte
invariant-loop-byte l = BytesPassed l.bytes l.initial.out l.at l.out l.to l.byte-index
