-- Goals of `put_bytes`.
use native.Mathlib.Omega.{arith}
use Rattle.listing.proofs.Digit.{none_passed, reached, byte_passed}
use Rattle.listing.proofs.digits.put_bytes.Goals as goal

pub loop-byte-init : goal.loop-byte-init
loop-byte-init c = none_passed _ _ _

pub put_byte-to-requires : goal.put_byte-to-requires
put_byte-to-requires c = omega (arith, reached c.loop-byte.invariant, c.loop-byte.invariant.so_far.same_length, c.loop-byte-test.true, c.requires)

pub loop-byte-preserved : goal.loop-byte-preserved
loop-byte-preserved c = byte_passed c.loop-byte.invariant c.loop-byte-test.true c.put_byte-to.ensures
