-- Goals of `blocks_end`.
use Rattle.std.proofs.Common.{refl}
use Rattle.scanning.proofs.Digits.{digits_to_block}
use Rattle.scanning.proofs.text.blocks_end.Goals as goal

pub loop-i-preserved : goal.loop-i-preserved
loop-i-preserved c = digits_to_block _ _ _ c.loop-i.invariant c.loop-i-test.true c.if-i-at-le-LINE_DIGITS.true (c.if-block_digits.ensures refl)
