-- `scanning::text::is_digit` tells the digits, by the differences to the first of each range.
use Rattle.std.proofs.Common.{arith}
use Rattle.scanning.proofs.Digits.{digit_told}
use Rattle.scanning.proofs.text.is_digit.Goals as goal

pub returns : goal.returns
returns c = digit_told _ (omega arith)
