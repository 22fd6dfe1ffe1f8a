-- `digit` gives the digit of a number below 16.
use Rattle.listing.proofs.Digit.{low_digit, high_digit}
use Rattle.listing.proofs.digits.digit.Goals as goal

pub returns-then-n-lt10 : goal.returns-then-n-lt10
returns-then-n-lt10 c = low_digit c.args.n c.if-n-lt10.true

pub returns : goal.returns
returns c = high_digit c.args.n c.if-n-lt10.false
