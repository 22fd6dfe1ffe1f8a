-- `put_byte` appends a byte's two digits.
use Rattle.listing.proofs.Digit.{two_digits}
use Rattle.listing.proofs.digits.put_byte.Goals as goal

pub returns : goal.returns
returns c = two_digits c.args.out.now c.args.at c.args.byte c.digit.result c.digit-2.result c.requires c.digit.ensures c.digit-2.ensures
