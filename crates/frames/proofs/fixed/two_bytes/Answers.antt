-- `two_bytes` gives a number's two bytes.
use mathlib.Core.Path.{refl}
use Rattle.listing.specs.Listing.{two_bytes}
use Rattle.frames.proofs.fixed.two_bytes.Goals as goal

pub returns : goal.returns
unfolding two_bytes
returns c = refl
