-- `put_refusal` prints a refusal and its line.
use Rattle.listing.specs.Listing.{two_bytes, refusal_frame}
use Rattle.frames.proofs.fixed.put_refusal.Goals as goal

pub returns : goal.returns
unfolding refusal_frame two_bytes
returns c =
    rw (c.two_bytes-line.ensures, c.from.ensures) at c.put_frame.ensures
