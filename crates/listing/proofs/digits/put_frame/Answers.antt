-- `put_frame` appends bytes and LF.
use Rattle.listing.proofs.Digit.{frame_room, frame_ended}
use Rattle.listing.proofs.digits.put_frame.Goals as goal

pub put_line_feed-requires : goal.put_line_feed-requires
put_line_feed-requires c = frame_room c.args.bytes.now c.requires c.put_bytes-end.ensures

pub returns : goal.returns
returns c =
    frame_ended c.args.bytes.now c.put_bytes-end.ensures c.put_line_feed.ensures
