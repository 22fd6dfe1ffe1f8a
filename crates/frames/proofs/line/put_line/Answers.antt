-- `put_line` prints a line's frame, part by part.
use native.Mathlib.Omega.{arith}
use Rattle.listing.specs.Listing.{digits}
use Rattle.frames.proofs.ElementLaws.{all_bytes, record_count}
use Rattle.frames.proofs.FrameLaws.{line_appended}
use Rattle.frames.proofs.line.put_line.Goals as goal

pub count_bindings-requires : goal.count_bindings-requires
count_bindings-requires c = omega (arith, all_bytes c.requires.0)

pub put_bindings-at_count-requires : goal.put_bindings-at_count-requires
unfolding digits
put_bindings-at_count-requires c =
    (c.requires.0, omega (arith, c.put_bytes-at_bindings.ensures.ends, c.put_bytes-at_bindings.ensures.same_length, c.requires.1))

pub bounds-bytes-12 : goal.bounds-bytes-12
bounds-bytes-12 c =
    omega (arith, all_bytes c.requires.0)

pub put_byte-at_elements-requires : goal.put_byte-at_elements-requires
unfolding digits
put_byte-at_elements-requires c =
    omega (arith, c.put_bindings-at_count.ensures.upper_bound, c.put_bindings-at_count.auto.out, c.put_bytes-at_bindings.ensures.ends, c.put_bytes-at_bindings.ensures.same_length, c.requires.1)

pub put_elements-end-requires : goal.put_elements-end-requires
unfolding digits
put_elements-end-requires c =
    (c.requires.0, omega (arith, c.put_byte-at_elements.ensures.ends, c.put_byte-at_elements.ensures.same_length, c.put_bindings-at_count.ensures.upper_bound, c.put_bindings-at_count.auto.out, c.put_bytes-at_bindings.ensures.ends, c.put_bytes-at_bindings.ensures.same_length, c.requires.1))

pub put_line_feed-requires : goal.put_line_feed-requires
unfolding digits
put_line_feed-requires c =
    omega (arith, c.put_elements-end.ensures.upper_bound, c.put_elements-end.auto.out, c.put_byte-at_elements.ensures.ends, c.put_byte-at_elements.ensures.same_length, c.put_bindings-at_count.ensures.upper_bound, c.put_bindings-at_count.auto.out, c.put_bytes-at_bindings.ensures.ends, c.put_bytes-at_bindings.ensures.same_length, c.requires.1)

pub returns : goal.returns
unfolding digits
returns c =
    record { appended = λ e θ es r. line_appended e θ es (c.count_bindings.ensures.by_index _ _ e θ es r) (record_count r) c.put_bytes-at_bindings.ensures (c.put_bindings-at_count.ensures.appended e θ es r) c.put_byte-at_elements.ensures (c.put_elements-end.ensures.appended e θ es r) c.put_line_feed.ensures; upper_bound = omega (arith, c.put_line_feed.ensures.ends, c.put_elements-end.ensures.upper_bound, c.put_byte-at_elements.ensures.ends, c.put_bindings-at_count.ensures.upper_bound, c.put_bytes-at_bindings.ensures.ends) }
