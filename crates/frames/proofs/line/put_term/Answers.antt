-- `put_term` prints the term at a position.
use Prim.Native.Nat.{◌+◌, ◌-◌}
use mathlib.Core.Path.{ap}
use native.Mathlib.Omega.{arith}
use lib.ListN.{take, drop}
use Rattle.listing.specs.Listing.{digits}
use Rattle.listing.specs.Theory.Printed.{length_digits}
use Rattle.listing.specs.Theory.Appended.{appended_text}
use Rattle.frames.proofs.LineLaws.{term_small, term_part, term_ends, term_length, position_there}
use Rattle.frames.proofs.line.put_term.Goals as goal

pub bounds-sizes-p : goal.bounds-sizes-p
bounds-sizes-p c = let t = c.requires.0 in position_there t.are t.inside

pub slice_bounds-put_bytes-end : goal.slice_bounds-put_bytes-end
slice_bounds-put_bytes-end c = let t = c.requires.0 in omega (arith, c.from.ensures, term_ends t.are t.inside)

pub put_bytes-requires : goal.put_bytes-requires
put_bytes-requires c = let t = c.requires.0 in omega (arith, term_length t.are t.inside c.from.ensures, term_small t.are t.inside, c.requires.1)

pub returns : goal.returns
returns c =
    let t = c.requires.0 in
    let p = c.args.p in
    let size = length_digits (take (p + c.from.result - p) (drop p c.args.nodes.now)) in
    record { appended = λ e s h. appended_text (ap digits (term_part s h c.from.ensures)) c.put_bytes.ensures; upper_bound = omega (arith, c.put_bytes.ensures.ends, size, term_length t.are t.inside c.from.ensures, term_small t.are t.inside) }
