-- `fill` fills the front of a buffer, which has room for `n` bytes.
use mathlib.Core.Path.{◌≡◌, subst, ap, ◌∙◌, sym}
use mathlib.Core.List.{◌++◌}
use lib.ListN.{drop, replicate}
use lib.Seq.{length-take-le}
use Rattle.outcomes.specs.Theory.Fill.{filled_is}
use Rattle.outcomes.proofs.buffer.fill.Goals as goal

pub returns : goal.returns
returns c =
    let n = c.args.n in
    let room = length-take-le n c.args.buffer.now c.requires in
    let front = subst (λ k. c.fill.new.self ≡ replicate k c.args.b) room (c.fill.ensures.after (λ y e. e)) in
    ap (◌++ drop n c.args.buffer.now) front ∙ sym (filled_is n c.args.b c.args.buffer.now)
