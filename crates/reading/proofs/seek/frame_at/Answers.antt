-- `reading::seek::frame_at` passes over the lines before line `n`: that line stands among what is left.
use mathlib.Core.Path.{◌≡◌, refl, sym, ap, subst}
use Rattle.std.specs.Prelude.{IsSome, IsOk, Ok}
use Rattle.reading.proofs.Seeking.{frame_found}
use Rattle.reading.proofs.seek.frame_at.Goals as goal

pub unwrap-requires : goal.unwrap-requires
unwrap-requires c =
    let (frame, f) = c.requires.1 in
    let (l, e, spans) = frame_found c.args.s.now c.args.n frame f c.new.result _ c.nth.result (ap (λ s. s.now) c.new.ensures.0) c.new.ensures.1 c.new.ensures.2 c.requires.0 c.nth.ensures.ran in
    subst IsSome (sym e) refl

pub unwrap-line-requires : goal.unwrap-line-requires
unwrap-line-requires c =
    let (frame, f) = c.requires.1 in
    let (l, e, spans) = frame_found c.args.s.now c.args.n frame f c.new.result _ c.nth.result (ap (λ s. s.now) c.new.ensures.0) c.new.ensures.1 c.new.ensures.2 c.requires.0 c.nth.ensures.ran in
    let d : c.unwrap.result ≡ Ok l = cc in
    subst IsOk (sym d) refl

pub returns : goal.returns
returns c = λ frame f.
    let (l, e, spans) = frame_found c.args.s.now c.args.n frame f c.new.result _ c.nth.result (ap (λ s. s.now) c.new.ensures.0) c.new.ensures.1 c.new.ensures.2 c.requires.0 c.nth.ensures.ran in
    let d : l ≡ c.unwrap-line.result = cc in
    rw d at spans
