-- `reading::seek::equation_at` finds an equation's frame and decodes what stands behind its kind.
use native.Mathlib.Omega.{arith}
use Rattle.reading.proofs.Located.{equation_wanted, equation_inside, equation_spans, equation_room}
use Rattle.reading.proofs.seek.equation_at.Goals as goal

pub frame_at-frame-requires : goal.frame_at-frame-requires
frame_at-frame-requires c = equation_wanted _ _ _ c.requires.0 c.requires.1

pub overflow_add-sides : goal.overflow_add-sides
overflow_add-sides c =
    omega (arith, equation_inside _ _ _ c.requires.0 c.requires.1 _ _ c.frame_at-frame.ensures)

pub decode-requires : goal.decode-requires
decode-requires c =
    equation_room _ _ _ c.requires.0 c.requires.1 _ _ c.frame_at-frame.ensures c.requires.2

pub returns : goal.returns
returns c = λ q h.
    c.decode.ensures _ (equation_spans _ _ _ c.requires.0 c.requires.1 _ _ c.frame_at-frame.ensures q h)
