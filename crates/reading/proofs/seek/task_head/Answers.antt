-- `reading::seek::task_head` takes a task's frame apart by its kind.
use mathlib.Core.Path.{ap, ◌∙◌}
use native.Mathlib.Omega.{arith}
use Rattle.format.specs.Kind.{kind_of}
use Rattle.reading.proofs.Located.{head_inside, head_byte, run_inside, run_found, judgement_inside, judgement_found, comparison_found}
use Rattle.reading.proofs.seek.task_head.Goals as goal

pub byte_at-requires : goal.byte_at-requires
byte_at-requires c = let (t, h) = c.requires in omega (arith, head_inside _ _ _ t h)

pub overflow_cast-byte_at : goal.overflow_cast-byte_at
overflow_cast-byte_at c = let (t, h) = c.requires in omega (arith, c.byte_at.ensures, head_byte _ _ _ t h)

pub byte_at-requires-in-Run : goal.byte_at-requires-in-Run
byte_at-requires-in-Run c =
    let (t, h) = c.requires in
    omega (arith, run_inside _ _ _ (c.from-kind.ensures ∙ ap kind_of c.byte_at.ensures) c.in-Run.is t h)

pub byte_at-requires-in-Judgement : goal.byte_at-requires-in-Judgement
byte_at-requires-in-Judgement c =
    let (t, h) = c.requires in
    omega (arith, judgement_inside _ _ _ (c.from-kind.ensures ∙ ap kind_of c.byte_at.ensures) c.in-Judgement.is t h)

pub byte_at-requires-in-Judgement-2 : goal.byte_at-requires-in-Judgement-2
byte_at-requires-in-Judgement-2 c =
    let (t, h) = c.requires in
    omega (arith, judgement_inside _ _ _ (c.from-kind.ensures ∙ ap kind_of c.byte_at.ensures) c.in-Judgement.is t h)

pub returns-in-Run : goal.returns-in-Run
returns-in-Run c =
    run_found _ _ _ (c.from-kind.ensures ∙ ap kind_of c.byte_at.ensures) c.in-Run.is c.byte_at-in-Run.ensures

pub returns-in-Judgement : goal.returns-in-Judgement
returns-in-Judgement c =
    judgement_found _ _ _ (c.from-kind.ensures ∙ ap kind_of c.byte_at.ensures) c.in-Judgement.is c.byte_at-in-Judgement.ensures
    c.byte_at-in-Judgement-2.ensures

pub returns-in_default : goal.returns-in_default
returns-in_default c =
    comparison_found _ _ _ (c.from-kind.ensures ∙ ap kind_of c.byte_at.ensures) c.in_default.not-Run c.in_default.not-Judgement
