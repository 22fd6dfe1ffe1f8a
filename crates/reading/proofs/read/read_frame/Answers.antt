-- `reading::read::read_frame` is the definition's `read_frame`, whatever state is known.
use mathlib.Core.Path.{refl, ap, ◌∙◌}
use native.Mathlib.Omega.{arith}
use Rattle.format.specs.Kind.{kind_of}
use Rattle.reading.proofs.OneFrame.{few_arities, kind_small, line_behind, known_sheet, read_first, read_later}
use Rattle.reading.proofs.read.read_frame.Goals as goal

pub overflow_cast-byte_at : goal.overflow_cast-byte_at
overflow_cast-byte_at c = omega (arith, c.byte_at.ensures, kind_small _ _ c.requires.0 c.requires.1)

pub first_frame-requires : goal.first_frame-requires
first_frame-requires c = rw c.tail-body.ensures (line_behind _ _ c.requires.0 c.requires.1)

pub returns-then-known-eq0 : goal.returns-then-known-eq0
returns-then-known-eq0 c =
    read_first _ _ c.requires.0 c.requires.1 _ (c.from-kind.ensures ∙ ap kind_of c.byte_at.ensures) c.if-known-eq0.true
    c.first_frame.result (rw c.tail-body.ensures at c.first_frame.ensures)

pub equation_frame-requires : goal.equation_frame-requires
equation_frame-requires c =
    let (sheet, knows) = known_sheet _ c.if-known-eq0.false c.requires.2 in
    rw c.tail-body.ensures (record { body = line_behind _ _ c.requires.0 c.requires.1; few_symbols = few_arities _ sheet knows }, (sheet, knows))

pub task_frame-requires : goal.task_frame-requires
task_frame-requires c =
    let (sheet, knows) = known_sheet _ c.if-known-eq0.false c.requires.2 in
    rw c.tail-body.ensures (record { body = line_behind _ _ c.requires.0 c.requires.1; few_symbols = few_arities _ sheet knows }, (sheet, knows), c.in_default.not-Equation)

pub returns-in-Equation : goal.returns-in-Equation
returns-in-Equation c =
    read_later _ _ c.requires.0 c.requires.1 _ (c.from-kind.ensures ∙ ap kind_of c.byte_at.ensures) c.if-known-eq0.false
    c.in-Equation.is
    c.equation_frame.result (rw c.tail-body.ensures at c.equation_frame.ensures)

pub returns-in_default : goal.returns-in_default
returns-in_default c =
    read_later _ _ c.requires.0 c.requires.1 _ (c.from-kind.ensures ∙ ap kind_of c.byte_at.ensures) c.if-known-eq0.false refl
    c.task_frame.result (rw c.tail-body.ensures at c.task_frame.ensures)
