-- `inequality_treatment` meets its contract, by what stands at the positions reached.
use mathlib.Core.Path.{sym, ◌∙◌}
use Rattle.unifying.specs.Theory.Unify.{variable_free}
use Rattle.treating.proofs.Treatment.{left_drops, left_reduced, right_drops, right_reduced}
use Rattle.treating.proofs.treat.inequality_treatment.Goals as goal

pub occurs_at-requires : goal.occurs_at-requires
occurs_at-requires c =
    let sides = c.args.sides in
    let free = variable_free c.requires.readable.0 sides.left c.reached-s.result c.from.result c.reached-s.ensures.value c.reached-s.ensures.upper_bound c.if-f-ge-FIRST_VARIABLE.true c.from.ensures in
    record { readable = c.requires.readable; p_in_bounds = (c.requires.left_in_bounds.1, free.0, free.1) }

pub returns-then-occurs_at : goal.returns-then-occurs_at
returns-then-occurs_at c =
    let sides = c.args.sides in
    left_drops c.args.equation.now.nodes.now c.args.equation.now.sizes.now c.args.bindings.now sides.left sides.right c.reached-s.result c.reached-s.ensures.value c.reached-s.ensures.upper_bound c.if-f-ge-FIRST_VARIABLE.true c.from.result c.from.ensures (sym c.if-occurs_at.true ∙ c.occurs_at.ensures)

pub returns-then-f-ge-FIRST_VARIABLE : goal.returns-then-f-ge-FIRST_VARIABLE
returns-then-f-ge-FIRST_VARIABLE c =
    let sides = c.args.sides in
    left_reduced c.args.equation.now.nodes.now c.args.equation.now.sizes.now c.args.bindings.now sides.left sides.right c.reached-s.result c.reached-s.ensures.value c.reached-s.ensures.upper_bound c.if-f-ge-FIRST_VARIABLE.true c.from.result c.from.ensures (sym c.if-occurs_at.false ∙ c.occurs_at.ensures)

pub occurs_at-requires-then-g-ge-FIRST_VARIABLE : goal.occurs_at-requires-then-g-ge-FIRST_VARIABLE
occurs_at-requires-then-g-ge-FIRST_VARIABLE c =
    let sides = c.args.sides in
    let free = variable_free c.requires.readable.0 sides.right c.reached-t.result c.from-then-g-ge-FIRST_VARIABLE.result c.reached-t.ensures.value c.reached-t.ensures.upper_bound c.if-g-ge-FIRST_VARIABLE.true c.from-then-g-ge-FIRST_VARIABLE.ensures in
    record { readable = c.requires.readable; p_in_bounds = (c.requires.left_in_bounds.0, free.0, free.1) }

pub returns-then-occurs_at-2 : goal.returns-then-occurs_at-2
returns-then-occurs_at-2 c =
    let sides = c.args.sides in
    right_drops c.args.equation.now.nodes.now c.args.equation.now.sizes.now c.args.bindings.now sides.left sides.right c.reached-s.result c.reached-s.ensures.value c.reached-t.result c.reached-t.ensures.value c.reached-s.ensures.upper_bound c.if-f-ge-FIRST_VARIABLE.false c.reached-t.ensures.upper_bound c.if-g-ge-FIRST_VARIABLE.true c.from-then-g-ge-FIRST_VARIABLE.result c.from-then-g-ge-FIRST_VARIABLE.ensures (sym c.if-occurs_at-2.true ∙ c.occurs_at-then-g-ge-FIRST_VARIABLE.ensures)

pub returns-then-g-ge-FIRST_VARIABLE : goal.returns-then-g-ge-FIRST_VARIABLE
returns-then-g-ge-FIRST_VARIABLE c =
    let sides = c.args.sides in
    right_reduced c.args.equation.now.nodes.now c.args.equation.now.sizes.now c.args.bindings.now sides.left sides.right c.reached-s.result c.reached-s.ensures.value c.reached-t.result c.reached-t.ensures.value c.reached-s.ensures.upper_bound c.if-f-ge-FIRST_VARIABLE.false c.reached-t.ensures.upper_bound c.if-g-ge-FIRST_VARIABLE.true c.from-then-g-ge-FIRST_VARIABLE.result c.from-then-g-ge-FIRST_VARIABLE.ensures (sym c.if-occurs_at-2.false ∙ c.occurs_at-then-g-ge-FIRST_VARIABLE.ensures)
