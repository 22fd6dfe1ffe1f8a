-- `treatment_of` meets its contract, by the element's relation.
use Rattle.treating.proofs.Treatment.{asks_unify, asks_as_greater, greater_within}
use Rattle.treating.proofs.treat.treatment_of.Goals as goal

pub inequality_treatment-requires : goal.inequality_treatment-requires
inequality_treatment-requires c =
    record { readable = c.requires.readable; left_in_bounds = greater_within c.args.element c.in-Greater.p c.in-Greater.q c.element_sides.result c.element_sides.ensures _ c.in-Greater.is c.requires.within }

pub returns-in-Greater : goal.returns-in-Greater
returns-in-Greater c =
    asks_as_greater c.args.element c.in-Greater.p c.in-Greater.q c.element_sides.result c.element_sides.ensures _ _ _ _ c.in-Greater.is c.inequality_treatment.ensures

pub returns-in-Equal : goal.returns-in-Equal
returns-in-Equal c =
    asks_unify c.args.element c.in-Equal.p c.in-Equal.q c.element_sides-in-Equal.result c.element_sides-in-Equal.ensures _ _ _ c.in-Equal.is
