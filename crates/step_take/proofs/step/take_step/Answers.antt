-- `take_step` matches the rule's source again and replaces the part by the target's instance.
use mathlib.Core.Path.{refl}
use Rattle.terms.specs.Equation.{source, target}
use Rattle.reducing.specs.ForContracts.Part.{part_at}
use Rattle.step_take.proofs.StepLaws.{source_part, matches_again, replacement, step_replaced}
use Rattle.step_take.proofs.step.take_step.Goals as goal

pub match_side-requires : goal.match_side-requires
match_side-requires c =
    let (x, y) = c.sides_of-sides.ensures c.args.rows.now.equations.now c.args.arities.now c.requires.number c.requires.equation c.requires.direction c.requires.is.rule_is in
    (record { arities = _; pattern = _; part = _; is = source_part c.requires.is x }, refl)

pub returns-then-not-match_side : goal.returns-then-not-match_side
returns-then-not-match_side c i e d subject p s is =
    let (x, y) = c.sides_of-sides.ensures c.args.rows.now.equations.now c.args.arities.now i e d is.rule_is in
    absurd (matches_again is x c.match_side.new.values c.match_side.result (c.match_side.ensures c.args.arities.now (source e d) (part_at subject p)) c.if-not-match_side.true-raw)

pub replace_part-requires : goal.replace_part-requires
replace_part-requires c =
    let (x, y) = c.sides_of-sides.ensures c.args.rows.now.equations.now c.args.arities.now c.requires.number c.requires.equation c.requires.direction c.requires.is.rule_is in
    let tried = c.match_side.ensures c.args.arities.now (source c.requires.equation c.requires.direction) (part_at c.requires.subject c.requires.position) in
    record { subject = c.requires.subject; term = _; assigned = _; position = c.requires.position; is = replacement c.requires.is x c.match_side.new.values c.match_side.result tried y }

pub returns : goal.returns
returns c i e d subject p s is =
    let values = c.match_side.new.values in
    let (x, y) = c.sides_of-sides.ensures c.args.rows.now.equations.now c.args.arities.now i e d is.rule_is in
    let tried = c.match_side.ensures c.args.arities.now (source e d) (part_at subject p) in
    step_replaced is x values c.match_side.result tried c.replace_part.new.nodes c.replace_part.new.sizes c.replace_part.result
    (c.replace_part.ensures subject (target e d) _ p (replacement is x values c.match_side.result tried y))
