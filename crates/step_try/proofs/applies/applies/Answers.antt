-- `applies` matches the rule's source, and tests the rule's lines at the match.
use mathlib.Core.Path.{refl}
use Rattle.terms.specs.Equation.{source}
use Rattle.terms.specs.Filling.{filling}
use Rattle.reducing.specs.Match.{no_match, match}
use Rattle.reducing.specs.ForContracts.Part.{part_at}
use Rattle.step_try.proofs.MatchLaws.{matched_none, matched_some}
use Rattle.step_try.proofs.TryLaws.{applies_told, applies_not}
use Rattle.step_try.specs.Theory.Parts.{side_part}
use Rattle.step_try.proofs.applies.applies.Goals as goal

pub match_side-requires : goal.match_side-requires
match_side-requires c =
    let has = c.requires.has_try in
    let side = (c.sides_of-sides.ensures _ _ _ _ _ has.is.rule_is).0 in
    (record { arities = has.arities; pattern = source has.equation has.direction; part = _; is = side_part side has.is.subject_is has.is.inside has.is.there }, refl)

pub returns-else-match_side-clause-by_index : goal.returns-else-match_side-clause-by_index
returns-else-match_side-clause-by_index c =
    λ arities i e d subject p is.
    let side = (c.sides_of-sides.ensures _ _ _ _ _ is.rule_is).0 in
    let answer = c.match_side.ensures _ _ _ (side_part side is.subject_is is.inside is.there) in
    rw c.if-match_side.false (applies_not (filling arities) subject p i e d (matched_none c.args.nodes.now c.args.sizes.now arities c.match_side.new.values (match (source e d) (part_at subject p) no_match) c.match_side.result answer c.if-match_side.false))

pub match_holds-requires-clause-has_matched_try : goal.match_holds-requires-clause-has_matched_try
match_holds-requires-clause-has_matched_try c =
    let has = c.requires.has_try in
    let is = has.is in
    let side = (c.sides_of-sides.ensures _ _ _ _ _ is.rule_is).0 in
    let answer = c.match_side.ensures _ _ _ (side_part side is.subject_is is.inside is.there) in
    let (m, x, met) = matched_some c.args.nodes.now c.args.sizes.now has.arities c.match_side.new.values (match (source has.equation has.direction) (part_at has.subject has.position) no_match) c.match_side.result answer c.if-match_side.true in record {
      arities = has.arities;
      number = has.number;
      equation = has.equation;
      direction = has.direction;
      subject = has.subject;
      found = m;
      is = record { rule_is = is.rule_is; kept = is.kept; kept_are = is.kept_are; kept_there = is.kept_there; subject_is = is.subject_is; part = _; matches = x; met = met };
    }

pub returns-then-match_side-clause-by_index : goal.returns-then-match_side-clause-by_index
returns-then-match_side-clause-by_index c =
    λ arities i e d subject p is.
    let side = (c.sides_of-sides.ensures _ _ _ _ _ is.rule_is).0 in
    let answer = c.match_side.ensures _ _ _ (side_part side is.subject_is is.inside is.there) in
    let (m, x, met) = matched_some c.args.nodes.now c.args.sizes.now arities c.match_side.new.values (match (source e d) (part_at subject p) no_match) c.match_side.result answer c.if-match_side.true in
    applies_told (filling arities) subject p i e d x (c.match_holds.ensures.by_index arities i e d subject m (record {
      rule_is = is.rule_is;
      kept = is.kept;
      kept_are = is.kept_are;
      kept_there = is.kept_there;
      subject_is = is.subject_is;
      part = _;
      matches = x;
      met = met;
    }))
