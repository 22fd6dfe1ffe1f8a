-- Goals of `first_match`.
use mathlib.Core.Path.{refl, sym, ◌∙◌}
use native.Mathlib.Omega.{arith}
use Rattle.step_by_rule.proofs.RulewiseLaws.{side_part, seeking_start, seeking_next, seeking_found, seeking_done}
use Rattle.step_by_rule.proofs.search.first_match.Goals as goal

pub loop-node-init : goal.loop-node-init
loop-node-init c = (seeking_start c.requires.is.low, refl)

pub slice_bounds-match_side-end : goal.slice_bounds-match_side-end
slice_bounds-match_side-end c = sym c.loop-node.invariant.1

pub match_side-requires : goal.match_side-requires
match_side-requires c =
    let k = c.loop-node.invariant in
    (record { arities = c.requires.arities; pattern = c.requires.pattern; part = _; is = side_part c.requires.is _ k.0.low c.loop-node-test.true }, k.1)

pub returns-then-match_side : goal.returns-then-match_side
returns-then-match_side c = seeking_found c.loop-node.invariant.0 c.loop-node-test.true

pub loop-node-preserved : goal.loop-node-preserved
loop-node-preserved c =
    let k = c.loop-node.invariant in
    (seeking_next k.0 c.match_side.new.values c.match_side.result c.loop-node-test.true c.match_side.ensures c.if-match_side.false, c.match_side.auto.values ∙ k.1)

pub returns : goal.returns
returns c = seeking_done c.loop-node.invariant.0 c.loop-node-test.false
