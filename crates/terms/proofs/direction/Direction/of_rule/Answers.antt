-- `of_rule` gives the direction of the definitions.
use Prim.Native.Nat.{◌%◌}
use mathlib.Core.Path.{◌≡◌, ap}
use native.Mathlib.Omega.{arith}
use Rattle.terms.specs.Equation.{direction_of}
use Rattle.terms.proofs.direction.Direction.of_rule.Goals as goal

pub returns-then-rule-eq0 : goal.returns-then-rule-eq0
unfolding direction_of
returns-then-rule-eq0 c = ap direction_of c.if-rule-eq0.true

pub returns-else-rule-eq0 : goal.returns-else-rule-eq0
unfolding direction_of
returns-else-rule-eq0 c = let odd : c.args.rule % 2 ≡ 1 = omega (arith, c.if-rule-eq0.false) in ap direction_of odd
