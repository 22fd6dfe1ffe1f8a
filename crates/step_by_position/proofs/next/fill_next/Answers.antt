-- Goals of `fill_next`.
use mathlib.Core.Path.{refl}
use native.Mathlib.Omega.{arith}
use Rattle.step_by_position.proofs.NextLaws.{ended_next, few_rules, filling_start, rule_there, top_there, filling_next, filling_done}
use Rattle.step_by_position.proofs.next.fill_next.Goals as goal

pub loop-f-preserved : goal.loop-f-preserved
loop-f-preserved c = ended_next (omega (arith, few_rules c.requires.0)) c.loop-f-test.true c.loop-f.invariant

pub loop-rule-init : goal.loop-rule-init
loop-rule-init c = filling_start c.loop-f-test.false c.loop-f.invariant

pub sides_of-sides-requires : goal.sides_of-sides-requires
sides_of-sides-requires c = rule_there c.loop-rule.invariant c.loop-rule-test.true c.requires.0

pub bounds-rows-from : goal.bounds-rows-from
bounds-rows-from c = top_there c.loop-rule.invariant c.loop-rule-test.true (λ equations arities i e d r. (c.sides_of-sides.ensures equations arities i e d r).0) c.requires.0

pub loop-rule-preserved : goal.loop-rule-preserved
loop-rule-preserved c =
    filling_next c.loop-rule.invariant c.loop-rule-test.true (λ equations arities i e d r. (c.sides_of-sides.ensures equations arities i e d r).0) refl refl c.put_entries.ensures

pub returns : goal.returns
returns c = filling_done c.loop-rule-test.false c.loop-rule.invariant
