-- The symbols before the first constant are no constants.
use Rattle.std.proofs.Common.{◌≡◌, sym, ◌∙◌, rules, tests}
use Rattle.std.proofs.lemmas.Iterator.{IsFirst-from_position, YieldsList-from_slice, index_from_first}
use Rattle.terms.specs.Filling.{lowest_constant}
use Rattle.run_term.proofs.FillingLaws.{none_lowest, lowest_here, lowest_further}
use Rattle.run_term.proofs.filling.lowest_constant.Goals as goal

pub returns : goal.returns
returns c =
    let first = IsFirst-from_position _ _ _ (λ a. a ≡ 0) (λ a. a ≡ 0 → ⊥) c.position.ensures.ran (YieldsList-from_slice c.args.arities.now cc) (λ x q k. search (rules, tests)) (λ x q k. search (rules, tests)) in
    c.unwrap_or.ensures ∙ sym (index_from_first lowest_constant (λ a. a ≡ 0) (λ a. a ≡ 0 → ⊥) none_lowest lowest_here lowest_further c.args.arities.now c.position.result first)
