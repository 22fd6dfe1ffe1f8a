-- `same_terms` meets its contract.
use mathlib.Core.Path.{sym, ◌∙◌}
use native.Mathlib.Omega.{arith}
use Rattle.terms.specs.Theory.Stored.{ground_size}
use Rattle.step_match.proofs.Ground.{standing, same_told, other_sizes}
use Rattle.step_match.proofs.same.same_terms.Goals as goal

pub bounds-sizes-a : goal.bounds-sizes-a
bounds-sizes-a c = (standing c.requires.0).in_lengths

pub bounds-sizes-b : goal.bounds-sizes-b
bounds-sizes-b c = (standing c.requires.1).in_lengths

pub returns-then-n-from : goal.returns-then-n-from
returns-then-n-from c = λ arities s t g h. other_sizes g h (λ e. c.if-n-from.true (c.from-n.ensures ∙ (e ∙ sym c.from.ensures)))

pub slice_bounds-eq-end : goal.slice_bounds-eq-end
slice_bounds-eq-end c = omega (arith, (standing c.requires.0).in_nodes)

pub slice_bounds-eq-end-2 : goal.slice_bounds-eq-end-2
slice_bounds-eq-end-2 c = omega (arith, (standing c.requires.1).in_nodes)

pub returns : goal.returns
returns c = λ arities s t g h. same_told g h (c.from-n.ensures ∙ ground_size g) (c.if-n-from.false ∙ (c.from.ensures ∙ ground_size h)) c.eq.ensures
