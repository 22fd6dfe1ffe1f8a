-- `empty_at` looks at the count of elements, then at the bindings.
use Rattle.std.proofs.Common.{subst, sym, arith}
use Rattle.std.proofs.lemmas.Bool.{eqb-true, false_from_ne_true}
use Rattle.stopping.specs.ForContracts.Empty.{EmptyAt}
use Rattle.stopping.proofs.Looking.{has_elements, has_nothing}
use Rattle.stopping.proofs.empty.empty_at.Goals as goal

pub returns-then-memory-place-eq0 : goal.returns-then-memory-place-eq0
returns-then-memory-place-eq0 c = has_nothing _ _ c.requires c.if-memory-place-eq0.true (λ i. omega (arith, c.type_inv.memory i)) c.all_unbound.ensures

pub returns-else-memory-place-eq0 : goal.returns-else-memory-place-eq0
returns-else-memory-place-eq0 c =
    subst (EmptyAt c.args.memory.now c.args.place) (sym (false_from_ne_true _ (λ e. c.if-memory-place-eq0.false (eqb-true _ _ e)))) (has_elements _ _ c.requires (omega (arith, c.if-memory-place-eq0.false)))
