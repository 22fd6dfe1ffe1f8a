-- `bind_term` meets its contract, by whether the variable occurs in the term.
use mathlib.Core.Path.{sym, ◌∙◌}
use native.Mathlib.Omega.{arith}
use Rattle.bindings.specs.Theory.Bindings.{length_bindings}
use Rattle.unifying.specs.Theory.Unify.{term_fails, term_binds}
use Rattle.unifying.proofs.unify.bind_term.Goals as goal

pub returns-then-occurs_at : goal.returns-then-occurs_at
returns-then-occurs_at c = term_fails c.args.bindings.now c.args.v c.args.p _ _ (sym c.if-occurs_at.true ∙ c.occurs_at.ensures)

pub bounds-bindings-v : goal.bounds-bindings-v
bounds-bindings-v c = omega (arith, c.requires.v_lt_variable_count.0, c.requires.readable.0.proper.slots, length_bindings c.args.bindings.now)

pub returns : goal.returns
returns c = term_binds c.args.bindings.now c.args.v c.args.p _ (sym c.if-occurs_at.false ∙ c.occurs_at.ensures) (omega (arith, c.requires.readable.2, c.requires.readable.0.laid.few))
