-- `bind_reached` meets its contract, by which of the two is a variable.
use mathlib.Core.Path.{◌∙◌}
use native.Mathlib.Omega.{arith}
use Rattle.unifying.specs.ForContracts.Unify.{answered}
use Rattle.unifying.specs.Theory.Unify.{free_variable, variable_slot, nodes_right, nodes_left, nodes_both}
use Rattle.unifying.proofs.unify.bind_reached.Goals as goal

pub bind_term-requires : goal.bind_term-requires
bind_term-requires c =
    record { readable = (c.requires.readable.0, c.requires.readable.1, c.requires.free_at.0.within); v_lt_variable_count = free_variable c.requires.readable.0 c.args.t c.from.result c.requires.free_at.1 (c.requires.first_variable_bound c.if-f-lt-FIRST_VARIABLE.true) c.from.ensures }

pub returns-then-f-lt-FIRST_VARIABLE : goal.returns-then-f-lt-FIRST_VARIABLE
returns-then-f-lt-FIRST_VARIABLE c =
    record { tells = λ each. nodes_right _ _ _ c.args.s c.args.t c.requires.free_at.0.within c.requires.free_at.1.within each c.if-f-lt-FIRST_VARIABLE.true (c.requires.first_variable_bound c.if-f-lt-FIRST_VARIABLE.true) c.from.result c.from.ensures ∙ c.bind_term.ensures }

pub bind_term-requires-then-g-lt-FIRST_VARIABLE : goal.bind_term-requires-then-g-lt-FIRST_VARIABLE
bind_term-requires-then-g-lt-FIRST_VARIABLE c =
    record { readable = (c.requires.readable.0, c.requires.readable.1, c.requires.free_at.1.within); v_lt_variable_count = free_variable c.requires.readable.0 c.args.s c.from-then-g-lt-FIRST_VARIABLE.result c.requires.free_at.0 c.if-f-lt-FIRST_VARIABLE.false c.from-then-g-lt-FIRST_VARIABLE.ensures }

pub returns-then-g-lt-FIRST_VARIABLE : goal.returns-then-g-lt-FIRST_VARIABLE
returns-then-g-lt-FIRST_VARIABLE c =
    record { tells = λ each. nodes_left _ _ _ c.args.s c.args.t c.requires.free_at.0.within c.requires.free_at.1.within each c.if-f-lt-FIRST_VARIABLE.false c.if-g-lt-FIRST_VARIABLE.true c.from-then-g-lt-FIRST_VARIABLE.result c.from-then-g-lt-FIRST_VARIABLE.ensures ∙ c.bind_term-then-g-lt-FIRST_VARIABLE.ensures }

pub bind_variables-requires : goal.bind_variables-requires
bind_variables-requires c =
    let few = c.requires.readable.0.laid.few in
    (variable_slot c.requires.readable.0 c.args.s c.from-2.result c.requires.free_at.0.within c.if-f-lt-FIRST_VARIABLE.false c.from-2.ensures, variable_slot c.requires.readable.0 c.args.t c.from-3.result c.requires.free_at.1.within c.if-g-lt-FIRST_VARIABLE.false c.from-3.ensures, omega (arith, c.requires.free_at.0.within, few), omega (arith, c.requires.free_at.1.within, few))

pub returns : goal.returns
unfolding answered
returns c =
    record { tells = λ each. nodes_both _ _ _ c.args.s c.args.t c.requires.free_at.0.within c.requires.free_at.1.within each c.if-f-lt-FIRST_VARIABLE.false c.if-g-lt-FIRST_VARIABLE.false c.from-2.result c.from-3.result c.from-2.ensures c.from-3.ensures ∙ c.bind_variables.ensures }
