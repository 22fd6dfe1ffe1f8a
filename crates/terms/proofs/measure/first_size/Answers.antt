-- Goals of `first_size`.
use mathlib.Core.Path.{◌∙◌}
use native.Mathlib.Omega.{arith}
use Rattle.terms.specs.Theory.Sizes.{variable_sizes, symbol_sizes}
use Rattle.terms.proofs.Added.{added_none, added_zero, added_first, added_few, added_below, added_more}
use Rattle.terms.proofs.measure.first_size.Goals as goal

pub returns-then-byte-ge-FIRST_VARIABLE : goal.returns-then-byte-ge-FIRST_VARIABLE
returns-then-byte-ge-FIRST_VARIABLE c =
    rw c.requires.sizes_value.0 (variable_sizes c.args.arities.now c.args.nodes.now c.requires.whole c.requires.nodes_nonzero.0 c.if-byte-ge-FIRST_VARIABLE.true)

pub bounds-arities-from : goal.bounds-arities-from
bounds-arities-from c =
    let x = symbol_sizes c.args.arities.now c.args.nodes.now c.requires.whole c.requires.nodes_nonzero.0 c.if-byte-ge-FIRST_VARIABLE.false in
    omega (arith, x.known, c.from.ensures)

pub returns-then-count-eq0 : goal.returns-then-count-eq0
returns-then-count-eq0 c =
    added_zero (added_none c.requires.whole c.requires.nodes_nonzero.0 c.requires.nodes_nonzero.1 c.requires.sizes_value.0 c.if-byte-ge-FIRST_VARIABLE.false) (rw c.from.ensures at c.if-count-eq0.true)

pub loop-k-init : goal.loop-k-init
loop-k-init c =
    let none = added_none c.requires.whole c.requires.nodes_nonzero.0 c.requires.nodes_nonzero.1 c.requires.sizes_value.0 c.if-byte-ge-FIRST_VARIABLE.false in
    let some = rw c.from.ensures at c.if-count-eq0.false in
    rw c.from.ensures (added_first none (omega (arith, some)) (c.from-next.ensures ∙ c.requires.sizes_value.1))

pub bounds-sizes-next : goal.bounds-sizes-next
bounds-sizes-next c = added_below c.loop-k.invariant c.loop-k-test.true

pub loop-k-preserved : goal.loop-k-preserved
loop-k-preserved c = rw c.from-next-in-loop-k.ensures (added_more c.loop-k.invariant c.loop-k-test.true)

pub overflow_add-result : goal.overflow_add-result
overflow_add-result c = omega (arith, added_few c.loop-k.invariant)

pub overflow_cast-result : goal.overflow_cast-result
overflow_cast-result c = omega (arith, added_few c.loop-k.invariant)
