-- Goals of `reached`.
use native.Mathlib.Omega.{arith}
use Rattle.bindings.specs.Theory.Bindings.{not_unbound}
use Rattle.bindings.proofs.Follow.{following_start, slot_there, reached_symbol, reached_free, following_on, reached_end}
use Rattle.bindings.proofs.equation.EquationTerms.reached.Goals as goal

pub loop-hop-init : goal.loop-hop-init
loop-hop-init c = following_start c.requires.1

pub returns-then-byte-lt-FIRST_VARIABLE : goal.returns-then-byte-lt-FIRST_VARIABLE
returns-then-byte-lt-FIRST_VARIABLE c = let f = c.loop-hop.invariant in record { value = reached_symbol f c.if-byte-lt-FIRST_VARIABLE.true; upper_bound = f.within }

pub bounds-bindings-from : goal.bounds-bindings-from
bounds-bindings-from c =
    let f = c.loop-hop.invariant in omega (arith, slot_there c.requires.0 f.within c.if-byte-lt-FIRST_VARIABLE.false, c.from.ensures)

pub returns-then-next : goal.returns-then-next
returns-then-next c =
    let f = c.loop-hop.invariant in
    let s = slot_there c.requires.0 f.within c.if-byte-lt-FIRST_VARIABLE.false in
    record { value = reached_free c.from.result f c.if-byte-lt-FIRST_VARIABLE.false c.from.ensures (omega (arith, s, c.from.ensures)) c.if-next.true; upper_bound = f.within }

pub loop-hop-preserved : goal.loop-hop-preserved
loop-hop-preserved c =
    let f = c.loop-hop.invariant in
    let s = slot_there c.requires.0 f.within c.if-byte-lt-FIRST_VARIABLE.false in
    let q = c.from-at.result in
    following_on c.from.result q _ c.requires.0 f (omega (arith, c.loop-hop-test.true)) c.if-byte-lt-FIRST_VARIABLE.false c.from.ensures
    (omega (arith, s, c.from.ensures)) c.from-at.ensures (not_unbound c.from-at.ensures (omega (arith, c.type_inv.bindings c.from.result)) c.if-next.false)

pub returns : goal.returns
returns c = let f = c.loop-hop.invariant in record { value = reached_end f (omega (arith, c.loop-hop-test.false)); upper_bound = f.within }
