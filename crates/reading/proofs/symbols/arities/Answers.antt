-- Goals of `arities`.
use mathlib.Core.Path.{refl}
use native.Mathlib.Omega.{arith}
use Rattle.reading.proofs.Arities.{filled_start, filled_next, too_high, with_constant, without_constant, some_zero}
use Rattle.reading.proofs.symbols.arities.Goals as goal

pub loop-i-init : goal.loop-i-init
loop-i-init c =
    filled_start _ _ _ _ refl c.nothing-known.ensures.1 c.nothing-known.ensures.2 (record { arities_room = c.nothing-known.ensures.3.arities_room; widths_room = c.nothing-known.ensures.3.widths_room })

pub returns-then-from-a : goal.returns-then-from-a
returns-then-from-a c = (too_high _ _ _ c.requires _ _ c.loop-i-test.true c.byte_at-a.ensures (omega arith), refl)

pub loop-i-preserved : goal.loop-i-preserved
loop-i-preserved c = filled_next _ _ _ c.requires _ _ _ c.loop-i.invariant c.loop-i-test.true c.byte_at-a.ensures (omega arith)

pub returns-then-contains : goal.returns-then-contains
returns-then-contains c = with_constant _ _ _ c.requires _ _ c.loop-i.invariant c.loop-i-test.false (some_zero c.loop-i.known c.symbol_arities.ensures c.contains.ensures.value c.if-contains.true)

pub returns-else-contains : goal.returns-else-contains
returns-else-contains c = (without_constant _ _ _ c.requires _ _ c.loop-i.invariant c.loop-i-test.false (some_zero c.loop-i.known c.symbol_arities.ensures c.contains.ensures.value c.if-contains.false), refl)
