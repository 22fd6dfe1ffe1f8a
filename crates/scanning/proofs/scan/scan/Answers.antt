-- Goals of `scan`.
use Rattle.std.proofs.Common.{arith}
use Rattle.scanning.proofs.Scanning.{stop_done, stop_early, stop_full, stop_other, next_small, scanning_variable, scanning_declared}
use Rattle.scanning.proofs.scan.scan.Goals as goal

pub returns-then-at-span : goal.returns-then-at-span
returns-then-at-span c = stop_early _ _ _ _ c.loop-need.at c.loop-need.need c.loop-need.room c.loop-need.width c.loop-need.invariant c.if-at-span.true c.loop-need-test.true

pub returns-then-room-eq0 : goal.returns-then-room-eq0
returns-then-room-eq0 c = stop_full _ _ _ _ c.loop-need.at c.loop-need.need c.loop-need.room c.loop-need.width c.loop-need.invariant c.if-at-span.false c.loop-need-test.true c.if-room-eq0.true

pub loop-need-preserved-then-b-symbols : goal.loop-need-preserved-then-b-symbols
loop-need-preserved-then-b-symbols c =
    scanning_declared _ _ _ _ _ c.loop-need.at c.loop-need.need c.loop-need.room c.loop-need.width c.loop-need.invariant c.if-at-span.false c.loop-need-test.true c.if-room-eq0.false
    c.requires.few_symbols c.byte_at-b.ensures c.if-b-symbols.true c.from-need.ensures (omega arith)

pub overflow_cast-b : goal.overflow_cast-b
overflow_cast-b c = omega (arith, c.byte_at-b.ensures, next_small _ _ _ _ c.loop-need.at c.loop-need.need c.loop-need.room c.loop-need.width c.loop-need.invariant c.if-at-span.false)

pub returns-in-Err : goal.returns-in-Err
returns-in-Err c =
    stop_other _ _ _ _ _ c.loop-need.at c.loop-need.need c.loop-need.room c.loop-need.width c.loop-need.invariant c.if-at-span.false c.loop-need-test.true c.if-room-eq0.false
    c.byte_at-b.ensures c.if-b-symbols.false c.in-Err.ensures

pub loop-need-preserved : goal.loop-need-preserved
loop-need-preserved c =
    scanning_variable _ _ _ _ _ c.loop-need.at c.loop-need.need c.loop-need.room c.loop-need.width c.loop-need.invariant c.if-at-span.false c.loop-need-test.true c.if-room-eq0.false
    c.byte_at-b.ensures c.if-b-symbols.false c.in-Ok.ensures c.max-width.ensures

pub returns : goal.returns
returns c = stop_done _ _ _ _ c.loop-need.at c.loop-need.need c.loop-need.room c.loop-need.width c.loop-need.invariant c.loop-need-test.false
