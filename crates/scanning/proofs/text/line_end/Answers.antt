-- Goals of `line_end`.
use Rattle.std.proofs.Common.{arith}
use Rattle.scanning.proofs.Digits.{digits_to_next, digits_to_ended, digits_to_other, digits_to_long, digits_to_unended, digit_no_end}
use Rattle.scanning.proofs.text.line_end.Goals as goal

pub returns-then-c-eq-LF : goal.returns-then-c-eq-LF
returns-then-c-eq-LF c =
    digits_to_ended _ _ _ c.loop-i.invariant c.loop-i-test.true c.if-c-eq-LF.true c.ended_at.result c.ended_at.ensures

pub returns-else-c-eq-LF : goal.returns-else-c-eq-LF
returns-else-c-eq-LF c =
    digits_to_other _ _ _ c.loop-i.invariant c.loop-i-test.true c.if-c-eq-LF.false
    (omega (arith, c.digit_value.ensures, c.if-digit_value-ge-BASE.true))

pub returns-then-i-at-eq-LINE_DIGITS : goal.returns-then-i-at-eq-LINE_DIGITS
returns-then-i-at-eq-LINE_DIGITS c =
    digits_to_long _ _ _ c.loop-i.invariant c.loop-i-test.true
    (digit_no_end _ (omega (arith, c.digit_value.ensures, c.if-digit_value-ge-BASE.false))) c.if-i-at-eq-LINE_DIGITS.true

pub loop-i-preserved : goal.loop-i-preserved
loop-i-preserved c =
    digits_to_next _ _ _ c.loop-i.invariant c.loop-i-test.true (omega (arith, c.digit_value.ensures, c.if-digit_value-ge-BASE.false))
    c.if-i-at-eq-LINE_DIGITS.false

pub returns : goal.returns
returns c = digits_to_unended _ _ _ c.loop-i.invariant c.loop-i-test.false c.requires
