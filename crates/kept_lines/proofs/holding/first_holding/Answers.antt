-- Goals of `first_holding`.
use mathlib.Core.Path.{refl}
use native.Mathlib.Omega.{arith}
use Rattle.kept_lines.proofs.Lines.{line_ends, line_there, first_found, lines_again, lines_done}
use Rattle.kept_lines.proofs.holding.first_holding.Goals as goal

pub trimmed_length-requires : goal.trimmed_length-requires
trimmed_length-requires c = omega (arith, line_ends c.loop-at.invariant c.loop-at-test.true refl c.requires.has_lines)

pub line_holds-requires-clause-has_line : goal.line_holds-requires-clause-has_line
line_holds-requires-clause-has_line c =
    let inv = c.loop-at.invariant in
    line_there inv c.loop-at-test.true c.trimmed_length.ensures c.requires.has_lines

pub returns-then-line_holds-clause-value : goal.returns-then-line_holds-clause-value
returns-then-line_holds-clause-value c =
    first_found c.loop-at.invariant c.loop-at-test.true c.trimmed_length.ensures c.line_holds.ensures.variant c.if-line_holds.true

pub loop-at-preserved : goal.loop-at-preserved
loop-at-preserved c =
    lines_again c.loop-at.invariant c.loop-at-test.true c.trimmed_length.ensures c.line_holds.ensures.variant c.if-line_holds.false c.line_holds.ensures.settled_cells_2

pub returns-clause-value : goal.returns-clause-value
returns-clause-value c = lines_done c.loop-at.invariant c.loop-at-test.false
