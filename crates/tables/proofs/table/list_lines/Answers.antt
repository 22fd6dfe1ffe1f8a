-- Goals of `list_lines`.
use native.Mathlib.Omega.{arith}
use Rattle.tables.proofs.TableLaws.{no_line_passed, line_passed, lines_given, all_given, begun}
use Rattle.tables.proofs.table.list_lines.Goals as goal

pub loop-line-init : goal.loop-line-init
loop-line-init c = no_line_passed _ _ _ _ _ _ _ c.requires.1

pub loop-line-preserved : goal.loop-line-preserved
loop-line-preserved c = line_passed c.loop-line.invariant c.loop-line-test.true c.if-out-at.false c.list_line-at.ensures.upper_bound c.list_line-at.auto.out c.list_line-at.ensures.by_index

pub returns-then-out-at : goal.returns-then-out-at
returns-then-out-at c = lines_given c.loop-line.invariant (begun c.loop-line.invariant c.requires.2 c.if-out-at.true)

pub returns : goal.returns
returns c = all_given c.loop-line.invariant (omega (arith, c.loop-line-test.false)) c.requires.1
