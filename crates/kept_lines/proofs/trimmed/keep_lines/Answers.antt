-- Goals of `keep_lines`.
use native.Mathlib.Omega.{arith}
use Rattle.kept_lines.proofs.Keeping.{keeping_start, record_there, keeping_again, keeping_full, keeping_done}
use Rattle.kept_lines.proofs.trimmed.keep_lines.Goals as goal

pub loop-i-init : goal.loop-i-init
loop-i-init c = keeping_start (omega (arith, c.requires)) c.requires.1

pub overflow_mul-at : goal.overflow_mul-at
overflow_mul-at c =
    omega (arith, record_there (omega (arith, c.requires)) c.loop-i.invariant c.requires.0 (omega arith))

pub trimmed_length-n-requires : goal.trimmed_length-n-requires
trimmed_length-n-requires c =
    omega (arith, record_there (omega (arith, c.requires)) c.loop-i.invariant c.requires.0 (omega arith))

pub returns-then-to-n-gt-TABLE : goal.returns-then-to-n-gt-TABLE
returns-then-to-n-gt-TABLE c =
    keeping_full (omega (arith, c.requires)) c.loop-i.invariant (omega arith) c.trimmed_length-n.ensures c.if-to-n-gt-TABLE.true

pub copy_line-requires : goal.copy_line-requires
copy_line-requires c =
    let there = record_there (omega (arith, c.requires)) c.loop-i.invariant c.requires.0 (omega arith) in
    (omega (arith, there, c.trimmed_length-n.ensures), omega (arith, c.if-to-n-gt-TABLE.false, c.loop-i.invariant.same_length, c.requires))

pub loop-i-preserved : goal.loop-i-preserved
loop-i-preserved c =
    keeping_again (omega (arith, c.requires)) c.loop-i.invariant c.requires.2 c.requires.0 (omega arith) c.trimmed_length-n.ensures c.if-to-n-gt-TABLE.false c.copy_line.ensures

pub returns : goal.returns
returns c = keeping_done (omega (arith, c.requires)) c.loop-i.invariant (omega arith)
