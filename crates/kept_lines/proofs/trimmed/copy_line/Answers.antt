-- Goals of `copy_line`.
use native.Mathlib.Omega.{arith}
use Rattle.line_bytes.specs.Theory.Placed.{storing_start, storing_next, storing_done, storing_length}
use Rattle.kept_lines.proofs.Parts.{get_or_slice, length_part}
use Rattle.kept_lines.proofs.trimmed.copy_line.Goals as goal

pub bounds-table-to : goal.bounds-table-to
bounds-table-to c = omega (arith, storing_length c.loop-i.invariant, c.loop-i.invariant.room)

pub loop-i-preserved : goal.loop-i-preserved
loop-i-preserved c =
    let h = c.loop-i-test.true in
    rw (← get_or_slice c.args.from c.args.n c.loop-i.i c.args.records.now h) (storing_next c.loop-i.invariant h)

pub returns : goal.returns
returns c = storing_done c.loop-i.invariant c.loop-i-test.false
