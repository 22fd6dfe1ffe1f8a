-- `scanning::task::judgement_task` is the definition's `judgement_body`.
use Rattle.std.proofs.Common.{arith}
use Rattle.scanning.proofs.Tasks.{behind_two, judgement_short, equation_absent, direction_absent, width_few, judgement_read}
use Rattle.scanning.proofs.task.judgement_task.Goals as goal
use Rattle.scanning.proofs.task.judgement_task.Goals.{then-known-e-via-then-known-e, then-known-e-via-else-known-e+then-byte_at-gt1}

pub returns-then-part-from-lt4 : goal.returns-then-part-from-lt4
returns-then-part-from-lt4 c = λ sheet knows. judgement_short _ sheet knows _ _ _ c.requires.0.body c.if-part-from-lt4.true

pub returns-then-known-e : goal.returns-then-known-e
returns-then-known-e c = λ sheet knows. elim c.then-known-e.branch [
  | then-known-e-via-then-known-e w ↦ equation_absent _ sheet knows _ _ _ c.requires.0.body c.if-part-from-lt4.false c.byte_at-e.ensures w.if-known-e.true
  | then-known-e-via-else-known-e+then-byte_at-gt1 w ↦
      direction_absent _ sheet knows _ _ _ c.requires.0.body c.if-part-from-lt4.false _ c.byte_at-e.ensures w.if-known-e.false
      w.byte_at.ensures w.if-byte_at-gt1.true
]

pub ground_terms-requires : goal.ground_terms-requires
ground_terms-requires c =
    let (sheet, knows) = c.requires.1 in rw c.tail.ensures (
      record { body = behind_two _ sheet knows _ _ _ c.requires.0.body c.if-part-from-lt4.false; few_symbols = c.requires.0.few_symbols },
      omega (arith, c.from.ensures, width_few _ sheet knows _ _ _ c.requires.0.body c.if-part-from-lt4.false _ c.byte_at-e.ensures c.if-known-e.false),
    )

pub returns : goal.returns
returns c = λ sheet knows.
    judgement_read _ sheet knows _ _ _ c.requires.0.body c.if-part-from-lt4.false _ c.byte_at-e.ensures c.if-known-e.false
    c.byte_at.ensures c.if-byte_at-gt1.false
    c.from.ensures c.ground_terms.result (rw c.tail.ensures at c.ground_terms.ensures)
