-- Goals of `put_entries`.
use mathlib.Core.Path.{sym, ◌∙◌}
use mathlib.Core.Logic.{inl, inr}
use native.Mathlib.Omega.{arith}
use Rattle.step_by_position.proofs.NextLaws.{put_start, entry_itself, entry_passed, put_next, put_done}
use Rattle.step_by_position.proofs.next.put_entries.Goals as goal
use Rattle.step_by_position.proofs.next.put_entries.Goals.{then-live+then-top-ge-FIRST_VARIABLE, then-live+else-top-ge-FIRST_VARIABLE+then-from-f, then-live+else-top-ge-FIRST_VARIABLE+else-from-f, else-live}

pub loop-f-init : goal.loop-f-init
loop-f-init c = (omega arith, put_start _ _ _ _)

pub loop-f-preserved : goal.loop-f-preserved
loop-f-preserved c =
    let inv = c.loop-f.invariant in
    let h = c.loop-f-test.true in (
      omega arith,
      put_next c.requires.0 c.requires.1 h inv.1
          (elim c.if-live.branch [
            | then-live+then-top-ge-FIRST_VARIABLE w ↦ entry_itself (w.if-live.true, inl w.if-top-ge-FIRST_VARIABLE.true) w.entry-is
            | then-live+else-top-ge-FIRST_VARIABLE+then-from-f w ↦ entry_itself (w.if-live.true, inr (sym w.from.ensures ∙ w.if-from-f.true)) w.entry-is
            | then-live+else-top-ge-FIRST_VARIABLE+else-from-f w ↦ entry_passed (inr (omega (arith, w.if-top-ge-FIRST_VARIABLE.false), λ e. w.if-from-f.false (w.from.ensures ∙ e))) w.entry-is
            | else-live w ↦ entry_passed (inl w.if-live.false) w.entry-is
          ]),
    )

pub shape_of-next : goal.shape_of-next
shape_of-next c = c.loop-f.invariant.1.same_length

pub returns : goal.returns
returns c = put_done c.loop-f-test.false c.loop-f.invariant.1
