-- Goals of `bindings_hold`.
use Prim.Native.Nat.{◌<◌}
use mathlib.Core.Path.{refl}
use Rattle.format.specs.Limits.{variable_count}
use native.Mathlib.Omega.{arith}
use Rattle.std.proofs.Common.{rules}
use Rattle.kept_lines.proofs.Slots.{binding_there, slot_fails, slot_holds, slot_free}
use Rattle.kept_lines.proofs.holding.bindings_hold.Goals as goal
use Rattle.kept_lines.proofs.holding.bindings_hold.Goals.{else-p-lt-NO_POSITION-via-then-p-lt-NO_POSITION+else-not-binding_holds, else-p-lt-NO_POSITION-via-else-p-lt-NO_POSITION}

pub binding_holds-requires-clause-has_binding : goal.binding_holds-requires-clause-has_binding
binding_holds-requires-clause-has_binding c =
    let h : c.loop-v.v < variable_count = omega arith in
    (binding_there c.loop-v.invariant h c.from.ensures (omega (arith, c.if-p-lt-NO_POSITION.true)) c.requires.has_bindings, h)

pub returns-then-not-binding_holds-clause-variant : goal.returns-then-not-binding_holds-clause-variant
returns-then-not-binding_holds-clause-variant c =
    slot_fails c.loop-v.invariant (omega arith) c.from.ensures (omega (arith, c.if-p-lt-NO_POSITION.true)) c.binding_holds.ensures.variant (search rules)

pub loop-v-preserved : goal.loop-v-preserved
loop-v-preserved c =
    let inv = c.loop-v.invariant in
    let h : c.loop-v.v < variable_count = omega arith in
    elim c.else-p-lt-NO_POSITION.branch [
      | else-p-lt-NO_POSITION-via-then-p-lt-NO_POSITION+else-not-binding_holds w ↦ rw (w.ready-is, w.cells-is) (slot_holds inv h w.from.ensures (omega (arith, w.if-p-lt-NO_POSITION.true)) w.binding_holds.ensures.variant w.if-not-binding_holds.false w.binding_holds.ensures.settled_cells_2)
      | else-p-lt-NO_POSITION-via-else-p-lt-NO_POSITION w ↦ rw (w.ready-is, w.cells-is) (slot_free inv h refl w.if-p-lt-NO_POSITION.false)
    ]
