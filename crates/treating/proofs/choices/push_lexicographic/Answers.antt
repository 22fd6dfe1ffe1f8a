-- Goals of `push_lexicographic`.
use Prim.Native.Nat.{◌+◌}
use mathlib.Core.Path.{◌∙◌}
use native.Mathlib.Omega.{arith}
use Rattle.line_bytes.specs.ForContracts.Layout.{line_bytes}
use Rattle.treating.proofs.Lexicographic.{lexicographic_room, pushing_start, pushing_whole, pushing_marks, pushing_next, pushing_left_done, pushing_right_done}
use Rattle.treating.proofs.choices.push_lexicographic.Goals as goal

pub loop-s-init : goal.loop-s-init
loop-s-init c = pushing_start _ _ _ c.requires

pub store_with-requires : goal.store_with-requires
store_with-requires c =
    let e = lexicographic_room _ _ _ c.loop-s.invariant.fits c.loop-s-test.true c.if-t-right.true in
    (e.0, pushing_whole _ _ _ c.loop-s.invariant, e.1)

pub mark_equal-requires : goal.mark_equal-requires
mark_equal-requires c = pushing_marks _ _ _ c.loop-s.invariant c.loop-s-test.true c.if-t-right.true _ c.store_with.auto.records

pub loop-s-preserved : goal.loop-s-preserved
loop-s-preserved c =
    pushing_next _ _ _ c.loop-s.invariant c.loop-s-test.true c.if-t-right.true c.from-s.result c.from-t.result (c.loop-s.place + 2) (c.loop-s.next + line_bytes) c.store_with.new.records c.mark_equal.new.bytes
    c.store_with.ensures c.mark_equal.ensures (c.mark_equal.auto.bytes ∙ c.store_with.auto.records) c.from-s.ensures c.from-t.ensures (omega arith) (omega arith)

pub returns-else-t-right : goal.returns-else-t-right
returns-else-t-right c = pushing_right_done _ _ _ c.loop-s.invariant c.if-t-right.false

pub returns-after-loop-s : goal.returns-after-loop-s
returns-after-loop-s c = pushing_left_done _ _ _ c.loop-s.invariant c.loop-s-test.false
