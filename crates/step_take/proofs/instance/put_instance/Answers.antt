-- Goals of `put_instance`.
use mathlib.Core.Path.{ap, ◌∙◌}
use native.Mathlib.Omega.{arith}
use lib.ListN.{get_or}
use Rattle.terms.specs.Theory.Spelled.{spelled_room}
use Rattle.step_take.proofs.Left.{value_there}
use Rattle.step_take.proofs.Written.{end_room}
use Rattle.step_take.proofs.Putting.{put_start, put_length, symbol_room, value_room, symbol_put, value_put, all_put}
use Rattle.step_take.proofs.instance.put_instance.Goals as goal
use Rattle.step_take.proofs.instance.put_instance.Goals.{then-byte-lt-FIRST_VARIABLE, else-byte-lt-FIRST_VARIABLE}

pub loop-i-init : goal.loop-i-init
loop-i-init c = λ arities t ρ s. put_start c.args.out.now s

pub bounds-bytes-i : goal.bounds-bytes-i
bounds-bytes-i c =
    let (arities, t, ρ, is, room) = c.requires in
    let p = c.loop-i.invariant arities t ρ is in
    let h = c.loop-i-test.true in
    omega (arith, spelled_room p.left.spelled h)

pub bounds-out-at : goal.bounds-out-at
bounds-out-at c =
    let (arities, t, ρ, is, room) = c.requires in
    let p = c.loop-i.invariant arities t ρ is in
    omega (arith, put_length p room, symbol_room p c.loop-i-test.true c.if-byte-lt-FIRST_VARIABLE.true)

pub overflow_add-at : goal.overflow_add-at
overflow_add-at c =
    let (arities, t, ρ, is, room) = c.requires in
    let p = c.loop-i.invariant arities t ρ is in
    omega (arith, symbol_room p c.loop-i-test.true c.if-byte-lt-FIRST_VARIABLE.true)

pub bounds-values-from : goal.bounds-values-from
bounds-values-from c =
    let (arities, t, ρ, is, room) = c.requires in
    let p = c.loop-i.invariant arities t ρ is in
    omega (arith, c.from.ensures, (value_there p.left c.loop-i-test.true c.if-byte-lt-FIRST_VARIABLE.false).slot)

pub bounds-sizes-node : goal.bounds-sizes-node
bounds-sizes-node c =
    let (arities, t, ρ, is, room) = c.requires in
    let p = c.loop-i.invariant arities t ρ is in
    rw (c.from-node.ensures, c.from.ensures) (value_there p.left c.loop-i-test.true c.if-byte-lt-FIRST_VARIABLE.false).stands.in_lengths

pub slice_bounds-copy_front-count : goal.slice_bounds-copy_front-count
slice_bounds-copy_front-count c =
    let (arities, t, ρ, is, room) = c.requires in
    let p = c.loop-i.invariant arities t ρ is in
    let v = (value_there p.left c.loop-i-test.true c.if-byte-lt-FIRST_VARIABLE.false).stands.in_nodes in
    rw (c.from-node.ensures, c.from.ensures) (omega arith)

pub slice_bounds-copy_front-start : goal.slice_bounds-copy_front-start
slice_bounds-copy_front-start c = slice_bounds-copy_front-count c

pub slice_bounds-copy_front-count-else-byte-lt-FIRST_VARIABLE : goal.slice_bounds-copy_front-count-else-byte-lt-FIRST_VARIABLE
slice_bounds-copy_front-count-else-byte-lt-FIRST_VARIABLE c =
    let (arities, t, ρ, is, room) = c.requires in
    let p = c.loop-i.invariant arities t ρ is in
    omega (arith, put_length p room, value_room p c.loop-i-test.true c.if-byte-lt-FIRST_VARIABLE.false)

pub slice_bounds-copy_front-start-else-byte-lt-FIRST_VARIABLE : goal.slice_bounds-copy_front-start-else-byte-lt-FIRST_VARIABLE
slice_bounds-copy_front-start-else-byte-lt-FIRST_VARIABLE c = slice_bounds-copy_front-count-else-byte-lt-FIRST_VARIABLE c

pub copy_front-requires : goal.copy_front-requires
copy_front-requires c =
    let (arities, t, ρ, is, room) = c.requires in
    let p = c.loop-i.invariant arities t ρ is in
    let e = c.from-node.ensures ∙ ap (λ v. get_or c.args.values.now v 0) c.from.ensures in
    let z = c.from-size.ensures ∙ ap (λ i. get_or c.args.sizes.now i 0) e in
    let v = (value_there p.left c.loop-i-test.true c.if-byte-lt-FIRST_VARIABLE.false).stands.in_nodes in
    (end_room c.args.nodes.now c.from-node.result c.from-size.result (omega arith), end_room c.loop-i.out c.loop-i.at c.from-size.result (omega (arith, put_length p room, value_room p c.loop-i-test.true c.if-byte-lt-FIRST_VARIABLE.false)))

pub overflow_add-at-else-byte-lt-FIRST_VARIABLE : goal.overflow_add-at-else-byte-lt-FIRST_VARIABLE
overflow_add-at-else-byte-lt-FIRST_VARIABLE c =
    let (arities, t, ρ, is, room) = c.requires in
    let p = c.loop-i.invariant arities t ρ is in
    omega (arith, c.from-size.ensures, c.type_inv.sizes c.from-node.result, value_room p c.loop-i-test.true c.if-byte-lt-FIRST_VARIABLE.false)

pub loop-i-preserved : goal.loop-i-preserved
loop-i-preserved c =
    let q = c.loop-i.invariant c.requires.0 c.requires.1 c.requires.2 c.requires.3 in
    λ arities t ρ s.
    let p = c.loop-i.invariant arities t ρ s in
    elim c.if-byte-lt-FIRST_VARIABLE.branch [
      | then-byte-lt-FIRST_VARIABLE w ↦ rw (w.out-is, w.at-is) (symbol_put p c.loop-i-test.true w.if-byte-lt-FIRST_VARIABLE.true (omega (arith, c.requires.4, symbol_room q c.loop-i-test.true w.if-byte-lt-FIRST_VARIABLE.true)))
      | else-byte-lt-FIRST_VARIABLE w ↦
          rw (w.out-is, w.at-is)
          (value_put p c.loop-i-test.true w.if-byte-lt-FIRST_VARIABLE.false w.from-node.result w.from-size.result w.copy_front.new.to (rw (← w.from.ensures) w.from-node.ensures) w.from-size.ensures w.copy_front.ensures)
    ]

pub returns : goal.returns
returns c = λ arities t ρ s. all_put (c.loop-i.invariant arities t ρ s) c.loop-i-test.false
