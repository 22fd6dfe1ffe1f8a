-- `put_result` meets its contract: three copies, each behind the one before.
use Prim.Native.Nat.{◌+◌, ◌-◌}
use native.Mathlib.Omega.{arith}
use lib.ListN.{length}
use borrow.Rule.Slice.PartMut.{put_mid}
use Rattle.format.specs.Limits.{position_count}
use Rattle.terms.specs.Term.{size, inst}
use Rattle.step_take.proofs.Written.{end_room}
use Rattle.step_take.proofs.Result.{bounds, result_size, instance_room, result_put}
use Rattle.step_take.proofs.part.put_result.Goals as goal

pub copy_front-requires : goal.copy_front-requires
copy_front-requires c =
    let at = c.args.node - position_count in
    let b = bounds c.requires.5 in
    (end_room c.args.nodes.now position_count at (omega (arith, b.inside, b.few, b.nodes_length)), omega (arith, instance_room c.requires.5, c.requires.6))

pub slice_bounds-put_instance-count : goal.slice_bounds-put_instance-count
slice_bounds-put_instance-count c = omega (arith, instance_room c.requires.5, c.requires.6, c.copy_front.auto.to)

pub slice_bounds-put_instance-start : goal.slice_bounds-put_instance-start
slice_bounds-put_instance-start c = slice_bounds-put_instance-count c

pub put_instance-new-requires : goal.put_instance-new-requires
put_instance-new-requires c =
    (c.requires.0, c.requires.2, c.requires.3, c.requires.5.instance_is, end_room c.copy_front.new.to (c.args.node - position_count) (size (inst c.requires.3 c.requires.2)) (omega (arith, c.copy_front.auto.to, instance_room c.requires.5, c.requires.6)))

pub slice_bounds-copy_front-count-2 : goal.slice_bounds-copy_front-count-2
slice_bounds-copy_front-count-2 c = let b = bounds c.requires.5 in omega (arith, b.low, b.inside, b.few, b.nodes_length, c.from-old.ensures)

pub slice_bounds-copy_front-start-2 : goal.slice_bounds-copy_front-start-2
slice_bounds-copy_front-start-2 c = slice_bounds-copy_front-count-2 c

pub overflow_add-p : goal.overflow_add-p
overflow_add-p c =
    let room = c.well_formed.1.1.1.1.1.1.1.0.0 in
    omega (arith, instance_room c.requires.5, c.requires.6, room, (c.put_instance-new.ensures _ _ _ c.requires.5.instance_is).0)

pub slice_bounds-copy_front-count-3 : goal.slice_bounds-copy_front-count-3
slice_bounds-copy_front-count-3 c =
    omega (arith, instance_room c.requires.5, c.requires.6, (c.put_instance-new.ensures _ _ _ c.requires.5.instance_is).0, c.res-2-1.given.1, c.copy_front.auto.to)

pub slice_bounds-copy_front-start-3 : goal.slice_bounds-copy_front-start-3
slice_bounds-copy_front-start-3 c = slice_bounds-copy_front-count-3 c

pub overflow_sub-n-2 : goal.overflow_sub-n-2
overflow_sub-n-2 c = omega (arith, (bounds c.requires.5).inside, c.from-old.ensures)

pub copy_front-requires-2 : goal.copy_front-requires-2
copy_front-requires-2 c =
    let node = c.args.node in
    let b = bounds c.requires.5 in
    let x = c.from-old.ensures in
    let at = node - position_count in
    let rest = c.args.n - at - c.from-old.result in
    let first = c.copy_front.new.to in (
      end_room c.args.nodes.now (node + c.from-old.result) rest (omega (arith, b.low, b.inside, b.few, b.nodes_length)),
      end_room (put_mid at (length first - at) first c.put_instance-new.new.out) (at + c.put_instance-new.result) rest (omega (arith, c.res-2-1.given.1, b.inside, result_size c.requires.5, c.requires.6, (c.put_instance-new.ensures _ _ _ c.requires.5.instance_is).0, c.copy_front.auto.to)),
    )

pub returns : goal.returns
returns c =
    λ arities subject t ρ p r.
    result_put r c.args.res.now c.copy_front.new.to c.put_instance-new.new.out c.copy_front-2.new.to c.from-old.result c.put_instance-new.result c.from-old.ensures
    c.copy_front.ensures (c.put_instance-new.ensures arities t ρ r.instance_is) c.copy_front-2.ensures
