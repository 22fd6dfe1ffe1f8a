-- `decide_equation` walks between the sides of the equation with these bytes.
use mathlib.Core.Path.{refl, sym, ◌∙◌}
use native.Mathlib.Omega.{arith}
use Rattle.solve_equation.proofs.Solving.{bytes_few, bytes_measurable, sizes_room, sides_are, sizes_some, sides_laid, ends_within}
use Rattle.solve_equation.specs.Theory.Memory.{walk_room, behind_kept}
use Rattle.solve_equation.proofs.Deciding.{always_decided}
use Rattle.solve_equation.proofs.decide.decide_equation.Goals as goal

pub measure-requires : goal.measure-requires
measure-requires c = bytes_measurable c.requires.0.is _ refl

pub slice_bounds-sizes-end : goal.slice_bounds-sizes-end
slice_bounds-sizes-end c = omega (arith, bytes_few c.requires.0.is, c.measure.auto.sizes)

pub slice_bounds-ends_of-end : goal.slice_bounds-ends_of-end
slice_bounds-ends_of-end c = sizes_room c.requires.0.is _ c.measure.auto.sizes

pub ends_of-ends-requires : goal.ends_of-ends-requires
ends_of-ends-requires c =
    sizes_some (sides_are c.requires.0.is _ _ c.measure.ensures)

pub slice_bounds-sizes-end-2 : goal.slice_bounds-sizes-end-2
slice_bounds-sizes-end-2 c = omega (arith, bytes_few c.requires.0.is, c.measure.auto.sizes)

pub slice_bounds-decide_positions-end : goal.slice_bounds-decide_positions-end
slice_bounds-decide_positions-end c = sizes_room c.requires.0.is _ c.measure.auto.sizes

pub decide_positions-requires : goal.decide_positions-requires
decide_positions-requires c =
    let are = sides_are c.requires.0.is _ _ c.measure.ensures in
    let (s, t) = ends_within are c.args.direction c.ends_of-ends.result (c.ends_of-ends.ensures _ _ are) in
    record { in_prefix_form = (sides_laid are, s, t); memory_len = sym (walk_room c.args.scratch.now c.requires.1) }

pub returns : goal.returns
returns c =
    record { result_value = λ e is. let are = sides_are is _ _ c.measure.ensures in c.decide_positions.ensures ∙ always_decided are c.args.direction c.ends_of-ends.result (c.ends_of-ends.ensures _ e are); scratch_unchanged = behind_kept c.args.scratch.now c.decide_positions.new.memory c.requires.1 c.decide_positions.auto.memory }
