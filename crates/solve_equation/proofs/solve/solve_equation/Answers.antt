-- `solve_equation` walks one direction of the equation with these bytes, and copies the records of its lines.
use mathlib.Core.Path.{refl, sym, ◌∙◌}
use native.Mathlib.Omega.{arith}
use lib.ListN.{drop}
use Rattle.walking.specs.ForContracts.Walking.{memory_bytes}
use Rattle.std.proofs.lemmas.Result.{err_from_is_err_and}
use Rattle.solve_equation.proofs.Begin.{few_lines, solved_tells, refused_tells}
use Rattle.solve_equation.proofs.Solving.{bytes_few, bytes_measurable, sizes_room, sides_are}
use Rattle.solve_equation.specs.Theory.Memory.{walk_room, behind_kept}
use Rattle.solve_equation.proofs.solve.solve_equation.Goals as goal

pub measure-requires : goal.measure-requires
measure-requires c = bytes_measurable c.requires.has_equation.is _ refl

pub slice_bounds-sizes-end : goal.slice_bounds-sizes-end
slice_bounds-sizes-end c = omega (arith, bytes_few c.requires.has_equation.is, c.measure.auto.sizes)

pub slice_bounds-walk_direction-end : goal.slice_bounds-walk_direction-end
slice_bounds-walk_direction-end c = sizes_room c.requires.has_equation.is _ c.measure.auto.sizes

pub walk_direction-requires : goal.walk_direction-requires
walk_direction-requires c =
    (record { equation = c.requires.has_equation.equation; are = sides_are c.requires.has_equation.is _ _ c.measure.ensures }, sym (walk_room c.args.scratch.now c.requires.table_bytes_in_bounds.1))

pub returns-in_err-solved : goal.returns-in_err-solved
returns-in_err-solved c =
    let p = err_from_is_err_and c.from_residual.result c.from_residual.ensures.1 in
    rw (p.1, p.2) (record { reports = λ e is. refused_tells _ (c.in_err-solved.ensures e (sides_are is _ _ c.measure.ensures)) c.args.table.now; scratch_unchanged = behind_kept c.args.scratch.now c.walk_direction.new.memory c.requires.table_bytes_in_bounds.1 c.walk_direction.auto.memory })

pub overflow_mul-solved : goal.overflow_mul-solved
overflow_mul-solved c =
    let are = sides_are c.requires.has_equation.is _ _ c.measure.ensures in
    omega (arith, few_lines c.in_ok-solved.solved (c.in_ok-solved.ensures _ are))

pub copy_front-requires : goal.copy_front-requires
copy_front-requires c =
    let are = sides_are c.requires.has_equation.is _ _ c.measure.ensures in
    let few = few_lines c.in_ok-solved.solved (c.in_ok-solved.ensures _ are) in
    (omega (arith, few, c.scratch-1.given.1, c.requires.table_bytes_in_bounds.1), omega (arith, few, c.requires.table_bytes_in_bounds.0))

pub returns : goal.returns
returns c =
    let whole = c.walk_direction.auto.memory in record {
      reports = λ e is.
          solved_tells c.in_ok-solved.solved (c.in_ok-solved.ensures e (sides_are is _ _ c.measure.ensures))
          (whole ∙ sym (walk_room c.args.scratch.now c.requires.table_bytes_in_bounds.1)) (drop memory_bytes c.args.scratch.now) c.args.table.now c.copy_front.new.to c.copy_front.ensures;
      scratch_unchanged = behind_kept c.args.scratch.now c.walk_direction.new.memory c.requires.table_bytes_in_bounds.1 whole;
    }
