-- `walk_rule` walks one direction of the equation whose bytes and sizes stand in the rule's row.
use mathlib.Core.Path.{subst, sym, ◌∙◌}
use native.Mathlib.Omega.{arith}
use lib.ListN.{drop}
use Rattle.walking.specs.ForContracts.Walking.{memory_bytes}
use Rattle.solve_equation.specs.Theory.Memory.{behind_kept, walk_room}
use Rattle.rules.proofs.KeepLaws.{rule_direction, leaves_longer}
use Rattle.rules.specs.Theory.Rows.{row_low, second_low, row_end, row_room}
use Rattle.rules.specs.Theory.Kept.{end_in_equations, end_in_lengths, sides_there}
use Rattle.solving.specs.Walk.{solve}
use Rattle.solve_equation.specs.ForContracts.Reports.{Leaves}
use Rattle.rules.proofs.keep.walk_rule.Goals as goal

pub overflow_mul-row : goal.overflow_mul-row
overflow_mul-row c = let is = c.requires.0.is in omega (arith, row_low is, is.row.lengths_length)

pub bounds-rows-row : goal.bounds-rows-row
bounds-rows-row c = omega (arith, row_low c.requires.0.is)

pub overflow_add-right : goal.overflow_add-right
overflow_add-right c = let is = c.requires.0.is in omega (arith, second_low is c.from.ensures, is.row.lengths_length)

pub bounds-rows-right : goal.bounds-rows-right
bounds-rows-right c = second_low c.requires.0.is c.from.ensures

pub overflow_add-end : goal.overflow_add-end
overflow_add-end c = let is = c.requires.0.is in omega (arith, row_end is c.from.ensures c.from-2.ensures, row_room is.row)

pub slice_bounds-walk_direction-end : goal.slice_bounds-walk_direction-end
slice_bounds-walk_direction-end c = end_in_equations c.requires.0.is c.from.ensures c.from-2.ensures

pub slice_bounds-walk_direction-end-2 : goal.slice_bounds-walk_direction-end-2
slice_bounds-walk_direction-end-2 c = end_in_lengths c.requires.0.is c.from.ensures c.from-2.ensures

pub slice_bounds-walk_direction-end-4 : goal.slice_bounds-walk_direction-end-4
slice_bounds-walk_direction-end-4 c = walk_room c.args.scratch.now c.requires.1

pub walk_direction-requires : goal.walk_direction-requires
walk_direction-requires c =
    let is = c.requires.0.is in
    (record { equation = c.requires.0.equation; are = sides_there is c.from.ensures c.from-2.ensures }, sym (walk_room c.args.scratch.now c.requires.1))

pub returns : goal.returns
returns c =
    let whole = c.walk_direction.auto.memory in record {
      by_index = λ arities i e d is.
          leaves_longer (subst (λ o. Leaves (solve e o) c.walk_direction.new.memory c.walk_direction.result) (rule_direction is c.of_rule.ensures) (c.walk_direction.ensures e (sides_there is c.from.ensures c.from-2.ensures)))
          (drop memory_bytes c.args.scratch.now)
          (whole ∙ sym (walk_room c.args.scratch.now c.requires.1));
      scratch_unchanged = behind_kept c.args.scratch.now c.walk_direction.new.memory c.requires.1 whole;
    }
