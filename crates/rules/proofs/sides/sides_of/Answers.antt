-- `sides_of` reads where the sides of a rule stand off the sizes in its row.
use Prim.Native.Nat.{◌*◌, ◌/◌}
use native.Mathlib.Omega.{arith}
use Rattle.rules.proofs.RowLaws.{even_sides, odd_sides}
use Rattle.rules.specs.Theory.Rows.{row_low, second_low, row_end, row_room}
use Rattle.rules.proofs.sides.sides_of.Goals as goal

pub overflow_mul-row : goal.overflow_mul-row
overflow_mul-row c = let is = c.requires.is in omega (arith, row_low is, is.row.lengths_length)

pub bounds-lengths-row : goal.bounds-lengths-row
bounds-lengths-row c = omega (arith, row_low c.requires.is)

pub overflow_add-right : goal.overflow_add-right
overflow_add-right c = let is = c.requires.is in omega (arith, row_low is, is.row.lengths_length, c.from.ensures, c.type_inv.lengths (c.args.rule / 2 * 64))

pub bounds-lengths-right : goal.bounds-lengths-right
bounds-lengths-right c = second_low c.requires.is c.from.ensures

pub overflow_add-second : goal.overflow_add-second
overflow_add-second c =
    let is = c.requires.is in
    omega (arith, row_end is c.from.ensures c.from-2.ensures, row_room is.row)

pub returns-then-rule-eq0 : goal.returns-then-rule-eq0
returns-then-rule-eq0 c equations arities i e d is = even_sides is c.from.ensures c.from-2.ensures c.if-rule-eq0.true

pub returns : goal.returns
returns c equations arities i e d is = odd_sides is c.from.ensures c.from-2.ensures c.if-rule-eq0.false
