-- `list_line` prints a line of a table.
use native.Mathlib.Omega.{arith}
use Rattle.tables.proofs.TableLaws.{its_rule, record_room, line_has, line_printed}
use Rattle.rules.specs.Theory.Rows.{row_low, second_low}
use Rattle.rules.specs.Theory.Kept.{end_in_equations, end_in_lengths}
use Rattle.tables.proofs.table.list_line.Goals as goal

pub bounds-rows-row : goal.bounds-rows-row
bounds-rows-row c = let h = c.requires.0 in omega (arith, row_low (its_rule h.rows h.records_there h.low))

pub bounds-rows-right : goal.bounds-rows-right
bounds-rows-right c = let h = c.requires.0 in second_low (its_rule h.rows h.records_there h.low) c.from.ensures

pub slice_bounds-put_line-end : goal.slice_bounds-put_line-end
slice_bounds-put_line-end c = let h = c.requires.0 in omega (arith, record_room h.rows h.records_there h.low)

pub slice_bounds-put_line-end-2 : goal.slice_bounds-put_line-end-2
slice_bounds-put_line-end-2 c = let h = c.requires.0 in end_in_equations (its_rule h.rows h.records_there h.low) c.from.ensures c.from-2.ensures

pub slice_bounds-put_line-end-3 : goal.slice_bounds-put_line-end-3
slice_bounds-put_line-end-3 c =
    let h = c.requires.0 in end_in_lengths (its_rule h.rows h.records_there h.low) c.from.ensures c.from-2.ensures

pub put_line-requires : goal.put_line-requires
put_line-requires c =
    let h = c.requires.0 in (line_has h.rows h.records_there h.low c.from.ensures c.from-2.ensures, c.requires.1)

pub returns-clause-by_index : goal.returns-clause-by_index
returns-clause-by_index c = λ arities es lines rows there low. line_printed rows there low c.from.ensures c.from-2.ensures c.put_line.ensures.appended
