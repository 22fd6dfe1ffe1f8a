-- `from_table` prints the first frame of a table, or goes on to the tasks.
use native.Mathlib.Omega.{arith}
use Rattle.rules.specs.Theory.Rows.{rule_there}
use Rattle.places.proofs.PlaceLaws.{few_equations, equations_counted, its_rows, below, table_low, tables_done, table_done}
use Rattle.places.proofs.step.from_table.Goals as goal

pub returns-then-rule-known : goal.returns-then-rule-known
returns-then-rule-known c = λ bounds table s r at. tables_done r _ c.moved.ensures c.if-rule-known.true

pub list_table-listed-requires : goal.list_table-listed-requires
list_table-listed-requires c = let h = c.requires.has_place in
    let other = c.if-rule-known.false in
    (rule_there (its_rows h.ready) (below h.at (equations_counted h.ready) other), omega (arith, c.requires.scratch_bytes_in_bounds.0), omega (arith, c.requires.scratch_bytes_in_bounds.1))

pub returns : goal.returns
returns c = λ bounds table s r at.
    let low = table_low at (equations_counted r) c.if-rule-known.false in
    table_done r _ c.list_table-listed.result c.moved-2.ensures low (c.list_table-listed.ensures _ s.equations r.rows r.every low)
