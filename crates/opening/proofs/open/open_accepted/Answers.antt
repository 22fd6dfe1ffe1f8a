-- `open_accepted` gives the first piece of an accepted sheet.
use mathlib.Core.Path.{◌∙◌}
use native.Mathlib.Omega.{arith}
use Rattle.opening.proofs.OpenLaws.{equation_low, walk_refused, all_opened}
use Rattle.opening.proofs.open.open_accepted.Goals as goal

pub overflow_add-line : goal.overflow_add-line
overflow_add-line c =
    omega (arith, equation_low c.args.input.now c.args.known c.requires.accepts.0 c.store_equations.new.equations c.store_equations.new.lengths c.store_equations.ensures c.keep_rules.new.bounds c.keep_rules.new.table c.keep_rules.result c.keep_rules.ensures.by_index c.in-Err.is)

pub put_refusal-bytes-requires : goal.put_refusal-bytes-requires
put_refusal-bytes-requires c =
    (omega (arith, equation_low c.args.input.now c.args.known c.requires.accepts.0 c.store_equations.new.equations c.store_equations.new.lengths c.store_equations.ensures c.keep_rules.new.bounds c.keep_rules.new.table c.keep_rules.result c.keep_rules.ensures.by_index c.in-Err.is), c.requires.table_bytes_in_bounds.2)

pub returns-in-Err : goal.returns-in-Err
returns-in-Err c =
    walk_refused c.requires.accepts.0 c.store_equations.ensures c.keep_rules.result c.keep_rules.ensures.by_index c.refused.ensures c.in-Err.is c.requires.table_bytes_in_bounds.2 c.put_refusal-bytes.ensures

pub returns-in-Ok : goal.returns-in-Ok
returns-in-Ok c =
    all_opened c.requires.accepts.0 c.store_equations.ensures c.keep_rules.result c.keep_rules.ensures.by_index _ c.opened.ensures (c.keep_rules.auto.bounds ∙ c.requires.accepts.3) c.in-Ok.is
