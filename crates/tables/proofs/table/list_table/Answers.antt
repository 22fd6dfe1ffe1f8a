-- `list_table` walks a rule and prints the first frame of its table.
use Rattle.tables.proofs.TableLaws.{rule_few, lines_few, never_refused, table_given}
use Rattle.tables.proofs.table.list_table.Goals as goal

pub put_table-bytes-requires : goal.put_table-bytes-requires
put_table-bytes-requires c =
    let memory = c.walk_rule.new.scratch in
    let walk = c.walk_rule.ensures.by_index in
    (rule_few c.requires.0 memory c.walk_rule.result walk, lines_few c.requires.0 memory c.walk_rule.result walk c.in-Ok.is, c.requires.2)

pub returns-in-Ok : goal.returns-in-Ok
returns-in-Ok c =
    λ arities es rows s low.
    table_given c.walk_rule.new.scratch c.walk_rule.result c.walk_rule.ensures.by_index es rows low c.in-Ok.is c.requires.2 c.put_table-bytes.ensures

pub returns-in-Err : goal.returns-in-Err
returns-in-Err c = λ arities es rows s low.
    absurd (never_refused c.walk_rule.new.scratch c.walk_rule.result c.walk_rule.ensures.by_index es rows low s c.in-Err.is)
