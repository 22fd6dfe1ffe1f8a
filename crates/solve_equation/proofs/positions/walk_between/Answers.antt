-- `walk_between` meets its contract.
use lib.Seq.{take_at}
use Rattle.stopping.specs.Theory.Stopping.{none_at_first}
use Rattle.solve_equation.proofs.positions.walk_between.Goals as goal

pub go_on-requires : goal.go_on-requires
go_on-requires c =
    record { walking = (c.begin_walk-first.ensures.walking, rw (take_at c.collect_variables.new.variables _ _ c.collect_variables.ensures.same_length) c.collect_variables.ensures); none_empty = λ on. none_at_first _ _ c.begin_walk-first.result c.begin_walk-first.ensures.source_value.2 }
