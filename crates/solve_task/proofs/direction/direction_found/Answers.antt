-- `direction_found` is the call on an accepted sheet that has the equation.
use Rattle.reading.specs.Theory.Found.{equation_low}
use Rattle.scanning.specs.Theory.Arities.{symbols_room}
use Rattle.solve_task.proofs.Directed.{known_few, bytes_room, bytes_taken, equation_is, equation_has, equation_answer}
use Rattle.solve_task.proofs.direction.direction_found.Goals as goal

pub slice_bounds-bytes-end : goal.slice_bounds-bytes-end
slice_bounds-bytes-end g c =
    bytes_room _ _ _ c.requires.accepts.0 c.requires.accepts.1 _ _ _ c.equation_at-n.ensures c.equation_at-n.auto.out

pub slice_bounds-on_bytes-end : goal.slice_bounds-on_bytes-end
slice_bounds-on_bytes-end g c =
    bytes_taken _ _ _ c.requires.accepts.0 c.requires.accepts.1 _ _ _ c.equation_at-n.ensures c.equation_at-n.auto.out

pub symbol_arities-requires : goal.symbol_arities-requires
symbol_arities-requires g c = let (roomy, few) = known_few _ c.requires.accepts.0 in symbols_room roomy few

pub on_bytes-requires : goal.on_bytes-requires
on_bytes-requires g c =
    rw c.symbol_arities.ensures
    (record {
      has_equation = (equation_has _ _ _ c.requires.accepts.0 c.requires.accepts.1 _ _ _ c.equation_at-n.ensures, equation_low _ _ _ c.requires.accepts.0 c.requires.accepts.1);
      table_bytes_in_bounds = c.requires.table_bytes_in_bounds;
    })

pub returns : goal.returns
returns g c =
    let given = rw c.symbol_arities.ensures at c.on_bytes.ensures in
    λ n d. equation_answer _ _ _ _ _ n _ c.requires.accepts.0 c.requires.accepts.1 d _ _ (equation_is _ _ _ c.requires.accepts.0 c.requires.accepts.1 _ _ _ c.equation_at-n.ensures) given
