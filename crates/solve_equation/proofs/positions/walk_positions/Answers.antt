-- `walk_positions` meets its contract.
use Rattle.std.proofs.lemmas.Result.{err_from_is_err_and}
use Rattle.solve_equation.proofs.Begin.{solved_leaves, refused_leaves}
use Rattle.solve_equation.proofs.positions.walk_positions.Goals as goal

pub returns : goal.returns
returns c = solved_leaves c.args.source c.args.target c.in_ok-walk.walk c.in_ok-walk.ensures

pub returns-in_err-walk : goal.returns-in_err-walk
returns-in_err-walk c =
    let p = err_from_is_err_and c.from_residual.result c.from_residual.ensures.1 in
    rw (p.1, p.2) (refused_leaves c.args.source c.args.target _ c.in_err-walk.ensures)
