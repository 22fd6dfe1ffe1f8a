-- `walk_direction` walks the positions of the equation's sides.
use Rattle.solve_equation.proofs.Solving.{sizes_some, sides_laid, ends_within, leaves_direction}
use Rattle.solve_equation.proofs.solve.walk_direction.Goals as goal

pub ends_of-ends-requires : goal.ends_of-ends-requires
ends_of-ends-requires c = sizes_some c.requires.0.are

pub walk_positions-requires : goal.walk_positions-requires
walk_positions-requires c =
    let are = c.requires.0.are in
    let (s, t) = ends_within are c.args.direction c.ends_of-ends.result (c.ends_of-ends.ensures _ _ are) in
    record { in_prefix_form = (sides_laid are, s, t); memory_len = c.requires.1 }

pub returns : goal.returns
returns c =
    λ e are. leaves_direction are c.args.direction c.ends_of-ends.result (c.ends_of-ends.ensures _ e are) _ _ c.walk_positions.ensures
