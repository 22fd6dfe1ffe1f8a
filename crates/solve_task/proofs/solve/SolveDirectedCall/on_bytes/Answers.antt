-- Solve on an equation's bytes.
use native.Mathlib.Omega.{arith}
use Rattle.outcomes.specs.Outcome.{solve_directed}
use Rattle.solve_task.proofs.Directed.{walk_cleared}
use Rattle.solve_task.proofs.SolveTask.{walk_solved, walk_refused, lines_low}
use Rattle.solve_task.proofs.solve.SolveDirectedCall.on_bytes.Goals as goal

pub overflow_cast-walk : goal.overflow_cast-walk
overflow_cast-walk c =
    let is = c.requires.has_equation.0.is in
    omega (arith, lines_low c.args.direction is (c.solve_equation-solved.ensures.reports _ is) c.in-Ok.is)

pub returns-in-Ok : goal.returns-in-Ok
unfolding solve_directed
returns-in-Ok c = λ e is.
    walk_solved c.args.equation c.args.scratch.now (c.solve_equation-solved.ensures.reports e is) c.in-Ok.is c.fields_number.ensures (walk_cleared c.args.scratch.now c.solve_equation-solved.new.scratch c.fill.new.buffer c.solve_equation-solved.ensures.scratch_unchanged c.fill.ensures)

pub returns-in-Err : goal.returns-in-Err
unfolding solve_directed
returns-in-Err c = λ e is.
    walk_refused c.args.equation c.args.scratch.now (c.solve_equation-solved.ensures.reports e is) c.in-Err.is c.refusal_number.ensures c.fill-in-Err.ensures (walk_cleared c.args.scratch.now c.solve_equation-solved.new.scratch c.fill.new.buffer c.solve_equation-solved.ensures.scratch_unchanged c.fill.ensures)
