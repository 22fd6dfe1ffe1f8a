-- `direction_named` is the call on an accepted sheet.
use Rattle.solve_task.proofs.Directed.{equation_absent, direction_absent}
use Rattle.solve_task.proofs.direction.direction_named.Goals as goal

pub returns-then-known-equation : goal.returns-then-known-equation
returns-then-known-equation g c = equation_absent _ _ _ _ _ _ _ c.requires.accepts c.if-known-equation.true c.refusal_number.ensures

pub returns-in_default : goal.returns-in_default
returns-in_default g c = direction_absent _ _ _ _ _ _ _ c.requires.accepts c.if-known-equation.false (rw c.in_default.is at c.from_number.ensures) c.refusal_number-in_default.ensures
