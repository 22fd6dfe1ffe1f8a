-- What `directed_call` gives is what solve gives.
use Rattle.outcomes.specs.Outcome.{solve_call}
use Rattle.neblinaro.proofs.solve.neblinaro_solve.Goals as goal

pub returns-clause-scratch_value : goal.returns-clause-scratch_value
unfolding solve_call
returns-clause-scratch_value c = c.directed_call.ensures
