-- What `directed_call` gives is what always gives.
use Rattle.outcomes.specs.Outcome.{always_call}
use Rattle.neblinaro.proofs.always.neblinaro_always.Goals as goal

pub returns-clause-scratch_value : goal.returns-clause-scratch_value
unfolding always_call
returns-clause-scratch_value c = c.directed_call.ensures
