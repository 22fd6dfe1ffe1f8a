-- `neblinaro_check` returns the defined outcome for every sheet.
use mathlib.Core.Path.{sym, ap, ◌∙◌}
use Rattle.outcomes.specs.Outcome.{check_answer, check_call}
use Rattle.neblinaro.proofs.check.neblinaro_check.Goals as goal

pub returns-in-Ok-clause-value : goal.returns-in-Ok-clause-value
unfolding check_call check_answer
returns-in-Ok-clause-value c = let (s, x, y) = c.in-Ok.ensures in sym (ap check_answer x)

pub returns-in-Err-clause-value : goal.returns-in-Err-clause-value
unfolding check_call check_answer
returns-in-Err-clause-value c = c.refusal_number.ensures ∙ sym (ap check_answer c.in-Err.ensures.0)
