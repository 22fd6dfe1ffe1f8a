-- `neblinaro_compare` returns the defined outcome for every sheet, task number and scratch, and leaves scratch as defined.
use mathlib.Core.Path.{sym, ap, ◌∙◌}
use Rattle.outcomes.specs.Asked.{asked, comparison_task}
use Rattle.outcomes.specs.Outcome.{compare_answer, compare_call}
use Rattle.outcomes.specs.Theory.Outcomes.{compare_outcome}
use Rattle.neblinaro.proofs.RefusedEarly.{asked_refused}
use Rattle.neblinaro.proofs.compare.neblinaro_compare.Goals as goal

pub returns-in-Ok-clause-scratch_value : goal.returns-in-Ok-clause-scratch_value
unfolding compare_call
returns-in-Ok-clause-scratch_value c = ap (λ b. compare_answer c.args.scratch.now (asked b c.args.sheet.now (comparison_task c.args.task))) (c.in-Ok.ensures.0) ∙ c.compare_task.ensures

pub returns-in-Err-clause-scratch_value : goal.returns-in-Err-clause-scratch_value
unfolding compare_call compare_answer
returns-in-Err-clause-scratch_value c =
    ap (compare_answer c.args.scratch.now) (asked_refused (comparison_task c.args.task) _ c.args.sheet.now c.in-Err.ensures.0)
    ∙ ap (λ n. compare_outcome n c.args.scratch.now) (sym c.refusal_number.ensures)
