-- `neblinaro_judge` returns the defined outcome for every sheet, task, table and scratch, and leaves table and scratch as defined.
use mathlib.Core.Path.{sym, ap, ◌∙◌}
use Rattle.outcomes.specs.Asked.{asked, judgement_task}
use Rattle.outcomes.specs.Outcome.{judge_answer, judge_call}
use Rattle.outcomes.specs.Theory.Outcomes.{table_outcome}
use Rattle.neblinaro.proofs.RefusedEarly.{asked_refused}
use Rattle.neblinaro.proofs.LongEnough.{table_long}
use Rattle.neblinaro.proofs.judge.neblinaro_judge.Goals as goal

pub judge_task-requires : goal.judge_task-requires
judge_task-requires c = let long = table_long c.args.table.now c.args.scratch.now (sym c.table_fits-long_enough.ensures ∙ c.in-Ok.ensures.0) in (c.in-Ok.ensures.1, long.0, long.1)

pub returns-in-Ok-clause-scratch_value : goal.returns-in-Ok-clause-scratch_value
unfolding judge_call
returns-in-Ok-clause-scratch_value c = ap (λ b. judge_answer c.args.table.now c.args.scratch.now (asked b c.args.sheet.now (judgement_task c.args.task))) (sym c.table_fits-long_enough.ensures ∙ c.in-Ok.ensures.0) ∙ c.judge_task.ensures

pub returns-in-Err-clause-scratch_value : goal.returns-in-Err-clause-scratch_value
unfolding judge_call judge_answer
returns-in-Err-clause-scratch_value c =
    ap (λ b. judge_answer c.args.table.now c.args.scratch.now (asked b c.args.sheet.now (judgement_task c.args.task))) (sym c.table_fits-long_enough.ensures) ∙ ap (judge_answer c.args.table.now c.args.scratch.now) (asked_refused (judgement_task c.args.task) _ c.args.sheet.now c.in-Err.ensures.0)
    ∙ ap (λ n. table_outcome n c.args.table.now c.args.scratch.now) (sym c.refusal_number.ensures)
