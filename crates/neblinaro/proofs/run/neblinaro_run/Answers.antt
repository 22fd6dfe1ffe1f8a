-- `neblinaro_run` returns the defined outcome for every sheet, task and lent buffers, and leaves the buffers as defined.
use mathlib.Core.Path.{sym, ap, ◌∙◌}
use Rattle.outcomes.specs.Asked.{asked, reduction_task}
use Rattle.outcomes.specs.Outcome.{run_answer, run_call}
use Rattle.outcomes.specs.Theory.Outcomes.{run_outcome}
use Rattle.neblinaro.proofs.RefusedEarly.{asked_refused}
use Rattle.neblinaro.proofs.LongEnough.{run_long}
use Rattle.neblinaro.proofs.run.neblinaro_run.Goals as goal

pub run_task-requires-clause-table_bytes_in_bounds : goal.run_task-requires-clause-table_bytes_in_bounds
run_task-requires-clause-table_bytes_in_bounds c = run_long c.args.table.now c.args.scratch.now c.args.term.now c.args.log.now (sym c.run_fits-long_enough.ensures ∙ c.in-Ok.ensures.0)

pub returns-in-Ok-clause-log_value : goal.returns-in-Ok-clause-log_value
unfolding run_call
returns-in-Ok-clause-log_value c = ap (λ b. run_answer c.args.table.now c.args.scratch.now c.args.term.now c.args.log.now (asked b c.args.sheet.now (reduction_task c.args.task))) (sym c.run_fits-long_enough.ensures ∙ c.in-Ok.ensures.0) ∙ c.run_task.ensures

pub returns-in-Err-clause-log_value : goal.returns-in-Err-clause-log_value
unfolding run_call run_answer
returns-in-Err-clause-log_value c =
    ap (λ b. run_answer c.args.table.now c.args.scratch.now c.args.term.now c.args.log.now (asked b c.args.sheet.now (reduction_task c.args.task))) (sym c.run_fits-long_enough.ensures) ∙ ap (run_answer c.args.table.now c.args.scratch.now c.args.term.now c.args.log.now) (asked_refused (reduction_task c.args.task) _ c.args.sheet.now c.in-Err.ensures.0)
    ∙ ap (λ n. run_outcome n c.args.table.now c.args.scratch.now c.args.term.now c.args.log.now) (sym c.refusal_number.ensures)
