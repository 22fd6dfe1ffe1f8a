-- `directed_call` returns the defined outcome of either call for every sheet, equation, direction, table and scratch, and leaves table and scratch as defined.
use mathlib.Core.Path.{sym, ap, ◌∙◌}
use Rattle.outcomes.specs.Asked.{asked, direction_asked}
use Rattle.outcomes.specs.Outcome.{directed_answer, directed_call}
use Rattle.outcomes.specs.Theory.Outcomes.{table_outcome}
use Rattle.neblinaro.proofs.RefusedEarly.{asked_refused}
use Rattle.neblinaro.proofs.LongEnough.{table_long}
use Rattle.neblinaro.proofs.direction.directed_call.Goals as goal

pub direction_named-requires-clause-table_bytes_in_bounds : goal.direction_named-requires-clause-table_bytes_in_bounds
direction_named-requires-clause-table_bytes_in_bounds g c = table_long c.args.table.now c.args.scratch.now (sym c.table_fits-long_enough.ensures ∙ c.in-Ok.ensures.0)

pub returns-in-Ok : goal.returns-in-Ok
unfolding directed_call
returns-in-Ok g c = ap (λ b. directed_answer (g.C.DirectedCall.directed c.args.equation c.args.table.now c.args.scratch.now) c.args.table.now c.args.scratch.now (asked b c.args.sheet.now (direction_asked c.args.equation c.args.direction))) (sym c.table_fits-long_enough.ensures ∙ c.in-Ok.ensures.0) ∙ c.direction_named.ensures

pub returns-in-Err : goal.returns-in-Err
unfolding directed_call directed_answer
returns-in-Err g c =
    ap (λ b. directed_answer (g.C.DirectedCall.directed c.args.equation c.args.table.now c.args.scratch.now) c.args.table.now c.args.scratch.now (asked b c.args.sheet.now (direction_asked c.args.equation c.args.direction))) (sym c.table_fits-long_enough.ensures) ∙ ap (directed_answer (g.C.DirectedCall.directed c.args.equation c.args.table.now c.args.scratch.now) c.args.table.now c.args.scratch.now) (asked_refused (direction_asked c.args.equation c.args.direction) _ c.args.sheet.now c.in-Err.ensures.0)
    ∙ ap (λ n. table_outcome n c.args.table.now c.args.scratch.now) (sym c.refusal_number.ensures)
