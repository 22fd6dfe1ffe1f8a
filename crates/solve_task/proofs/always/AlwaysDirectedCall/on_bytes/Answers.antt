-- Always on an equation's bytes.
use mathlib.Core.Path.{ap, ◌∙◌}
use Rattle.outcomes.specs.Buffer.{fields}
use Rattle.outcomes.specs.Outcome.{always_directed}
use Rattle.solve_task.proofs.Directed.{walk_cleared}
use Rattle.solve_task.proofs.AlwaysTask.{always_decided, always_refused, yes_number}
use Rattle.solve_task.proofs.always.AlwaysDirectedCall.on_bytes.Goals as goal

pub returns-in-Ok : goal.returns-in-Ok
unfolding always_directed
returns-in-Ok c =
    let number = c.fields_number.ensures ∙ ap (λ n. fields n c.in-Ok.decision.turns 0) (c.from.ensures ∙ yes_number c.in-Ok.decision.yes) in
    λ e is.
    always_decided c.args.equation c.args.table.now c.args.scratch.now (c.decide_equation-decided.ensures.result_value e is) c.fill-2.ensures (walk_cleared c.args.scratch.now c.decide_equation-decided.new.scratch c.fill.new.buffer c.decide_equation-decided.ensures.scratch_unchanged c.fill.ensures) c.in-Ok.is number

pub returns-in-Err : goal.returns-in-Err
unfolding always_directed
returns-in-Err c = λ e is.
    always_refused c.args.equation c.args.table.now c.args.scratch.now (c.decide_equation-decided.ensures.result_value e is) c.fill-2.ensures (walk_cleared c.args.scratch.now c.decide_equation-decided.new.scratch c.fill.new.buffer c.decide_equation-decided.ensures.scratch_unchanged c.fill.ensures) c.in-Err.is c.refusal_number.ensures
