-- `judge_walked` gives the number that judge returns, by what the walks gave.
use mathlib.Core.Path.{refl}
use native.Mathlib.Omega.{arith}
use Rattle.judge_task.proofs.JudgeTaskLaws.{refused_fits, refused_told, line_low, none_told, some_told}
use Rattle.judge_task.proofs.task.judge_walked.Goals as goal

pub overflow_add-stopped : goal.overflow_add-stopped
overflow_add-stopped c = let low = refused_fits c.requires.0.are c.in-Err.is in omega arith

pub refusal_number-requires : goal.refusal_number-requires
refusal_number-requires c = refused_fits c.requires.0.are c.in-Err.is

pub overflow_cast-line : goal.overflow_cast-line
overflow_cast-line c = omega (arith, line_low c.requires.0.are c.in-Ok.is c.judge_values.ensures.by_index c.in-Some.is)

pub returns-in-Err : goal.returns-in-Err
returns-in-Err c = record { judged_number = λ es i e d ts j. refused_told j c.in-Err.is c.refusal_number.ensures; scratch_unchanged = refl }

pub returns-in-None : goal.returns-in-None
returns-in-None c =
    record { judged_number = λ es i e d ts j. none_told j c.in-Ok.is c.judge_values.ensures.by_index c.in-None.is refl; scratch_unchanged = c.judge_values.ensures.scratch_unchanged }

pub returns-in-Some : goal.returns-in-Some
returns-in-Some c =
    record { judged_number = λ es i e d ts j. some_told j c.in-Ok.is c.judge_values.ensures.by_index c.in-Some.is c.fields_number.ensures; scratch_unchanged = c.judge_values.ensures.scratch_unchanged }
