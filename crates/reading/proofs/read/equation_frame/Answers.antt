-- `reading::read::equation_frame` reads an equation's frame where it is in order.
use Rattle.std.proofs.lemmas.Result.{err_from_is_err_and}
use Rattle.reading.proofs.OneFrame.{after_tasks, equations_full, equation_refused, equation_done, width_given}
use Rattle.reading.proofs.read.equation_frame.Goals as goal
use Rattle.reading.proofs.read.equation_frame.Goals.{then-known-gt0-via-then-known-gt0, then-known-gt0-via-else-known-gt0+then-known-ge-EQUATIONS}

pub returns-then-known-gt0 : goal.returns-then-known-gt0
returns-then-known-gt0 c = λ sheet knows. elim c.then-known-gt0.branch [
  | then-known-gt0-via-then-known-gt0 w ↦ after_tasks _ sheet knows w.if-known-gt0.true _
  | then-known-gt0-via-else-known-gt0+then-known-ge-EQUATIONS w ↦ equations_full _ sheet knows w.if-known-ge-EQUATIONS.true _
]

pub with_equation-requires : goal.with_equation-requires
with_equation-requires c = let (sheet, knows) = c.requires.1 in (c.if-known-ge-EQUATIONS.false, width_given _ sheet knows _ _ c.in_ok-width.ensures)

pub returns-in_err-width : goal.returns-in_err-width
returns-in_err-width c =
    let p = err_from_is_err_and c.from_residual.result c.from_residual.ensures.1 in
    rw (p.1, p.2) (λ sheet knows. equation_refused _ sheet knows c.if-known-gt0.false c.if-known-ge-EQUATIONS.false _ c.in_err-width.ensures)

pub returns : goal.returns
returns c = λ sheet knows.
    equation_done _ sheet knows c.if-known-gt0.false c.if-known-ge-EQUATIONS.false _ c.requires.0.body.are_bytes _ c.in_ok-width.ensures c.with_equation.ensures
