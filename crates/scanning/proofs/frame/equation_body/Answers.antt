-- `scanning::frame::equation_body` is the definition's `equation_body`, and tells the highest variable.
use Rattle.std.proofs.lemmas.Result.{err_from_is_err_and}
use Rattle.scanning.proofs.Body.{sides_refused, equation_read}
use Rattle.scanning.proofs.frame.equation_body.Goals as goal

pub returns-in_err-left : goal.returns-in_err-left
returns-in_err-left c =
    let p = err_from_is_err_and c.from_residual.result c.from_residual.ensures.1 in
    rw (p.1, p.2) (sides_refused _ _ (rw c.side.ensures at c.in_err-left.ensures).given)

pub returns : goal.returns
returns c =
    equation_read _ _ c.args.known c.requires c.side.ensures c.in_ok-left.left c.in_ok-left.ensures c.side-2.ensures c.whole_scan.result (rw c.tail.ensures at c.whole_scan.ensures)
