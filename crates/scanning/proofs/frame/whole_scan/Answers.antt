-- `scanning::frame::whole_scan` reads what is wanted, and asks that nothing is behind it.
use Rattle.std.proofs.lemmas.Result.{err_from_is_err_and}
use Rattle.scanning.proofs.Body.{refused_read, done_whole, done_width, left_over}
use Rattle.scanning.proofs.frame.whole_scan.Goals as goal

pub returns-in_err-scanned : goal.returns-in_err-scanned
returns-in_err-scanned c =
    let p = err_from_is_err_and c.from_residual.result c.from_residual.ensures.1 in
    rw (p.1, p.2) (refused_read _ _ _ c.args.wanted c.in_err-scanned.ensures.given)

pub returns-then-scanned-part : goal.returns-then-scanned-part
returns-then-scanned-part c =
    (done_whole _ _ _ _ _ c.in_ok-scanned.ensures c.if-scanned-part.true, done_width _ _ _ _ _ c.in_ok-scanned.ensures c.if-scanned-part.true)

pub returns-else-scanned-part : goal.returns-else-scanned-part
returns-else-scanned-part c = left_over _ _ _ _ _ c.in_ok-scanned.ensures c.if-scanned-part.false
