-- `scanning::frame::ground_terms` is the definition's `ground_terms`.
use Rattle.std.proofs.Common.{ap}
use Rattle.std.proofs.lemmas.Result.{err_from_is_err_and}
use Rattle.sheet.specs.Frame.{ground_terms, all_read}
use Rattle.scanning.proofs.frame.ground_terms.Goals as goal

pub returns-in_err-whole_scan : goal.returns-in_err-whole_scan
unfolding ground_terms
returns-in_err-whole_scan c =
    let p = err_from_is_err_and c.from_residual.result c.from_residual.ensures.1 in
    rw (p.1, p.2) (c.in_err-whole_scan.ensures _)

pub returns : goal.returns
unfolding ground_terms all_read
returns c = (_, ap (all_read _) c.in_ok-whole_scan.ensures.0)
