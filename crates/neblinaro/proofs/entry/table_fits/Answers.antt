-- Goals of `table_fits`.
use mathlib.Core.Path.{sym, ap, ◌∙◌}
use mathlib.Core.Bool.{◌&&◌}
use lib.ListN.{length}
use lib.Dec.{leb}
use Rattle.std.proofs.Common.{le-leb}
use Rattle.std.proofs.lemmas.Bool.{lt-leb}
use Rattle.format.specs.Limits.{table_bytes, scratch_bytes}
use Rattle.outcomes.specs.Outcome.{table_fits}
use Rattle.neblinaro.proofs.entry.table_fits.Goals as goal

pub returns-then-table-ge-TABLE : goal.returns-then-table-ge-TABLE
unfolding table_fits
returns-then-table-ge-TABLE c = sym (ap (◌&& leb scratch_bytes (length c.args.scratch.now)) (le-leb table_bytes (length c.args.table.now) c.if-table-ge-TABLE.true))

pub returns-else-table-ge-TABLE : goal.returns-else-table-ge-TABLE
unfolding table_fits
returns-else-table-ge-TABLE c =
    let short = lt-leb table_bytes (length c.args.table.now) c.if-table-ge-TABLE.false in
    short ∙ sym (ap (◌&& leb scratch_bytes (length c.args.scratch.now)) short)
