-- `make_room` makes room for some elements in the place of one, and counts them.
use mathlib.Core.Path.{ap, ◌∙◌}
use lib.ListN.{set}
use Rattle.line_bytes.specs.ForContracts.Layout.{reduced_place}
use Rattle.line_bytes.proofs.Widening.{widened}
use Rattle.line_bytes.proofs.edit.make_room.Goals as goal

pub returns : goal.returns
returns c =
    widened c.args.i c.args.n c.from-count.result c.args.line.now _ _ c.requires c.from-count.ensures c.shift.ensures (c.put_if_new-2.ensures ∙ ap (λ l. set l reduced_place c.args.i) c.put_if_new.ensures)
