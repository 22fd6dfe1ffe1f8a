-- `Line::write` writes a line's bytes: the bindings and the counts, the elements, and what fills their places up.
use mathlib.Core.Path.{refl, ◌∙◌}
use lib.ListN.{length-set}
use Rattle.line_bytes.specs.ForContracts.Layout.{count_place}
use Rattle.lines.proofs.Writing.{written_elements, line_written}
use Rattle.lines.proofs.Sizes.{elements_places, bindings_slots}
use Rattle.lines.proofs.line.Line.write.Goals as goal

pub put_elements-requires : goal.put_elements-requires
put_elements-requires c = written_elements c.args.self c.requires.0 _ (length-set c.rebind.new.memory count_place c.args.self.count ∙ (c.rebind.auto.memory ∙ c.requires.1))

pub returns : goal.returns
returns c =
    let self = c.args.self in
    line_written self (bindings_slots self c.well_formed.0) (elements_places self c.well_formed.0) c.requires.0.few c.requires.0.fresh c.args.line.now c.rebind.new.memory _ c.put_elements.new.bytes _ _
    c.requires.1 c.rebind.ensures refl c.put_elements.ensures refl c.pad.ensures
