-- `store_with` puts a line with two bytes changed into the memory: the line first, then the two bytes over it.
use Rattle.line_bytes.specs.Theory.Placed.{placed_with}
use Rattle.line_bytes.proofs.edit.store_with.Goals as goal

pub returns : goal.returns
returns c =
    placed_with c.args.to c.args.at c.args.a c.args.b c.args.line.now c.args.records.now _ _ c.requires.0 c.requires.1 c.requires.2 c.store.ensures c.put.ensures
