-- `scanning::known::Known::symbol_arities` gives the arities that are known.
use Rattle.std.proofs.Common.{sym}
use Rattle.scanning.specs.Theory.Listed.{listed_taken}
use Rattle.scanning.proofs.known.Known.symbol_arities.Goals as goal

pub returns : goal.returns
returns c = sym (listed_taken _ _ c.requires)
