-- `compare_terms` gives the decision on the two terms that the digits write.
use mathlib.Core.Path.{refl}
use Rattle.format.specs.Limits.{node_count}
use Rattle.cells.specs.Theory.Cells.{symbols_zero}
use Rattle.scanning.specs.Theory.Arities.{symbols_room}
use Rattle.compare_task.proofs.compare.compare_terms.Goals as goal

pub symbol_arities-requires : goal.symbol_arities-requires
symbol_arities-requires c = let (s, t, p) = c.requires.pair_in in symbols_room c.requires.roomy.0 p.few_symbols

pub load_terms-requires : goal.load_terms-requires
load_terms-requires c =
    let (s, t, p) = c.requires.pair_in in
    rw c.symbol_arities.ensures (record { has_terms_in = record { terms = _; are = p }; nodes_len = (refl, refl, symbols_zero node_count) })
