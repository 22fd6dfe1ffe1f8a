-- `load_terms` leaves the terms of the task in the nodes.
use Prim.Native.Nat.{◌-◌}
use lib.ListN.{length, drop}
use mathlib.Core.Path.{◌∙◌}
use native.Mathlib.Omega.{arith}
use Rattle.format.specs.Limits.{position_count}
use Rattle.terms.specs.Theory.Prefix.{length_prefixes}
use Rattle.terms.specs.Theory.Placed.{placed_stored}
use Rattle.terms.specs.Theory.Symbols.{symbols_drop, symbols_take, grounds_symbols}
use Rattle.reading.proofs.Placing.{placed, placed_symbols, terms_few, terms_measurable, sizes_stored}
use Rattle.reading.proofs.load.load_terms.Goals as goal

pub decode-n-requires : goal.decode-n-requires
decode-n-requires c =
    let are = c.requires.has_terms_in.are in
    (_, are.spans, omega (arith, terms_few are, c.requires.nodes_len.0))

pub overflow_add-n : goal.overflow_add-n
overflow_add-n c =
    let are = c.requires.has_terms_in.are in
    omega (arith, terms_few are, (c.decode-n.ensures _ are.spans).0)

pub measure-requires : goal.measure-requires
measure-requires c =
    let are = c.requires.has_terms_in.are in
    let decoded = c.decode-n.ensures _ are.spans in
    terms_measurable are _ _ _ (placed c.args.nodes.now _ _ _ _ (omega (arith, c.requires.nodes_len.0)) decoded.1) decoded.0 (c.nodes-1.given.1 ∙ c.requires.nodes_len.0) c.requires.nodes_len.1

pub returns : goal.returns
returns c =
    let nodes = c.args.nodes.now in
    let symbols = c.requires.nodes_len.2 in
    let behind = symbols_drop position_count nodes symbols in
    λ ts are.
    let decoded = c.decode-n.ensures _ are.spans in
    let there = placed nodes _ _ _ _ (omega (arith, c.requires.nodes_len.0)) decoded.1 in
    record {
      few_symbols = are.few_symbols;
      is_ground = are.is_ground;
      counted = decoded.0 ∙ length_prefixes ts;
      few_nodes = are.few_nodes;
      nodes_length = c.nodes-1.given.1 ∙ c.requires.nodes_len.0;
      sizes_length = c.measure.auto.sizes ∙ c.requires.nodes_len.1;
      symbols =
          placed_symbols nodes _ _ _ _ symbols (grounds_symbols _ are.few_symbols ts are.is_ground) (symbols_take (length nodes - position_count) (drop position_count nodes) behind)
          (symbols_drop (length nodes - position_count) (drop position_count nodes) behind) decoded.1;
      bytes = placed_stored there;
      sizes_there = sizes_stored are _ c.args.sizes.now _ _ _ there decoded.0 (omega (arith, c.requires.nodes_len.1)) c.measure.ensures;
    }
