-- The bytes that are decoded behind an equation's nodes are whole terms, and are measured there.
use Prim.Native.Nat.{ℕ, ◌+◌, ◌≤◌}
use mathlib.Core.Path.{◌≡◌, ap, ◌∙◌}
use mathlib.Core.List.{List, ◌++◌, map, append_assoc}
use lib.ListN.{length, take, drop}
use lib.Seq.{slice, length-take-le}
use native.Mathlib.Omega.{arith}
use Rattle.format.specs.Limits.{max_task_nodes, position_count, node_count}
use Rattle.format.specs.Buffer.{written}
use Rattle.terms.specs.Term.{Terms, size, sizes}
use Rattle.terms.specs.Position.{subterms_of}
use Rattle.terms.specs.Prefix.{prefixes}
use Rattle.terms.specs.ForContracts.Fits.{AllFit}
use Rattle.terms.specs.ForContracts.Sizes.{Measurable, node_sizes}
use Rattle.terms.specs.ForContracts.Stored.{PartAt, AllSymbols}
use Rattle.terms.specs.Theory.Prefix.{grounds_fit, length_prefixes}
use Rattle.terms.specs.Theory.Placed.{Placed, placed_measurable, placed_sizes}
use Rattle.terms.specs.Theory.Symbols.{symbols_append, symbols_drop, symbols_take}
use Rattle.reading.specs.ForContracts.Loading.{TermsIn}

pub placed : (nodes part former after bs : List ℕ) → position_count ≤ length nodes → part ≡ written bs former → Placed (take position_count nodes ++ (part ++ after)) bs
unfolding written
placed nodes part former after bs h e =
    record {
      before = take position_count nodes;
      after = drop (length bs) former ++ after;
      at = length-take-le position_count nodes h;
      is = ap (λ p. take position_count nodes ++ p) (ap (◌++ after) e ∙ append_assoc bs (drop (length bs) former) after);
    }

pub placed_symbols : (nodes part former after bs : List ℕ) → AllSymbols nodes → AllSymbols bs → AllSymbols former → AllSymbols after → part ≡ written bs former
    → AllSymbols (take position_count nodes ++ (part ++ after))
unfolding written
placed_symbols nodes part former after bs a b c d e =
    symbols_append (take position_count nodes) (part ++ after) (symbols_take position_count nodes a)
    (symbols_append part after (rw e (symbols_append bs (drop (length bs) former) b (symbols_drop (length bs) former c))) d)

module _ {sheet arities : List ℕ} {from end : ℕ} {ts : Terms} (are : TermsIn sheet arities from end ts) where
  pub terms_few : length (prefixes ts) ≤ max_task_nodes
  terms_few = omega (arith, length_prefixes ts, are.few_nodes)

  fit : AllFit arities ts
  fit = grounds_fit arities ts are.is_ground

  counted : {n : ℕ} → n ≡ length (prefixes ts) → n ≡ sizes ts
  counted e = e ∙ length_prefixes ts

  pub terms_measurable : (nodes stored_sizes : List ℕ) (n : ℕ) → Placed nodes (prefixes ts) → n ≡ length (prefixes ts)
      → length nodes ≡ node_count → length stored_sizes ≡ node_count → Measurable arities nodes stored_sizes position_count (position_count + n)
  terms_measurable nodes stored_sizes n a e x y = placed_measurable arities are.few_symbols ts fit nodes a n (counted e) stored_sizes x y (omega (arith, terms_few))

  pub sizes_stored : (nodes before stored_sizes after : List ℕ) (n : ℕ) → Placed nodes (prefixes ts) → n ≡ length (prefixes ts) → position_count ≤ length before
      → stored_sizes ≡ take position_count before ++ (node_sizes arities (slice position_count (position_count + n) nodes) ++ after)
      → PartAt stored_sizes position_count (map size (subterms_of ts))
  sizes_stored nodes before stored_sizes after n a e h l = placed_sizes arities are.few_symbols ts fit nodes a n (counted e) before stored_sizes after h l
