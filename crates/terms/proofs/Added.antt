-- The sum of the sizes of a symbol's arguments, taken one by one from the sizes of the terms behind it.
use Prim.Native.Nat.{ℕ, suc, ◌+◌, ◌≤◌, ◌<◌}
use mathlib.Core.Path.{◌≡◌, refl, ap}
use mathlib.Core.List.{List, ◌∷◌}
use native.Mathlib.Omega.{arith}
use native.Mathlib.Numerals.{add-one}
use lib.ListN.{length, get_or, drop, length-drop}
use Rattle.format.specs.Limits.{first_variable, node_count}
use Rattle.terms.specs.Term.{Terms, sizes, count, arity}
use Rattle.terms.specs.Prefix.{take_terms, terms_of}
use Rattle.terms.specs.Theory.Prefix.{sizes_take_drop}
use Rattle.terms.specs.ForContracts.Sizes.{Whole, node_sizes}
use Rattle.terms.specs.Theory.Sizes.{whole_rest, whole_length, symbol_sizes, next_size, next_below, length_node_sizes}

abbrev behind : (nodes arities : List ℕ) → Terms
behind nodes arities = terms_of arities (drop 1 nodes)

-- The sizes of the first `k` of `n` arguments make `next`.
pub record Added (nodes arities stored_sizes : List ℕ) (n next k : ℕ) : Type 0 where
  pub enough : n ≤ count (behind nodes arities)
  pub few : sizes (behind nodes arities) < node_count
  pub stored : stored_sizes ≡ node_sizes arities (drop 1 nodes)
  pub whole : node_sizes arities nodes ≡ suc (sizes (take_terms n (behind nodes arities))) ∷ stored_sizes
  pub within : k ≤ n
  pub sum : next ≡ sizes (take_terms k (behind nodes arities))

pub added_none : {nodes arities stored_sizes : List ℕ} → Whole arities nodes → 0 < length nodes → length nodes ≤ node_count → stored_sizes ≡ node_sizes arities (drop 1 nodes)
    → get_or nodes 0 0 < first_variable → Added nodes arities stored_sizes (get_or arities (get_or nodes 0 0) 0) 0 0
unfolding take_terms sizes arity
added_none {nodes} {arities} {stored_sizes} w h l e s =
    let x = symbol_sizes arities nodes w h s in
    record {
      enough = x.enough;
      few = omega (arith, whole_length arities (drop 1 nodes) (whole_rest arities nodes w h), length-drop 1 nodes);
      stored = e;
      whole = rw e x.are;
      within = omega arith;
      sum = refl;
    }

module _ {nodes arities stored_sizes : List ℕ} {n next k : ℕ} (a : Added nodes arities stored_sizes n next k) where
  pub added_few : next + 1 ≤ node_count
  added_few = omega (arith, a.few, a.sum, sizes_take_drop k (behind nodes arities))

  pub added_all : n ≤ k → node_sizes arities nodes ≡ (next + 1) ∷ stored_sizes
  added_all h = let e : k ≡ n = omega (arith, a.within) in rw (add-one, a.sum, e) a.whole

  -- No argument, and the first.
  pub added_zero : n ≡ 0 → node_sizes arities nodes ≡ 1 ∷ stored_sizes
  unfolding take_terms sizes
  added_zero e = rw e at a.whole

  module _ (lt : k < n) where
    pub added_below : next < length stored_sizes
    added_below = omega (arith, a.enough, a.sum, next_below (behind nodes arities) k (omega (arith, a.enough)), ap length a.stored, length_node_sizes arities (drop 1 nodes))

    pub added_more : Added nodes arities stored_sizes n (next + get_or stored_sizes next 0) (k + 1)
    unfolding node_sizes
    added_more = record {
      enough = a.enough;
      few = a.few;
      stored = a.stored;
      whole = a.whole;
      within = omega arith;
      sum = rw (add-one, a.sum, a.stored) (next_size (behind nodes arities) k (omega (arith, a.enough)));
    }

pub added_first : {nodes arities sizes : List ℕ} {n last : ℕ} → Added nodes arities sizes n 0 0 → 0 < n → last ≡ get_or sizes 0 0 → Added nodes arities sizes n last 1
added_first {sizes = sizes} a h e =
    let d : 0 + get_or sizes 0 0 ≡ get_or sizes 0 0 = omega arith in
    rw (e, ← d) (added_more a h)
