-- The terms of the subject that those of a side are to meet: in prefix form, one behind the other.
use Prim.Native.Nat.{ℕ, ◌+◌, ◌≤◌}
use mathlib.Core.Path.{◌≡◌, ◌∙◌}
use mathlib.Core.List.{List, ◌++◌, map, map-append, append-nil}
use native.Mathlib.Omega.{arith}
use lib.ListN.{length, get_or, length-map}
use Rattle.format.specs.Limits.{max_symbols, position_count, filling_node}
use Rattle.terms.specs.Term.{Term, Terms, app, nil, cons, size, sizes, Grounds}
use Rattle.terms.specs.Position.{subterms, subterms_of}
use Rattle.terms.specs.Prefix.{prefix, prefixes}
use Rattle.terms.specs.ForContracts.Stored.{PartAt, GroundStored}
use Rattle.terms.specs.Theory.Append.{append, sizes_append}
use Rattle.terms.specs.Theory.Position.{length_subterms}
use Rattle.terms.specs.Theory.Prefix.{length_prefix, prefixes_append}
use Rattle.terms.specs.Theory.Sizes.{subterms_append}
use Rattle.terms.specs.Theory.Stored.{stored_head, stored_tail, stored_first, stored_rest}

-- From the node `i` on stand these ground terms.
pub record Row (nodes stored_sizes arities : List ℕ) (i : ℕ) (ts : Terms) : Type 0 where
  pub few_symbols : length arities ≤ max_symbols
  pub is_ground : Grounds arities ts
  pub bytes : PartAt nodes i (prefixes ts)
  pub sizes_there : PartAt stored_sizes i (map size (subterms_of ts))
  pub low : position_count ≤ i
  pub within : i + sizes ts ≤ filling_node

grounds_append : (arities : List ℕ) (ss ts : Terms) → Grounds arities ss → Grounds arities ts → Grounds arities (append ss ts)
unfolding append
grounds_append arities nil ts g h = h
grounds_append arities (cons s ss) ts g h = (g.0, grounds_append arities ss ts g.1 h)

module _ {nodes sizes arities : List ℕ} {i : ℕ} where
  pub row_one : {t : Term} → GroundStored nodes sizes arities i t → i + size t ≤ filling_node → Row nodes sizes arities i (cons t nil)
  unfolding prefix subterms size
  row_one {t} g h = record {
    few_symbols = g.few_symbols;
    is_ground = (g.is_ground, tt);
    bytes = rw (append-nil (prefix t)) g.stored.bytes;
    sizes_there = rw (append-nil (subterms t)) g.stored.sizes_there;
    low = g.low;
    within = omega (arith, h);
  }

  module _ {t : Term} {ts : Terms} (r : Row nodes sizes arities i (cons t ts)) where
    lengths_of_row : PartAt sizes i (map size (subterms t) ++ map size (subterms_of ts))
    unfolding subterms
    lengths_of_row = rw (map-append size (subterms t) (subterms_of ts)) at r.sizes_there

    pub row_first : GroundStored nodes sizes arities i t
    unfolding prefix size
    row_first = record {
      few_symbols = r.few_symbols;
      is_ground = r.is_ground.0;
      stored = record {
        bytes = stored_first (prefix t) (prefixes ts) r.bytes;
        sizes_there = stored_first (map size (subterms t)) (map size (subterms_of ts)) lengths_of_row;
      };
      low = r.low;
      within = omega (arith, r.within);
    }

    pub row_others : Row nodes sizes arities (i + size t) ts
    unfolding prefix size
    row_others = record {
      few_symbols = r.few_symbols;
      is_ground = r.is_ground.1;
      bytes = stored_rest (prefix t) (prefixes ts) (size t) (length_prefix t) r.bytes;
      sizes_there = stored_rest (map size (subterms t)) (map size (subterms_of ts)) (size t) (length-map (subterms t) size ∙ length_subterms t) lengths_of_row;
      low = omega (arith, r.low);
      within = omega (arith, r.within);
    }

  module _ {f : ℕ} {args ts : Terms} (r : Row nodes sizes arities i (cons (app f args) ts)) where
    pub row_symbol : get_or nodes i 0 ≡ f
    unfolding prefix
    row_symbol = stored_head r.bytes

    pub row_arguments : Row nodes sizes arities (i + 1) (append args ts)
    unfolding prefix subterms size
    row_arguments = record {
      few_symbols = r.few_symbols;
      is_ground = grounds_append arities args ts r.is_ground.0.2 r.is_ground.1;
      bytes = rw (prefixes_append args ts) (stored_tail r.bytes);
      sizes_there = rw (subterms_append args ts) (stored_tail r.sizes_there);
      low = omega (arith, r.low);
      within = omega (arith, r.within, sizes_append args ts);
    }
