-- Terms in prefix form that stand in the nodes from the subject's first node on, and the sizes that `measure` gives them.
use Rattle.std.specs.Prelude.{ℕ, ◌+◌, ◌≤◌, ◌≡◌, length, take, drop}
use Rattle.std.proofs.Common.{sym, subst, ◌∙◌, arith, length-take-le, take_at, drop_at}
use Rattle.std.proofs.Math.Path.{ap}
use mathlib.Core.List.{List, ◌++◌, map}
use Rattle.std.proofs.Math.Seq.{slice, take-append-add}
use Rattle.format.specs.Limits.{max_symbols, max_task_nodes, position_count, node_count}
use Rattle.terms.specs.Term.{Terms, size, sizes}
use Rattle.terms.specs.Position.{subterms_of}
use Rattle.terms.specs.Prefix.{prefixes, terms_of}
use Rattle.terms.specs.ForContracts.Fits.{AllFit}
use Rattle.terms.specs.ForContracts.Sizes.{Whole, Measurable, node_sizes}
use Rattle.terms.specs.ForContracts.Stored.{PartAt}
use Rattle.terms.specs.Theory.Prefix.{length_prefixes, terms_of_spelled}
use Rattle.terms.specs.Theory.Sizes.{whole}

-- These bytes stand in the nodes from the subject's first node on.
pub record Placed (nodes bs : List ℕ) : Type 0 where
  pub before : List ℕ
  pub after : List ℕ
  pub at : length before ≡ position_count
  pub is : nodes ≡ before ++ (bs ++ after)

pub placed_stored : {nodes bs : List ℕ} → Placed nodes bs → PartAt nodes position_count bs
placed_stored {bs = bs} p = record { rest = p.after; is = ap (drop position_count) p.is ∙ drop_at p.before (bs ++ p.after) position_count p.at }

placed_slice : {nodes bs : List ℕ} → Placed nodes bs → (n : ℕ) → n ≡ length bs → slice position_count (position_count + n) nodes ≡ bs
placed_slice {bs = bs} p n e =
    ap (slice position_count (position_count + n)) p.is
    ∙ ap (λ k. drop position_count (take (k + n) (p.before ++ (bs ++ p.after)))) (sym p.at)
    ∙ ap (drop position_count) (take-append-add p.before (bs ++ p.after) n)
    ∙ drop_at p.before (take n (bs ++ p.after)) position_count p.at
    ∙ take_at bs p.after n (sym e)

module _ (arities : List ℕ) (known : length arities ≤ max_symbols) (ts : Terms) (fit : AllFit arities ts) (nodes : List ℕ) (p : Placed nodes (prefixes ts)) (n : ℕ) (e : n ≡ sizes ts) where
  abbrev there : slice position_count (position_count + n) nodes ≡ prefixes ts
  there = placed_slice p n (e ∙ sym (length_prefixes ts))

  pub placed_measurable : (stored_sizes : List ℕ) → length nodes ≡ node_count → length stored_sizes ≡ node_count → n ≤ max_task_nodes → Measurable arities nodes stored_sizes position_count (position_count + n)
  placed_measurable stored_sizes x y h = record {
    ordered = omega arith;
    few = omega arith;
    nodes_room = omega arith;
    sizes_room = omega arith;
    terms = subst (Whole arities) (sym there) (whole arities known ts fit);
  }

  measured : node_sizes arities (slice position_count (position_count + n) nodes) ≡ map size (subterms_of ts)
  unfolding node_sizes
  measured = ap (λ bs. map size (subterms_of (terms_of arities bs))) there ∙ ap (λ us. map size (subterms_of us)) (terms_of_spelled arities known ts fit)

  -- What `measure` leaves.
  pub placed_sizes : (before stored_sizes after : List ℕ) → position_count ≤ length before
      → stored_sizes ≡ take position_count before ++ (node_sizes arities (slice position_count (position_count + n) nodes) ++ after)
      → PartAt stored_sizes position_count (map size (subterms_of ts))
  placed_sizes before stored_sizes after h l = placed_stored (record {
    before = take position_count before;
    after = after;
    at = length-take-le position_count before h;
    is = l ∙ ap (λ m. take position_count before ++ (m ++ after)) measured;
  })
