-- Laws of what is stored from a place on: its first element and the others, its parts, and that there is room for it; and of terms that are stored: the number of their nodes.
use Rattle.std.specs.Prelude.{ℕ, zero, suc, ◌+◌, ◌≤◌, ◌<◌, ◌≡◌, refl, List, [], ◌∷◌, ◌++◌, map, length, drop}
use Rattle.std.proofs.Common.{sym, ap, ◌∙◌, append_assoc, arith, length-append, length-drop, drop-drop, drop_at, get_or-drop}
use Rattle.std.proofs.Math.ListN.{get_or, get_or-append}
use Rattle.std.proofs.lemmas.List.{length-map}
use Rattle.format.specs.Limits.{position_count, node_count}
use Rattle.terms.specs.Term.{Term, var, app, size}
use Rattle.terms.specs.Position.{subterms}
use Rattle.terms.specs.Prefix.{prefix}
use Rattle.terms.specs.ForContracts.Stored.{PartAt, GroundStored}
use Rattle.terms.specs.Theory.Position.{length_subterms, size_pos}
use Rattle.terms.specs.Theory.Prefix.{length_prefix}

module _ {all : List ℕ} {i : ℕ} where
  pub stored_head : {x : ℕ} {xs : List ℕ} → PartAt all i (x ∷ xs) → get_or all i 0 ≡ x
  stored_head s =
      let e : i + 0 ≡ i = omega arith in
      ap (λ n. get_or all n 0) (sym e) ∙ (sym (get_or-drop i all 0 0) ∙ ap (λ l. get_or l 0 0) s.is)

  pub stored_tail : {x : ℕ} {xs : List ℕ} → PartAt all i (x ∷ xs) → PartAt all (i + 1) xs
  stored_tail s = record { rest = s.rest; is = sym (drop-drop 1 i all) ∙ ap (drop 1) s.is }

  pub stored_first : (a b : List ℕ) → PartAt all i (a ++ b) → PartAt all i a
  stored_first a b s = record { rest = b ++ s.rest; is = s.is ∙ append_assoc a b s.rest }

  pub stored_rest : (a b : List ℕ) (n : ℕ) → length a ≡ n → PartAt all i (a ++ b) → PartAt all (i + n) b
  stored_rest a b n e s = record { rest = s.rest; is = sym (drop-drop n i all) ∙ (ap (drop n) (s.is ∙ append_assoc a b s.rest) ∙ drop_at a (b ++ s.rest) n e) }

  pub stored_element : {part : List ℕ} → PartAt all i part → (k : ℕ) → k < length part → get_or all (i + k) 0 ≡ get_or part k 0
  stored_element {part} s k h = sym (get_or-drop i all k 0) ∙ (ap (λ l. get_or l k 0) s.is ∙ get_or-append part s.rest 0 k h)

  pub stored_room : {part : List ℕ} → PartAt all i part → 0 < length part → i + length part ≤ length all
  stored_room {part} s h = omega (arith, length-drop i all, length-append part s.rest, ap length s.is)

module _ {nodes sizes arities : List ℕ} {i : ℕ} {t : Term} (g : GroundStored nodes sizes arities i t) where
  pub ground_size : get_or sizes i 0 ≡ size t
  unfolding subterms
  ground_size = go t g.stored.sizes_there
    where
      go : (t : Term) → PartAt sizes i (map size (subterms t)) → get_or sizes i 0 ≡ size t
      go (var v) p = stored_head p
      go (app f ts) p = stored_head p

-- What the code has to know of a node where a term starts: that its reads are in range.
pub record Standing (nodes sizes : List ℕ) (i : ℕ) : Type 0 where
  pub some : 1 ≤ get_or sizes i 0
  pub in_nodes : i + get_or sizes i 0 ≤ length nodes
  pub in_lengths : i < length sizes
  pub low : position_count ≤ i
  pub within : i + get_or sizes i 0 ≤ node_count

pub ground_standing : {nodes sizes arities : List ℕ} {i : ℕ} {t : Term} → GroundStored nodes sizes arities i t → Standing nodes sizes i
ground_standing {t = t} g =
    let z = ground_size g in
    let h = size_pos t in
    let a : length (prefix t) ≡ size t = length_prefix t in
    let b : length (map size (subterms t)) ≡ size t = length-map (subterms t) size ∙ length_subterms t in
    record {
      some = omega arith;
      in_nodes = omega (arith, stored_room g.stored.bytes (omega arith));
      in_lengths = omega (arith, stored_room g.stored.sizes_there (omega arith));
      low = g.low;
      within = omega (arith, g.within);
    }

-- The number of nodes of the part at a position.
size_among : (ts : List Term) (p : ℕ) (d : Term) → p < length ts → get_or (map size ts) p 0 ≡ size (get_or ts p d)
size_among [] p d h = absurd (omega arith)
size_among (t ∷ ts) zero d h = refl
size_among (t ∷ ts) (suc p) d h = size_among ts p d (omega arith)

pub stored_size : {sizes : List ℕ} {i : ℕ} (s : Term) → PartAt sizes i (map size (subterms s)) → (p : ℕ) (d : Term) → p < size s → get_or sizes (i + p) 0 ≡ size (get_or (subterms s) p d)
stored_size s l p d h = stored_element l p (omega (arith, length-map (subterms s) size, length_subterms s)) ∙ size_among (subterms s) p d (omega (arith, length_subterms s))
