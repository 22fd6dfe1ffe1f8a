-- The positions of a term: its own, and those of its arguments.
use Prim.Native.Nat.{ℕ, zero, suc, ◌+◌, ◌≤◌, ◌<◌}
use mathlib.Core.Path.{◌≡◌}
use mathlib.Core.List.{List, ◌∷◌}
use lib.ListN.{length, get_or}
use native.Mathlib.Omega.{arith}
use native.Mathlib.Decide.{ℕ_discrete, dec_lt}
use Rattle.format.specs.Limits.{first_variable}
use Rattle.terms.specs.Position.{app_node}
use Rattle.terms.specs.Theory.View.{In, head, tail}
use Rattle.bindings.specs.ForContracts.PrefixForm.{view_of, Row, none, more, InPrefixForm}
use Rattle.bindings.specs.Theory.PrefixForm.{row_ordered, row_start, row_end, row_some, symbol_seen, seen_symbol}

-- The term at `i` is a part of the term at `p`.
pub data Part (nodes sizes : List ℕ) (i : ℕ) : ℕ → Type 0 where
  whole : Part nodes sizes i i
  inside : {p f c : ℕ} {ps : List ℕ} → view_of nodes sizes p ≡ app_node f ps → In c ps → Part nodes sizes i c → Part nodes sizes i p

-- An argument of a part is a part.
pub part_argument : {nodes sizes : List ℕ} {i p f c : ℕ} {ps : List ℕ} → Part nodes sizes i p → view_of nodes sizes i ≡ app_node f ps → In c ps → Part nodes sizes c p
part_argument whole e j = inside e j whole
part_argument (inside e j d) e' j' = inside e j (part_argument d e' j')

-- A position of a row is one of a term of the row.
pub row_part : {sizes : List ℕ} {k end : ℕ} {ps : List ℕ} → Row sizes k end ps → (i : ℕ) → k ≤ i → i < end → (c : ℕ) × In c ps × (c ≤ i) × (i < c + get_or sizes c 0)
row_part (none e) i l h = absurd (omega arith)
row_part {sizes} {end} (more {k = k} {ps = ps} s r) i l h = go (row_part r i) (dec_lt i (k + get_or sizes k 0))
  where
    go : (k + get_or sizes k 0 ≤ i → i < end → (c : ℕ) × In c ps × (c ≤ i) × (i < c + get_or sizes c 0)) → Dec (i < k + get_or sizes k 0) → (c : ℕ) × In c (k ∷ ps) × (c ≤ i) × (i < c + get_or sizes c 0)
    go ih (yes b) = (k, head, l, b)
    go ih (no b) = let (c, j, a, d) = ih (omega arith) h in (c, tail j, a, d)

module _ {nodes sizes : List ℕ} (laid : InPrefixForm nodes sizes) where
  pub size_pos : (p : ℕ) → p < length nodes → 0 < get_or sizes p 0
  size_pos p l = go (dec_lt (get_or nodes p first_variable) first_variable)
    where
      go : Dec (get_or nodes p first_variable < first_variable) → 0 < get_or sizes p 0
      go (yes h) = omega (arith, row_ordered (laid.arguments p l h))
      go (no h) = omega (arith, laid.variable_alone p l (omega arith))

  part_deep : (m p i : ℕ) → get_or sizes p 0 ≤ m → p < length nodes → p ≤ i → i < p + get_or sizes p 0 → Part nodes sizes i p
  part_deep zero p i s l a b = absurd (omega arith)
  part_deep (suc m) p i s l a b = go (part_deep m) (ℕ_discrete i p) (dec_lt (get_or nodes p first_variable) first_variable)
    where
      go : ((c i : ℕ) → get_or sizes c 0 ≤ m → c < length nodes → c ≤ i → i < c + get_or sizes c 0 → Part nodes sizes i c)
          → Dec (i ≡ p) → Dec (get_or nodes p first_variable < first_variable) → Part nodes sizes i p
      go ih (yes e) d = rw e whole
      go ih (no n) (yes h) =
          let r = laid.arguments p l h in
          let (c, j, x, y) = row_part r i (omega arith) b in
          inside (symbol_seen nodes sizes p h) j (ih c i (omega (arith, row_start r j, row_end r j)) (omega (arith, row_end r j, row_some r j, laid.ends_within p l)) x y)
      go ih (no n) (no h) = absurd (omega (arith, laid.variable_alone p l (omega arith)))

  -- The positions from a term's own to its end are those of its parts.
  pub part_at : (p i : ℕ) → p < length nodes → p ≤ i → i < p + get_or sizes p 0 → Part nodes sizes i p
  part_at p i l a b = part_deep (get_or sizes p 0) p i (omega arith) l a b

  pub part_start : {i p : ℕ} → Part nodes sizes i p → p ≤ i
  part_start whole = omega arith
  part_start (inside {p = p} {f = f} {ps = ps} e j d) = omega (arith, part_start d, row_start (seen_symbol laid p f ps e).4 j)

  pub part_end : {i p : ℕ} → Part nodes sizes i p → i + get_or sizes i 0 ≤ p + get_or sizes p 0
  part_end whole = omega arith
  part_end (inside {p = p} {f = f} {ps = ps} e j d) = omega (arith, part_end d, row_end (seen_symbol laid p f ps e).4 j)
