-- The sizes of the nodes from `i` to `end`, filled in from the last node to the first.
use Prim.Native.Nat.{ℕ, zero, suc, ◌+◌, ◌-◌, ◌≤◌, ◌<◌}
use mathlib.Core.Path.{◌≡◌, sym, ap, ◌∙◌}
use mathlib.Core.List.{List, [], ◌∷◌, ◌++◌, append_assoc}
use native.Mathlib.Omega.{arith}
use native.Mathlib.Numerals.{add-one}
use lib.ListN.{length, get_or, take, drop, set, length-append, length-drop, take-append-drop}
use lib.Seq.{slice, slice_empty, length-slice, length-take-le, take-nil, drop-drop, take-suc, take_at, drop_at, set_at}
use Rattle.format.specs.Limits.{node_count}
use Rattle.terms.specs.ForContracts.Sizes.{Whole, Measurable, node_sizes}
use Rattle.terms.specs.Theory.Sizes.{whole_rest, whole_length, length_node_sizes}

whole_drop : (arities bs : List ℕ) (k : ℕ) → Whole arities bs → k ≤ length bs → Whole arities (drop k bs)
whole_drop arities bs zero w h = w
whole_drop arities bs (suc k) w h =
    let d = length-drop k bs in
    let r = whole_rest arities (drop k bs) (whole_drop arities bs k w (omega arith)) (omega arith) in
    let e : drop 1 (drop k bs) ≡ drop (suc k) bs = drop-drop 1 k bs ∙ ap (λ n. drop n bs) (add-one k) in
    rw e at r

-- A part of a list, by its end or by its length.
slice_part : (i end : ℕ) (l : List ℕ) → slice i end l ≡ take (end - i) (drop i l)
slice_part zero end l = let e : end - 0 ≡ end = omega arith in rw e
slice_part (suc i) zero l = let e : 0 - suc i ≡ 0 = omega arith in rw e
slice_part (suc i) (suc end) [] = sym (take-nil (suc end - suc i))
slice_part (suc i) (suc end) (x ∷ xs) = let e : suc end - suc i ≡ end - i = omega arith in rw e (slice_part i end xs)

slice_rest : (i end : ℕ) (l : List ℕ) → drop 1 (slice i end l) ≡ slice (i + 1) end l
slice_rest i end l = drop-drop 1 i (take end l)

middle : (a b c : List ℕ) (i end : ℕ) → length a ≡ i → length b ≡ end - i → i ≤ end → slice i end (a ++ (b ++ c)) ≡ b
middle a b c i end x y h =
    let l : length (a ++ b) ≡ end = length-append a b ∙ omega arith in
    rw (← append_assoc a b c, take_at (a ++ b) c end l, drop_at a b i x)

pub record SizesFilled (arities nodes before : List ℕ) (from end : ℕ) (sizes : List ℕ) (i : ℕ) : Type 0 where
  pub low : from ≤ i
  pub high : i ≤ end
  pub is : sizes ≡ take i before ++ (node_sizes arities (slice i end nodes) ++ drop end before)

module _ {arities nodes before : List ℕ} {from end : ℕ} (m : Measurable arities nodes before from end) where
  pub whole_from : (i : ℕ) → from ≤ i → i ≤ end → Whole arities (slice i end nodes)
  whole_from i h k =
      let l = length-slice from end nodes m.nodes_room in
      let w = whole_drop arities (slice from end nodes) (i - from) m.terms (omega (arith, l)) in
      let d : from + (i - from) ≡ i = omega arith in
      let e : drop (i - from) (slice from end nodes) ≡ slice i end nodes = drop-drop (i - from) from (take end nodes) ∙ ap (λ n. drop n (take end nodes)) d in
      rw e at w

  filled_length : (i : ℕ) → from ≤ i → i ≤ end → length (node_sizes arities (slice i end nodes)) ≡ end - i
  filled_length i h k = length_node_sizes arities (slice i end nodes) ∙ (whole_length arities (slice i end nodes) (whole_from i h k) ∙ length-slice i end nodes m.nodes_room)

  pub filled_none : SizesFilled arities nodes before from end before end
  unfolding node_sizes
  filled_none = record { low = m.ordered; high = omega arith; is = rw (slice_empty end nodes) (sym (take-append-drop end before)) }

  module _ {sizes : List ℕ} {i : ℕ} (f : SizesFilled arities nodes before from end sizes i) where
    taken : length (take i before) ≡ i
    taken = length-take-le i before (omega (arith, m.sizes_room, f.high))

    pub filled_same_length : length sizes ≡ length before
    filled_same_length = ap length f.is ∙ simp length-append (omega (arith, taken, filled_length i f.low f.high, length-drop end before, m.sizes_room, f.high))

    pub filled_part : slice i end sizes ≡ node_sizes arities (slice i end nodes)
    filled_part = ap (slice i end) f.is ∙ middle (take i before) (node_sizes arities (slice i end nodes)) (drop end before) i end taken (filled_length i f.low f.high) f.high

    -- What is asked for the size of the node before.
    pub first_asks : from < i
        → Whole arities (take (end - (i - 1)) (drop (i - 1) nodes))
        × ((0 < length (take (end - (i - 1)) (drop (i - 1) nodes))) × (length (take (end - (i - 1)) (drop (i - 1) nodes)) ≤ node_count))
        × (take (end - i) (drop i sizes) ≡ node_sizes arities (drop 1 (take (end - (i - 1)) (drop (i - 1) nodes))))
    first_asks h =
        let l = length-slice (i - 1) end nodes m.nodes_room in
        let d : (i - 1) + 1 ≡ i = omega arith in
        rw (← slice_part (i - 1) end nodes, ← slice_part i end sizes)
        (whole_from (i - 1) (omega arith) (omega (arith, f.high)), (omega (arith, l, f.high), omega (arith, l, m.few)), rw (slice_rest (i - 1) end nodes, d) filled_part)

    pub filled_asks : {last : ℕ} → last ≡ get_or (slice i end sizes) 0 0 → last ≡ get_or (take (end - i) (drop i sizes)) 0 0
    filled_asks e = rw (← slice_part i end sizes) e

    pub filled_more : {r : ℕ} → from < i → node_sizes arities (take (end - (i - 1)) (drop (i - 1) nodes)) ≡ r ∷ take (end - i) (drop i sizes)
        → SizesFilled arities nodes before from end (set sizes (i - 1) r) (i - 1)
    filled_more {r} h d = record { low = omega arith; high = omega (arith, f.high); is = stored }
      where
        j : ℕ
        j = i - 1

        e : node_sizes arities (slice j end nodes) ≡ r ∷ slice i end sizes
        e = rw (slice_part j end nodes, slice_part i end sizes) d

        rest : List ℕ
        rest = node_sizes arities (slice i end nodes) ++ drop end before

        below : j < length before
        below = omega (arith, m.sizes_room, f.high)

        one_more : take i before ≡ take j before ++ (get_or before j 0 ∷ [])
        one_more = let d : i ≡ suc j = omega arith in ap (λ n. take n before) d ∙ take-suc before j 0 below

        split : sizes ≡ take j before ++ (get_or before j 0 ∷ rest)
        split = f.is ∙ (ap (◌++ rest) one_more ∙ append_assoc (take j before) (get_or before j 0 ∷ []) rest)

        stored : set sizes j r ≡ take j before ++ (node_sizes arities (slice j end nodes) ++ drop end before)
        stored =
            let l : length (take j before) ≡ j = length-take-le j before (omega (arith, below)) in
            ap (λ q. set q j r) split
            ∙ (set_at (take j before) (get_or before j 0) rest r j l
            ∙ ap (λ q. take j before ++ (q ++ drop end before)) (sym (e ∙ ap (r ∷◌) filled_part)))

  -- The size that was put last is the first of those filled in.
  pub filled_first : {sizes : List ℕ} {i : ℕ} (f : SizesFilled arities nodes before from end sizes i) {r : ℕ} → from < i
      → node_sizes arities (take (end - (i - 1)) (drop (i - 1) nodes)) ≡ r ∷ take (end - i) (drop i sizes) → r ≡ get_or (slice (i - 1) end (set sizes (i - 1) r)) 0 0
  filled_first {i = i} f h d = sym (ap (λ l. get_or l 0 0) (filled_part (filled_more f h d) ∙ (ap (node_sizes arities) (slice_part (i - 1) end nodes) ∙ d)))
