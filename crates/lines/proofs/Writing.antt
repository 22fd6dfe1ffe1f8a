-- The laws of a line that is written from its named parts.
use Prim.Native.Nat.{ℕ, zero, suc, ◌+◌, ◌-◌, ◌*◌, ◌≤◌, ◌<◌}
use mathlib.Core.Path.{◌≡◌, refl, sym, ap, ap₂, ◌∙◌}
use mathlib.Core.List.{List, [], ◌∷◌, ◌++◌, map, append_assoc}
use lib.ListN.{length, get_or, set, take, drop, replicate, length-append, length-drop, length-map, length-replicate, take-append-drop, drop_of_length-le, get_or-map}
use lib.Seq.{slice, slice_empty, length-slice, length-take-le, take-suc, drop-append-le, drop-cons, drop-drop, set_comm, set_split, get_or-take, get_or-drop}
use native.Mathlib.Nat.{zero-add}
use native.Mathlib.Numerals.{add-one}
use native.Mathlib.Omega.{arith}
use Rattle.format.specs.Limits.{variable_count, max_elements, no_position, record_bytes}
use Rattle.solving.specs.Line.{Element, equal, greater}
use Rattle.line_bytes.specs.declared.element.Element.{Element as Held}
use Rattle.lines.specs.declared.line.Line.{Line as LineValue}
use Rattle.line_bytes.specs.ForContracts.Layout.{count_place, first_element, reduced_place, line_bytes, placed}
use Rattle.line_bytes.specs.ForContracts.Resting.{meaning, marks, padding, Markable, resting_bytes}
use Rattle.lines.specs.ForContracts.Line.{resting_of, elements_from, Writable, ElementsFit}
use Rattle.line_bytes.specs.Theory.Resting.{length_marks, marks_append}
use Rattle.line_bytes.specs.Theory.Placed.{placed_none, placed_behind, placed_length}
use Rattle.line_bytes.specs.Theory.InPlace.{placed_over, counts_set}

-- A store, and two of them, seen as bytes placed.
pub set_placed_one : (l : List ℕ) (at a : ℕ) → at < length l → set l at a ≡ placed at (a ∷ []) l
unfolding placed
set_placed_one l at a h = set_split l at a h ∙ ap (λ n. take at l ++ (a ∷ drop n l)) (sym (add-one at))

-- The parts of a list of elements that can be marked.
markable_at : (es : List Element) (i : ℕ) (d : Element) → Markable es → i < length es → Markable (get_or es i d ∷ [])
markable_at [] i d m h = absurd (omega arith)
markable_at (equal p q ∷ es) zero d m h = (m.0, tt)
markable_at (greater p q ∷ es) zero d m h = tt
markable_at (equal p q ∷ es) (suc i) d m h = markable_at es i d m.1 (omega arith)
markable_at (greater p q ∷ es) (suc i) d m h = markable_at es i d m (omega arith)

map_append : (es fs : List Held) → map meaning (es ++ fs) ≡ map meaning es ++ map meaning fs
map_append [] fs = refl
map_append (e ∷ es) fs = ap (meaning e ∷◌) (map_append es fs)

-- One more element of a part.
slice_more : {A : Type 0} (f t : ℕ) (l : List A) (d : A) → f ≤ t → t < length l → slice f (t + 1) l ≡ slice f t l ++ (get_or l t d ∷ [])
slice_more f t l d h k =
    let e = length-take-le t l (omega arith) in
    ap (λ n. slice f n l) (add-one t) ∙ (ap (drop f) (take-suc l t d k) ∙ drop-append-le f (take t l) (get_or l t d ∷ []) (omega arith))

-- The elements from `from` up to `i` stand from `to` on.
pub record Putting (l : LineValue) (from to : ℕ) (before after : List ℕ) (i : ℕ) : Type 0 where
  pub started : from ≤ i
  pub within : i ≤ l.count
  pub fits : ElementsFit l from to before
  pub places : length l.elements ≡ max_elements
  pub stand : after ≡ placed to (marks (map meaning (slice from i l.elements))) before

length_first : (l : LineValue) (from i : ℕ) → i ≤ length l.elements → length (marks (map meaning (slice from i l.elements))) ≡ 2 * (i - from)
length_first l from i h = omega (arith, length_marks (map meaning (slice from i l.elements)), length-map (slice from i l.elements) meaning, length-slice from i l.elements h)

pub putting_start : (l : LineValue) (from to : ℕ) (before : List ℕ) → ElementsFit l from to before → length l.elements ≡ max_elements → Putting l from to before before from
unfolding marks
putting_start l from to before f p = record {
  started = omega arith;
  within = f.within;
  fits = f;
  places = p;
  stand = sym (placed_none to before) ∙ ap (λ es. placed to (marks (map meaning es)) before) (sym (slice_empty from l.elements));
}

module _ {l : LineValue} {from to : ℕ} {before after : List ℕ} {i : ℕ} (p : Putting l from to before after i) where
  pub putting_length : length after ≡ length before
  putting_length =
      let a = p.within in
      let b = p.fits.few in
      let n = length_first l from i (omega (arith, p.places)) in
      ap length p.stand ∙ placed_length to (marks (map meaning (slice from i l.elements))) before (omega (arith, p.fits.room, p.started))

  module _ (h : i < l.count) where
    pub putting_room : to + 2 * (i - from) + 2 ≤ length after
    putting_room = omega (arith, putting_length, p.fits.room, p.started)

    module _ (e d : Held) (x : e ≡ get_or l.elements i d) where
      pub putting_markable : Markable (meaning e ∷ [])
      unfolding elements_from
      putting_markable =
          let b = p.fits.few in
          let k = p.places in
          let s = p.started in
          let part = slice from l.count l.elements in
          let a = length-slice from l.count l.elements (omega arith) in
          let n = length-map part meaning in
          let j : from + (i - from) ≡ i = omega arith in
          let same : get_or (map meaning part) (i - from) (meaning d) ≡ meaning e =
          get_or-map meaning part (i - from) d
          ∙ ap meaning (get_or-drop from (take l.count l.elements) (i - from) d
          ∙ (ap (λ m. get_or (take l.count l.elements) m d) j ∙ (get_or-take l.count l.elements i d h ∙ sym x))) in
          rw same at (markable_at (map meaning part) (i - from) (meaning d) p.fits.markable (omega arith))

      pub putting_next : (new : List ℕ) → new ≡ placed (to + 2 * (i - from)) (marks (meaning e ∷ [])) after → Putting l from to before new (i + 1)
      putting_next new z =
          let b = p.fits.few in
          let k = p.places in
          let s = p.started in
          let r = p.fits.room in
          let es = l.elements in
          let first = marks (map meaning (slice from i es)) in
          let n = length_first l from i (omega arith) in
          let place : to + 2 * (i - from) ≡ to + length first = omega arith in
          let taken : slice from (i + 1) es ≡ slice from i es ++ (e ∷ []) = slice_more from i es d s (omega arith) ∙ ap (λ a. slice from i es ++ (a ∷ [])) (sym x) in
          let marked : first ++ marks (meaning e ∷ []) ≡ marks (map meaning (slice from (i + 1) es)) =
          sym (marks_append (map meaning (slice from i es)) (meaning e ∷ [])) ∙ ap marks (sym (map_append (slice from i es) (e ∷ [])) ∙ ap (map meaning) (sym taken)) in
          record {
            started = omega arith;
            within = omega arith;
            fits = p.fits;
            places = k;
            stand =
                z
                ∙ (ap₂ (λ j m. placed j (marks (meaning e ∷ [])) m) place p.stand
                ∙ (placed_behind to first (marks (meaning e ∷ [])) before (omega arith)
                ∙ ap (λ m. placed to m before) marked));
          }

  pub putting_done : l.count ≤ i → after ≡ placed to (marks (elements_from l from)) before
  unfolding elements_from
  putting_done h = let e : i ≡ l.count = omega (arith, p.within) in p.stand ∙ ap (λ j. placed to (marks (map meaning (slice from j l.elements))) before) e

-- A line's bytes, cut at its counts.
pub line_cut : (l : List ℕ) → length l ≡ line_bytes
    → (c : ℕ) × (mid : List ℕ) × (r : ℕ) × (drop variable_count l ≡ c ∷ (mid ++ (r ∷ []))) × (length mid ≡ 2 * max_elements)
line_cut l h =
    let behind = drop first_element l in
    let e : drop variable_count l ≡ get_or l variable_count 0 ∷ behind = drop-cons l variable_count 0 (omega arith) in
    let n = length-drop first_element l in
    let mid = take (2 * max_elements) behind in
    let m : length mid ≡ 2 * max_elements = length-take-le (2 * max_elements) behind (omega arith) in
    let d : drop (2 * max_elements) behind ≡ drop reduced_place l = drop-drop (2 * max_elements) first_element l in
    let last : drop reduced_place l ≡ get_or l reduced_place 0 ∷ drop line_bytes l = drop-cons l reduced_place 0 (omega arith) in
    let none : drop line_bytes l ≡ [] = drop_of_length-le l {i = line_bytes} (omega arith) in
    (get_or l variable_count 0, mid, get_or l reduced_place 0, e ∙ ap (get_or l variable_count 0 ∷◌) (sym (take-append-drop (2 * max_elements) behind) ∙ ap (mid ++◌) (d ∙ (last ∙ ap (get_or l reduced_place 0 ∷◌) none))), m)

-- All its elements can be put.
pub written_elements : (l : LineValue) → Writable l → (bytes : List ℕ) → length bytes ≡ line_bytes → ElementsFit l 0 first_element bytes
unfolding resting_of elements_from
written_elements l w bytes h = record { few = w.few; within = omega arith; markable = w.markable; room = omega (arith, w.few) }

-- The whole line, from what its parts' writing gives.
module _ (l : LineValue) (slots : length l.bindings ≡ variable_count) (places : length l.elements ≡ max_elements) (few : l.count ≤ max_elements) (fresh : l.reduced ≡ 0) where
  pub line_written : (before bound counted marked after : List ℕ) (from : ℕ) → length before ≡ line_bytes → bound ≡ set (placed 0 l.bindings before) (0 + reduced_place) 0
      → counted ≡ set bound count_place l.count → marked ≡ placed first_element (marks (elements_from l 0)) counted → from ≡ first_element + 2 * l.count
      → after ≡ placed from (replicate (record_bytes - from) no_position) marked → after ≡ resting_bytes (resting_of l)
  unfolding resting_of elements_from resting_bytes padding placed
  line_written before bound counted marked after from w b c m f a =
      let bs = l.bindings in
      let n = l.count in
      let es = (resting_of l).elements in
      let k : length es ≡ n = length-map (take n l.elements) meaning ∙ length-take-le n l.elements (omega arith) in
      let (c₀, mid, r₀, cut, long) = line_cut before w in
      let opened : placed 0 bs before ≡ bs ++ (c₀ ∷ (mid ++ (r₀ ∷ []))) = ap (bs ++◌) (ap (λ i. drop i before) (zero-add (length bs) ∙ slots) ∙ cut) in
      let swap : counted ≡ set (set (placed 0 bs before) count_place n) reduced_place 0 =
      c ∙ (ap (λ x. set x count_place n) b ∙ set_comm (placed 0 bs before) reduced_place count_place 0 n (λ z. omega arith)) in
      let d : counted ≡ bs ++ (n ∷ (mid ++ (0 ∷ []))) = swap ∙ (ap (λ x. set (set x count_place n) reduced_place 0) opened ∙ counts_set bs c₀ r₀ n 0 mid slots long) in
      let front = bs ++ (n ∷ []) in
      let seat : length front ≡ first_element = omega (arith, length-append bs (n ∷ [])) in
      let apart : bs ++ (n ∷ (mid ++ (0 ∷ []))) ≡ front ++ (mid ++ (0 ∷ [])) = sym (append_assoc bs (n ∷ []) (mid ++ (0 ∷ []))) in
      let fill : List ℕ = replicate (record_bytes - from) no_position in
      let lm = length_marks es in
      let lf = length-replicate {A = ℕ} (record_bytes - from) no_position in
      let seam : from ≡ first_element + length (marks es) = omega arith in
      let lp : length (marks es ++ fill) ≡ length mid = omega (arith, length-append (marks es) fill) in
      let room : first_element ≤ length (front ++ (mid ++ (0 ∷ []))) = omega (arith, length-append front (mid ++ (0 ∷ []))) in
      let same : record_bytes - from ≡ 2 * (max_elements - length es) = omega arith in
      a
      ∙ (ap₂ (λ j x. placed j fill x) seam (m ∙ ap (placed first_element (marks es)) (d ∙ apart))
      ∙ (placed_behind first_element (marks es) fill (front ++ (mid ++ (0 ∷ []))) room
      ∙ (placed_over first_element front mid (marks es ++ fill) (0 ∷ []) seat lp
      ∙ (append_assoc bs (n ∷ []) ((marks es ++ fill) ++ (0 ∷ []))
      ∙ (ap (λ x. bs ++ (n ∷ x)) (append_assoc (marks es) fill (0 ∷ []))
      ∙ (ap₂ (λ j x. bs ++ (j ∷ (marks es ++ (replicate x no_position ++ (0 ∷ []))))) (sym k) same
      ∙ ap (λ r. bs ++ (length es ∷ (marks es ++ (padding (length es) ++ (r ∷ []))))) (sym fresh)))))))
