-- The laws of bytes that are moved within a line.
use Prim.Native.Nat.{ℕ, zero, suc, ◌+◌, ◌-◌, ◌*◌, ◌≤◌, ◌<◌}
use mathlib.Core.Path.{◌≡◌, refl, sym, ap, ◌∙◌}
use mathlib.Core.List.{List, [], ◌∷◌, ◌++◌, append_assoc}
use lib.ListN.{length, get_or, set, take, drop, length-append, length-set}
use lib.Seq.{slice, slice_empty, slice-cons, length-slice, length-take-le, take-suc-set, take-set-le, take-set-lt, drop-set-lt, drop-cons, get_or-set_same, take-append-add, drop-append-add}
use native.Mathlib.Omega.{arith}
use Rattle.format.specs.Limits.{no_position}
use Rattle.line_bytes.specs.ForContracts.Layout.{placed}
use Rattle.line_bytes.specs.ForContracts.Room.{Gap, rest_after, Shifted}
use Rattle.line_bytes.specs.Theory.Placed.{placed_none, slice_suc}
use Rattle.line_bytes.specs.Theory.Shifted.{head_cut, head_length, part_cut, shifted_left}

-- The first byte of a part is put first, or the last one last.
pub placed_first : (t a : ℕ) (part l : List ℕ) → t < length l → placed (suc t) part (set l t a) ≡ placed t (a ∷ part) l
unfolding placed
placed_first t a part l h =
    let e : suc t + length part ≡ t + suc (length part) = omega arith in
    ap (◌++ (part ++ drop (suc t + length part) (set l t a))) (take-suc-set l t a h)
    ∙ (append_assoc (take t l) (a ∷ []) (part ++ drop (suc t + length part) (set l t a))
    ∙ (ap (λ r. take t l ++ (a ∷ (part ++ r))) (drop-set-lt (suc t + length part) l t a (omega arith))
    ∙ ap (λ n. take t l ++ (a ∷ (part ++ drop n l))) e))

pub placed_last : (t a i : ℕ) (part l : List ℕ) → i ≡ t + length part → i < length l → placed t part (set l i a) ≡ placed t (part ++ (a ∷ [])) l
unfolding placed
placed_last t a i part l e h =
    let w = length-append part (a ∷ []) in
    let f : suc i ≡ t + length (part ++ (a ∷ [])) = omega arith in
    let m : i < length (set l i a) = omega (arith, length-set l i a) in
    let back : drop (t + length part) (set l i a) ≡ a ∷ drop (t + length (part ++ (a ∷ []))) l =
    ap (λ n. drop n (set l i a)) (sym e)
    ∙ (drop-cons (set l i a) i 0 m
    ∙ (ap (λ x. x ∷ drop (suc i) (set l i a)) (get_or-set_same l i a 0 h)
    ∙ (ap (a ∷◌) (drop-set-lt (suc i) l i a (omega arith))
    ∙ ap (λ n. a ∷ drop n l) f))) in
    ap (λ r. r ++ (part ++ drop (t + length part) (set l i a))) (take-set-le t l i a (omega arith))
    ∙ (ap (λ r. take t l ++ (part ++ r)) back
    ∙ ap (take t l ++◌) (sym (append_assoc part (a ∷ []) (drop (t + length (part ++ (a ∷ []))) l))))

slice_set_before : (f t i a : ℕ) (l : List ℕ) → i < f → i < t → slice f t (set l i a) ≡ slice f t l
slice_set_before f t i a l h k = ap (drop f) (take-set-lt t l i a k) ∙ drop-set-lt f (take t l) i a h

slice_set_behind : (f t i a : ℕ) (l : List ℕ) → t ≤ i → slice f t (set l i a) ≡ slice f t l
slice_set_behind f t i a l h = ap (drop f) (take-set-le t l i a h)

-- The bytes from `i` on are still to be moved to the left.
pub record ShiftingLeft (from end by : ℕ) (before : List ℕ) (i : ℕ) (line : List ℕ) : Type 0 where
  pub low : by ≤ i
  pub within : i ≤ end
  pub inside : end ≤ length line
  pub kept : length line ≡ length before
  pub rest : placed (i - by) (slice i end line) line ≡ placed (from - by) (slice from end before) before

pub left_start : (from end by : ℕ) (line : List ℕ) → by ≤ from → from ≤ end → end ≤ length line → ShiftingLeft from end by line from line
left_start from end by line a b c = record { low = a; within = b; inside = c; kept = refl; rest = refl }

pub left_next : {from end by i : ℕ} {before line : List ℕ} → ShiftingLeft from end by before i line → i < end → ShiftingLeft from end by before (i + 1) (set line (i - by) (get_or line i 0))
left_next {end = end} {by = by} {i = i} {line = line} s h =
    let a = get_or line i 0 in
    let t = i - by in
    let low = s.low in
    let inside = s.inside in
    let j : i + 1 - by ≡ suc t = omega arith in
    let m : i + 1 ≡ suc i = omega arith in
    let l = length-set line t a in
    record {
      low = omega arith;
      within = omega arith;
      inside = omega arith;
      kept = l ∙ s.kept;
      rest =
          ap (λ n. placed n (slice (i + 1) end (set line t a)) (set line t a)) j
          ∙ (ap (λ n. placed (suc t) (slice n end (set line t a)) (set line t a)) m
          ∙ (ap (λ r. placed (suc t) r (set line t a)) (slice_set_before (suc i) end t a line (omega arith) (omega arith))
          ∙ (placed_first t a (slice (suc i) end line) line (omega arith)
          ∙ (ap (λ r. placed t r line) (sym (slice-cons i end line 0 h inside)) ∙ s.rest))));
    }

pub left_done : {from end by i : ℕ} {before line : List ℕ} → ShiftingLeft from end by before i line → end ≤ i → line ≡ placed (from - by) (slice from end before) before
left_done {end = end} {by = by} {i = i} {line = line} s h =
    let e : i ≡ end = omega (arith, s.within) in
    sym (placed_none (i - by) line) ∙ (ap (λ r. placed (i - by) r line) (sym (slice_empty i line)) ∙ (ap (λ n. placed (i - by) (slice i n line) line) e ∙ s.rest))

-- The bytes up to `i` are still to be moved to the right.
pub record ShiftingRight (from end by : ℕ) (before : List ℕ) (i : ℕ) (line : List ℕ) : Type 0 where
  pub within : from ≤ i
  pub inside : i + by ≤ length line
  pub kept : length line ≡ length before
  pub rest : placed (from + by) (slice from i line) line ≡ placed (from + by) (slice from end before) before

pub right_start : (from end by : ℕ) (line : List ℕ) → from ≤ end → end + by ≤ length line → ShiftingRight from end by line end line
right_start from end by line a b = record { within = a; inside = b; kept = refl; rest = refl }

pub right_next : {from end by i : ℕ} {before line : List ℕ} → ShiftingRight from end by before i line → from < i
    → ShiftingRight from end by before (i - 1) (set line (i - 1 + by) (get_or line (i - 1) 0))
right_next {from = from} {by = by} {i = i} {line = line} s h =
    let j = i - 1 in
    let a = get_or line j 0 in
    let inside = s.inside in
    let l = length-set line (j + by) a in
    let m : i ≡ suc j = omega arith in
    let part = slice from j line in
    let w = length-slice from j line (omega arith) in
    record {
      within = omega arith;
      inside = omega arith;
      kept = l ∙ s.kept;
      rest =
          ap (λ r. placed (from + by) r (set line (j + by) a)) (slice_set_behind from j (j + by) a line (omega arith))
          ∙ (placed_last (from + by) a (j + by) part line (omega arith) (omega arith)
          ∙ (ap (λ r. placed (from + by) r line) (sym (slice_suc from j line (omega arith) (omega arith)))
          ∙ (ap (λ n. placed (from + by) (slice from n line) line) (sym m) ∙ s.rest)));
    }

pub right_done : {from end by i : ℕ} {before line : List ℕ} → ShiftingRight from end by before i line → i ≤ from → line ≡ placed (from + by) (slice from end before) before
right_done {from = from} {by = by} {i = i} {line = line} s h =
    let e : i ≡ from = omega (arith, s.within) in
    sym (placed_none (from + by) line)
    ∙ (ap (λ r. placed (from + by) r line) (sym (slice_empty from line)) ∙ (ap (λ n. placed (from + by) (slice from n line) line) (sym e) ∙ s.rest))

-- What the shifts make of a line, cut around the part that moves.
module _ (from end : ℕ) (before : List ℕ) (front pair part rest : List ℕ) (f : length front + 2 ≡ from) (g : length pair ≡ 2) (h : from + length part ≡ end)
    (cut : before ≡ front ++ (pair ++ (part ++ rest))) where
  -- The part moved to the right: what stood in its way becomes room.
  pub shifted_right : (n : ℕ) (after : List ℕ) → end + 2 * n ≤ length before → after ≡ placed (from + 2 * n) (slice from end before) before
      → Gap after front (suc n) (part ++ drop (2 * n) rest)
  unfolding placed
  shifted_right n after k e =
      let b = 2 * n in
      let head = front ++ pair in
      let tail = part ++ rest in
      let w : length before ≡ from + length tail = ap length (head_cut from end before front pair part rest f g h cut) ∙ (length-append head tail ∙ ap (◌+ length tail) (head_length from end before front pair part rest f g h cut)) in
      let room : length (take b tail) ≡ b = length-take-le b tail (omega arith) in
      let front_part : take (from + b) before ≡ front ++ (pair ++ take b tail) =
      ap (take (from + b)) (head_cut from end before front pair part rest f g h cut)
      ∙ (ap (λ i. take (i + b) (head ++ tail)) (sym (head_length from end before front pair part rest f g h cut)) ∙ (take-append-add head tail b ∙ append_assoc front pair (take b tail))) in
      let o : from + b + length part ≡ length head + (length part + b) = omega (arith, head_length from end before front pair part rest f g h cut) in
      let back_part : drop (from + b + length part) before ≡ drop b rest =
      ap (λ i. drop i before) o
      ∙ (ap (drop (length head + (length part + b))) (head_cut from end before front pair part rest f g h cut) ∙ (drop-append-add head tail (length part + b) ∙ drop-append-add part rest b)) in
      let is : placed (from + b) part before ≡ front ++ ((pair ++ take b tail) ++ (part ++ drop b rest)) =
      ap (◌++ (part ++ drop (from + b + length part) before)) front_part
      ∙ (ap (λ l. (front ++ (pair ++ take b tail)) ++ (part ++ l)) back_part ∙ append_assoc front (pair ++ take b tail) (part ++ drop b rest)) in
      record { gap = pair ++ take b tail; is = e ∙ (ap (λ l. placed (from + b) l before) (part_cut from end before front pair part rest f g h cut) ∙ is); room = omega (arith, length-append pair (take b tail)) }

module _ (from end : ℕ) (before : List ℕ) where
  pub shift_none : (n : ℕ) → n ≡ 1 → Shifted from end n before before
  unfolding rest_after
  shift_none n o = rw o (record { moves = λ front pair part rest f g h cut. record { gap = pair; is = cut; room = g } })

  pub shift_left : (n : ℕ) (shifted after : List ℕ) → n ≡ 0 → shifted ≡ placed (from - 2) (slice from end before) before → after ≡ set (set shifted (end - 2) no_position) (end - 2 + 1) no_position
      → Shifted from end n before after
  unfolding rest_after
  shift_left n shifted after z e d =
      rw z (record { moves = λ front pair part rest f g h cut. record { gap = []; is = shifted_left from end before front pair part rest f g h cut shifted after e d; room = refl } })

  pub shift_right : (n by : ℕ) (after : List ℕ) → (n ≡ 0 → ⊥) → by ≡ 2 * (n - 1) → end + 2 * n ≤ length before + 2 → after ≡ placed (from + by) (slice from end before) before
      → Shifted from end n before after
  unfolding rest_after
  shift_right zero by after z b k e = absurd (z refl)
  shift_right (suc n) by after z b k e =
      let c : by ≡ 2 * n = omega arith in
      record { moves = λ front pair part rest f g h cut. shifted_right from end before front pair part rest f g h cut n after (omega arith) (e ∙ ap (λ i. placed (from + i) (slice from end before) before) c) }
