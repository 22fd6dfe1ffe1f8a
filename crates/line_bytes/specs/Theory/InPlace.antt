-- A line that rests in the memory of the walk: changed there byte by byte.
use Rattle.std.specs.Prelude.{ℕ, ◌+◌, ◌*◌, ◌≤◌, ◌≡◌, refl, List, [], ◌∷◌, ◌++◌, length, set, take, drop}
use Rattle.std.proofs.Common.{sym, ap, ap₂, ◌∙◌, append_assoc, length-append, length-drop, take-append-drop, length-take-le, take_at, drop_at, drop-drop, take-add, add-zero, arith}
use Rattle.std.proofs.lemmas.List.{length-replicate, set_at, drop-append-le}
use Rattle.std.proofs.Math.Seq.{slice, take-append-add, drop-append-add}
use Rattle.format.specs.Limits.{variable_count, max_elements}
use Rattle.line_bytes.specs.ForContracts.Layout.{count_place, reduced_place, line_bytes, placed}
use Rattle.line_bytes.specs.ForContracts.Room.{lines_bytes}
use Rattle.line_bytes.specs.ForContracts.Resting.{marks, padding, RestingLine, resting_bytes}
use Rattle.line_bytes.specs.Theory.Placed.{set_placed}
use Rattle.line_bytes.specs.Theory.Resting.{length_marks, length_resting}

-- A part of a buffer, by what is in front of it and how long it is.
pub slice_is : (f n : ℕ) (l : List ℕ) → f ≤ length l → slice f (f + n) l ≡ take n (drop f l)
slice_is f n l h = ap (drop f) (take-add f n l) ∙ drop_at (take f l) (take n (drop f l)) f (length-take-le f l h)

-- What stands there already, placed.
pub placed_same : (at n : ℕ) (part buffer : List ℕ) → at + n ≤ length buffer → length part ≡ n → slice at (at + n) buffer ≡ part → placed at part buffer ≡ buffer
unfolding placed
placed_same at n part buffer h l e =
    let f : take n (drop at buffer) ≡ part = sym (slice_is at n buffer (omega arith)) ∙ e in
    let d : drop (at + length part) buffer ≡ drop n (drop at buffer) = ap (λ k. drop (at + k) buffer) l ∙ sym (drop-drop n at buffer) in
    ap (λ r. take at buffer ++ (part ++ r)) d
    ∙ (ap (λ r. take at buffer ++ (r ++ drop n (drop at buffer))) (sym f)
    ∙ (ap (take at buffer ++◌) (take-append-drop n (drop at buffer)) ∙ take-append-drop at buffer))

-- A part over another part of the same length.
pub placed_over : (at : ℕ) (front mid part back : List ℕ) → length front ≡ at → length part ≡ length mid → placed at part (front ++ (mid ++ back)) ≡ front ++ (part ++ back)
unfolding placed
placed_over at front mid part back e d =
    let k : at + length part ≡ length front + length mid = omega arith in
    ap₂ (λ a b. a ++ (part ++ b)) (take_at front (mid ++ back) at e)
    (ap (λ n. drop n (front ++ (mid ++ back))) k ∙ (drop-append-add front (mid ++ back) (length mid) ∙ drop_at mid back (length mid) refl))

-- A part placed within what was placed.
pub placed_inside : (to i : ℕ) (x part buffer : List ℕ) → to ≤ length buffer → i + length x ≤ length part → placed (to + i) x (placed to part buffer) ≡ placed to (placed i x part) buffer
unfolding placed
placed_inside to i x part buffer h k =
    let front = take to buffer in
    let rest = drop (to + length part) buffer in
    let l : length front ≡ to = length-take-le to buffer h in
    let a : take (to + i) (front ++ (part ++ rest)) ≡ front ++ take i part =
    ap (λ n. take (n + i) (front ++ (part ++ rest))) (sym l) ∙ (take-append-add front (part ++ rest) i ∙ ap (front ++◌) (take_front i part rest (omega arith))) in
    let m : to + i + length x ≡ length front + (i + length x) = omega arith in
    let b : drop (to + i + length x) (front ++ (part ++ rest)) ≡ drop (i + length x) part ++ rest =
    ap (λ n. drop n (front ++ (part ++ rest))) m ∙ (drop-append-add front (part ++ rest) (i + length x) ∙ drop-append-le (i + length x) part rest k) in
    let new = take i part ++ (x ++ drop (i + length x) part) in
    let n : length new ≡ length part = length_new in
    ap₂ (λ p q. p ++ (x ++ q)) a b
    ∙ (simp append_assoc (ap (λ j. front ++ (take i part ++ (x ++ (drop (i + length x) part ++ drop (to + j) buffer)))) (sym n)))
  where
    take_front : (i : ℕ) (xs ys : List ℕ) → i ≤ length xs → take i (xs ++ ys) ≡ take i xs
    take_front i xs ys h =
        let d : take i xs ++ (drop i xs ++ ys) ≡ xs ++ ys = sym (append_assoc (take i xs) (drop i xs) ys) ∙ ap (◌++ ys) (take-append-drop i xs) in
        ap (take i) (sym d) ∙ take_at (take i xs) (drop i xs ++ ys) i (length-take-le i xs h)

    length_new : length (take i part ++ (x ++ drop (i + length x) part)) ≡ length part
    length_new = simp length-append (omega (arith, length-take-le i part (omega arith), length-drop (i + length x) part))

-- A line's bytes with other counts.
pub counts_set : (bs : List ℕ) (c r c' r' : ℕ) (mid : List ℕ) → length bs ≡ variable_count → length mid ≡ 2 * max_elements
    → set (set (bs ++ (c ∷ (mid ++ (r ∷ [])))) count_place c') reduced_place r' ≡ bs ++ (c' ∷ (mid ++ (r' ∷ [])))
counts_set bs c r c' r' mid h k =
    let l : length (bs ++ (c' ∷ mid)) ≡ reduced_place = omega (arith, length-append bs (c' ∷ mid)) in
    ap (λ b. set b reduced_place r') (set_at bs c (mid ++ (r ∷ [])) c' count_place h ∙ sym (append_assoc bs (c' ∷ mid) (r ∷ [])))
    ∙ (set_at (bs ++ (c' ∷ mid)) r [] r' reduced_place l ∙ append_assoc bs (c' ∷ mid) (r' ∷ []))

-- A line's bytes between the two counts.
pub resting_mid : (l : RestingLine) → resting_bytes l ≡ l.bindings ++ (length l.elements ∷ ((marks l.elements ++ padding (length l.elements)) ++ (l.reduced ∷ [])))
unfolding resting_bytes
resting_mid l = simp append_assoc

pub length_mid : (l : RestingLine) → length l.elements ≤ max_elements → length (marks l.elements ++ padding (length l.elements)) ≡ 2 * max_elements
unfolding padding
length_mid l h = length-append (marks l.elements) _ ∙ simp length-replicate (omega (arith, length_marks l.elements))

-- Other bindings, and no element known to be fully reduced.
pub rebound : (place : ℕ) (bs : List ℕ) (l : RestingLine) (memory : List ℕ) → place + line_bytes ≤ length memory → length l.bindings ≡ variable_count → length l.elements ≤ max_elements
    → length bs ≡ variable_count
    → set (placed place bs (placed place (resting_bytes l) memory)) (place + reduced_place) 0 ≡ placed place (resting_bytes (record { bindings = bs; elements = l.elements; reduced = 0 })) memory
unfolding placed
rebound place bs l memory h slots few w =
    let n = length_resting l slots few in
    let es = l.elements in
    let mid = marks es ++ padding (length es) in
    let new : placed 0 bs (resting_bytes l) ≡ bs ++ (length es ∷ (mid ++ (l.reduced ∷ []))) =
    ap (placed 0 bs) (resting_mid l) ∙ placed_over 0 [] l.bindings bs (length es ∷ (mid ++ (l.reduced ∷ []))) refl (w ∙ sym slots) in
    let m : length (placed 0 bs (resting_bytes l)) ≡ line_bytes =
    ap length new ∙ (length-append bs _ ∙ omega (arith, length-append mid (l.reduced ∷ []), length_mid l few)) in
    ap (λ b. set b (place + reduced_place) 0)
    (ap (λ i. placed i bs (placed place (resting_bytes l) memory)) (sym (add-zero place)) ∙ placed_inside place 0 bs (resting_bytes l) memory (omega arith) (omega arith))
    ∙ (set_placed place (placed 0 bs (resting_bytes l)) memory reduced_place 0 (omega arith) (omega arith)
    ∙ ap (λ part. placed place part memory)
    (ap (λ b. set b reduced_place 0) new ∙ (last_set ∙ sym (resting_mid (record { bindings = bs; elements = es; reduced = 0 })))))
  where
    last_set : set (bs ++ (length l.elements ∷ ((marks l.elements ++ padding (length l.elements)) ++ (l.reduced ∷ [])))) reduced_place 0
        ≡ bs ++ (length l.elements ∷ ((marks l.elements ++ padding (length l.elements)) ++ (0 ∷ [])))
    last_set =
        let mid = marks l.elements ++ padding (length l.elements) in
        let e : length (bs ++ (length l.elements ∷ mid)) ≡ reduced_place = omega (arith, length-append bs (length l.elements ∷ mid), length_mid l few) in
        ap (λ b. set b reduced_place 0) (sym (append_assoc bs (length l.elements ∷ mid) (l.reduced ∷ [])))
        ∙ (set_at (bs ++ (length l.elements ∷ mid)) l.reduced [] 0 reduced_place e ∙ append_assoc bs (length l.elements ∷ mid) (0 ∷ []))

-- The bytes of lines, one behind the other.
pub lines_append : (xs ys : List RestingLine) → lines_bytes (xs ++ ys) ≡ lines_bytes xs ++ lines_bytes ys
unfolding lines_bytes
lines_append [] ys = refl
lines_append (l ∷ xs) ys = ap (resting_bytes l ++◌) (lines_append xs ys) ∙ sym (append_assoc (resting_bytes l) (lines_bytes xs) (lines_bytes ys))
