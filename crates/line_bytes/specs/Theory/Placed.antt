-- The laws of lines' bytes in the memory of the walk: copied from it, and put into it one behind the other.
use Rattle.std.specs.Prelude.{ℕ, suc, ◌+◌, ◌-◌, ◌*◌, ◌≤◌, ◌<◌, ◌≡◌, refl, List, [], ◌∷◌, ◌++◌, length, get_or, set, take, drop}
use Rattle.std.proofs.Common.{sym, ap, ◌∙◌, append_assoc, length-drop, length-append, length-set, take-append-drop, length-take-le, take-suc, take-suc-set, take_all, take_at, drop_at, drop-drop, add-zero, zero-add, suc-add, add-one, arith}
use borrow.Rule.Slice.PartMut.{put_mid}
use Rattle.std.proofs.Math.Seq.{slice, slice_empty, paste, paste-zero, paste-suc, drop-append-add}
use Rattle.std.proofs.lemmas.List.Edits.{length-paste}
use Rattle.std.proofs.lemmas.List.{drop-append-le, set-append_left, set_at}
use Rattle.format.specs.Theory.Parts.{part_slice}
use Rattle.line_bytes.specs.ForContracts.Layout.{line_bytes, placed}
use Rattle.line_bytes.specs.ForContracts.Room.{Gap}

-- One more element of a part.
pub slice_suc : (f t : ℕ) (l : List ℕ) → f ≤ t → t < length l → slice f (suc t) l ≡ slice f t l ++ (get_or l t 0 ∷ [])
slice_suc f t l h k =
    let e = length-take-le t l (omega arith) in
    ap (drop f) (take-suc l t 0 k) ∙ drop-append-le f (take t l) (get_or l t 0 ∷ []) (omega arith)

pub placed_length : (at : ℕ) (part buffer : List ℕ) → at + length part ≤ length buffer → length (placed at part buffer) ≡ length buffer
unfolding placed
placed_length at part buffer h =
    simp (length-append) (omega (arith, length-take-le at buffer (omega arith), length-drop (at + length part) buffer))

pub placed_none : (at : ℕ) (buffer : List ℕ) → placed at [] buffer ≡ buffer
unfolding placed
placed_none at buffer = ap (λ n. take at buffer ++ drop n buffer) (add-zero at) ∙ take-append-drop at buffer

-- A part of the buffer that was written over.
pub part_placed : (at n : ℕ) (now part buffer : List ℕ) → now ≡ part → n ≡ length part → put_mid at n buffer now ≡ placed at part buffer
unfolding placed
part_placed at n now part buffer e h = ap (λ r. take at buffer ++ (r ++ drop n (drop at buffer))) e ∙ ap (λ r. take at buffer ++ (part ++ r)) (drop-drop n at buffer ∙ ap (λ k. drop (at + k) buffer) h)

-- A part, and another one behind it.
pub placed_behind : (at : ℕ) (a b buffer : List ℕ) → at ≤ length buffer → placed (at + length a) b (placed at a buffer) ≡ placed at (a ++ b) buffer
unfolding placed
placed_behind at a b buffer h =
    let front = take at buffer in
    let rest = drop (at + length a) buffer in
    let whole : front ++ (a ++ rest) ≡ (front ++ a) ++ rest = sym (append_assoc front a rest) in
    let seam : length (front ++ a) ≡ at + length a = length-append front a ∙ ap (◌+ length a) (length-take-le at buffer h) in
    let before : take (at + length a) (front ++ (a ++ rest)) ≡ front ++ a = ap (take (at + length a)) whole ∙ take_at (front ++ a) rest (at + length a) seam in
    let further : at + length a + length b ≡ at + length (a ++ b) = omega (arith, length-append a b) in
    let behind : drop (at + length a + length b) (front ++ (a ++ rest)) ≡ drop (at + length (a ++ b)) buffer =
    ap (drop (at + length a + length b)) whole
    ∙ (sym (drop-drop (length b) (at + length a) ((front ++ a) ++ rest))
    ∙ (ap (drop (length b)) (drop_at (front ++ a) rest (at + length a) seam)
    ∙ (drop-drop (length b) (at + length a) buffer
    ∙ ap (λ n. drop n buffer) further))) in
    rw (before, behind, append_assoc, append_assoc)

-- A store into what was placed.
pub set_append_add : (xs ys : List ℕ) (i a : ℕ) → set (xs ++ ys) (length xs + i) a ≡ xs ++ set ys i a
set_append_add [] ys i a = ap (λ n. set ys n a) (zero-add i)
set_append_add (x ∷ xs) ys i a = ap (λ n. set (x ∷ (xs ++ ys)) n a) (suc-add (length xs) i) ∙ ap (x ∷◌) (set_append_add xs ys i a)

pub set_placed : (to : ℕ) (part buffer : List ℕ) (i a : ℕ) → to ≤ length buffer → i < length part → set (placed to part buffer) (to + i) a ≡ placed to (set part i a) buffer
unfolding placed
set_placed to part buffer i a h k =
    let front = take to buffer in
    let rest = drop (to + length part) buffer in
    let l = length-take-le to buffer h in
    ap (λ n. set (front ++ (part ++ rest)) (n + i) a) (sym l)
    ∙ (set_append_add front (part ++ rest) i a
    ∙ (ap (front ++◌) (set-append_left part rest i a k)
    ∙ ap (λ n. front ++ (set part i a ++ drop (to + n) buffer)) (sym (length-set part i a))))

pub placed_with : (to at a b : ℕ) (line records stored after : List ℕ) → to + line_bytes ≤ length records → length line ≡ line_bytes → at + 2 ≤ line_bytes
    → stored ≡ placed to line records → after ≡ set (set stored (to + at) a) (to + at + 1) b → after ≡ placed to (set (set line at a) (at + 1) b) records
placed_with to at a b line records stored after h w k e f =
    let m = length-set line at a in
    let j : to + at + 1 ≡ to + (at + 1) = omega arith in
    f
    ∙ (ap (λ l. set (set l (to + at) a) (to + at + 1) b) e
    ∙ (ap (λ l. set l (to + at + 1) b) (set_placed to line records at a (omega arith) (omega arith))
    ∙ (ap (λ n. set (placed to (set line at a) records) n b) j
    ∙ set_placed to (set line at a) records (at + 1) b (omega arith) (omega arith))))

-- Two bytes in the place of two.
pub set_pair : (front : List ℕ) (x y a b : ℕ) (back : List ℕ) (at : ℕ) → length front ≡ at → set (set (front ++ (x ∷ y ∷ back)) at a) (at + 1) b ≡ front ++ (a ∷ b ∷ back)
set_pair front x y a b back at e =
    let l : length (front ++ (a ∷ [])) ≡ at + 1 = length-append front (a ∷ []) ∙ ap (◌+ 1) e in
    ap (λ l. set l (at + 1) b) (set_at front x (y ∷ back) a at e)
    ∙ (ap (λ l. set l (at + 1) b) (sym (append_assoc front (a ∷ []) (y ∷ back)))
    ∙ (set_at (front ++ (a ∷ [])) y back b (at + 1) l
    ∙ append_assoc front (a ∷ []) (b ∷ back)))

-- The room of one element has two bytes, and no room has none.
pub two_bytes : (gap : List ℕ) (n : ℕ) → length gap ≡ 2 * suc n → (x : ℕ) × (y : ℕ) × (rest : List ℕ) × (gap ≡ x ∷ y ∷ rest) × (length rest ≡ 2 * n)
two_bytes [] n h = absurd (omega arith)
two_bytes (x ∷ []) n h = absurd (omega arith)
two_bytes (x ∷ y ∷ rest) n h = (x, y, rest, refl, omega arith)

pub no_bytes : (gap : List ℕ) → length gap ≡ 0 → gap ≡ []
no_bytes [] h = refl
no_bytes (x ∷ gap) h = absurd (omega arith)

-- The line with two bytes in its room for one element.
pub gap_filled : {line front back : List ℕ} {at : ℕ} (a b : ℕ) → length front ≡ at → Gap line front 1 back → set (set line at a) (at + 1) b ≡ front ++ (a ∷ b ∷ back)
gap_filled {front = front} {back = back} {at = at} a b e g =
    let (x, y, rest, h, l) = two_bytes g.gap 0 g.room in
    let n = no_bytes rest l in
    let i : g.gap ++ back ≡ x ∷ y ∷ back = ap (◌++ back) h ∙ ap (λ r. x ∷ y ∷ (r ++ back)) n in
    ap (λ l. set (set l at a) (at + 1) b) (g.is ∙ ap (front ++◌) i) ∙ set_pair front x y a b back at e

-- Bytes are copied from the memory, of `n` the first `i` so far.
pub record Loading (n : ℕ) (records : List ℕ) (at : ℕ) (before line : List ℕ) (i : ℕ) : Type 0 where
  pub within : i ≤ n
  pub room : at + n ≤ length records
  pub whole : length line ≡ n
  pub kept : length line ≡ length before
  pub copied : take i line ≡ slice at (at + i) records

pub loading_start : (n : ℕ) (records : List ℕ) (at : ℕ) (line : List ℕ) → at + n ≤ length records → length line ≡ n → Loading n records at line line 0
loading_start n records at line h w =
    record { within = omega arith; room = h; whole = w; kept = refl; copied = sym (ap (λ n. slice at n records) (add-zero at) ∙ slice_empty at records) }

pub loading_next : {n : ℕ} {records before line : List ℕ} {at i : ℕ} → Loading n records at before line i → i < n
    → Loading n records at before (set line i (get_or records (at + i) 0)) (i + 1)
loading_next {records = records} {line = line} {at = at} {i = i} l h =
    let x = get_or records (at + i) 0 in
    let m = length-set line i x in
    let w = l.whole in
    let r = l.room in
    let e : suc (at + i) ≡ at + (i + 1) = omega arith in
    record {
      within = omega arith;
      room = r;
      whole = omega arith;
      kept = omega (arith, l.kept);
      copied =
          ap (λ n. take n (set line i x)) (add-one i)
          ∙ (take-suc-set line i x (omega arith)
          ∙ (ap (◌++ (x ∷ [])) l.copied
          ∙ (sym (slice_suc at (at + i) records (omega arith) (omega arith))
          ∙ ap (λ n. slice at n records) e)));
    }

pub loading_done : {n : ℕ} {records before line : List ℕ} {at i : ℕ} → Loading n records at before line i → n ≤ i → line ≡ slice at (at + n) records
loading_done {n = n} {records = records} {line = line} {at = at} {i = i} l h =
    let w = l.whole in
    let e : i ≡ n = omega (arith, l.within) in
    sym (take_all i line (omega arith)) ∙ (l.copied ∙ ap (λ n. slice at (at + n) records) e)

-- Bytes are put into the memory, of `n` the first `i` so far.
pub record Storing (n : ℕ) (line : List ℕ) (at : ℕ) (before records : List ℕ) (i : ℕ) : Type 0 where
  pub within : i ≤ n
  pub room : at + n ≤ length before
  pub whole : length line ≡ n
  pub copied : records ≡ paste before at line i

pub storing_start : (n : ℕ) (line : List ℕ) (at : ℕ) (records : List ℕ) → at + n ≤ length records → length line ≡ n → Storing n line at records records 0
storing_start n line at records h w = record { within = omega arith; room = h; whole = w; copied = paste-zero records at line }

pub storing_length : {n : ℕ} {line before records : List ℕ} {at i : ℕ} → Storing n line at before records i → length records ≡ length before
storing_length {line = line} {before = before} {at = at} {i = i} s =
    let a = s.within in
    let b = s.room in
    let w = s.whole in
    ap length s.copied ∙ length-paste before at line i (omega arith) (omega arith)

pub storing_next : {n : ℕ} {line before records : List ℕ} {at i : ℕ} → Storing n line at before records i → i < n
    → Storing n line at before (set records (at + i) (get_or line i 0)) (i + 1)
storing_next {line = line} {before = before} {records = records} {at = at} {i = i} s h =
    let r = s.room in
    let w = s.whole in
    record {
      within = omega arith;
      room = r;
      whole = w;
      copied =
          ap (λ l. set l (at + i) (get_or line i 0)) s.copied
          ∙ (paste-suc before at line i 0 (omega arith) (omega arith)
          ∙ ap (paste before at line) (sym (add-one i)));
    }

pub storing_done : {n : ℕ} {line before records : List ℕ} {at i : ℕ} → Storing n line at before records i → n ≤ i → records ≡ placed at line before
unfolding placed
storing_done {line = line} {before = before} {at = at} {i = i} s h =
    let w = s.whole in
    let e : i ≡ length line = omega (arith, s.within) in
    s.copied
    ∙ (append_assoc (take at before) (take i line) (drop (at + i) before)
    ∙ (ap (λ l. take at before ++ (l ++ drop (at + i) before)) (take_all i line (omega arith))
    ∙ ap (λ n. take at before ++ (line ++ drop (at + n) before)) e))

-- What stands behind a part that is placed stays.
pub placed_back : (at : ℕ) (part buffer : List ℕ) → at ≤ length buffer → drop at (placed at part buffer) ≡ part ++ drop (at + length part) buffer
unfolding placed
placed_back at part buffer l = drop_at (take at buffer) (part ++ drop (at + length part) buffer) at (length-take-le at buffer l)

pub drop_placed : (k at : ℕ) (part buffer : List ℕ) → at ≤ length buffer → at + length part ≤ k → drop k (placed at part buffer) ≡ drop k buffer
drop_placed k at part buffer l h =
    let j = k - (at + length part) in
    let e : k ≡ at + (length part + j) = omega arith in
    let d : k ≡ at + length part + j = omega arith in
    ap (λ n. drop n (placed at part buffer)) e
    ∙ (sym (drop-drop (length part + j) at (placed at part buffer))
    ∙ (ap (drop (length part + j)) (placed_back at part buffer l)
    ∙ (drop-append-add part (drop (at + length part) buffer) j
    ∙ (drop-drop j (at + length part) buffer ∙ ap (λ n. drop n buffer) (sym d)))))

module _ (at : ℕ) (part buffer : List ℕ) (room : at + length part ≤ length buffer) where
  pub slice_placed : slice at (at + length part) (placed at part buffer) ≡ part
  slice_placed = part_slice at (placed at part buffer) part (drop (at + length part) buffer) (placed_back at part buffer (omega arith)) (omega (arith, placed_length at part buffer room))
