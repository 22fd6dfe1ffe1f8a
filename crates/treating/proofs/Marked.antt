-- The laws of equalities that are marked at every other byte.
use Prim.Native.Nat.{ℕ, suc, ◌+◌, ◌*◌, ◌≤◌, ◌<◌}
use mathlib.Core.Path.{◌≡◌, refl, sym, ap, ◌∙◌}
use mathlib.Core.List.{List, [], ◌∷◌, ◌++◌}
use lib.ListN.{length, get_or, set, length-set}
use lib.Seq.{set_comm}
use native.Mathlib.Omega.{arith}
use Rattle.bindings.specs.ForContracts.PrefixForm.{Row, none, more}
use Rattle.line_bytes.specs.ForContracts.Resting.{equality_mark}
use Rattle.line_bytes.specs.ForContracts.Layout.{placed}
use Rattle.treating.specs.ForContracts.Choices.{marked_equal, EqualFit, MarksEqual}
use Rattle.bindings.specs.Theory.PrefixForm.{row_ordered, row_empty, row_next, row_first_some}
use Rattle.line_bytes.specs.Theory.Placed.{set_placed}

pub length_marked : (ss : List ℕ) (at : ℕ) (l : List ℕ) → length (marked_equal ss at l) ≡ length l
unfolding marked_equal
length_marked [] at l = refl
length_marked (s ∷ ss) at l = length_marked ss (at + 2) (set l at (s + equality_mark)) ∙ length-set l at (s + equality_mark)

pub marked_last : (ss : List ℕ) (s at : ℕ) (l : List ℕ) → marked_equal (ss ++ (s ∷ [])) at l ≡ set (marked_equal ss at l) (at + 2 * length ss) (s + equality_mark)
unfolding marked_equal
marked_last [] s at l = let e : at ≡ at + 2 * 0 = omega arith in ap (λ i. set l i (s + equality_mark)) e
marked_last (t ∷ ss) s at l =
    let e : at + 2 + 2 * length ss ≡ at + 2 * suc (length ss) = omega arith in
    marked_last ss s (at + 2) (set l at (t + equality_mark)) ∙ ap (λ i. set (marked_equal ss (at + 2) (set l at (t + equality_mark))) i (s + equality_mark)) e

-- A store behind the marks.
pub marked_set : (ss : List ℕ) (at i a : ℕ) (l : List ℕ) → at + 2 * length ss ≤ i → marked_equal ss at (set l i a) ≡ set (marked_equal ss at l) i a
unfolding marked_equal
marked_set [] at i a l h = refl
marked_set (s ∷ ss) at i a l h =
    ap (marked_equal ss (at + 2)) (set_comm l i at a (s + equality_mark) (λ e. omega arith)) ∙ marked_set ss (at + 2) i a (set l at (s + equality_mark)) (omega arith)

-- The marks in what was placed.
pub marked_placed : (ss : List ℕ) (at to : ℕ) (part buffer : List ℕ) → to ≤ length buffer → at + 2 * length ss ≤ length part
    → marked_equal ss (to + at) (placed to part buffer) ≡ placed to (marked_equal ss at part) buffer
unfolding marked_equal
marked_placed [] at to part buffer h k = refl
marked_placed (s ∷ ss) at to part buffer h k =
    let e : to + at + 2 ≡ to + (at + 2) = omega arith in
    let l = length-set part at (s + equality_mark) in
    ap (marked_equal ss (to + at + 2)) (set_placed to part buffer at (s + equality_mark) h (omega arith))
    ∙ (ap (λ i. marked_equal ss i (placed to (set part at (s + equality_mark)) buffer)) e ∙ marked_placed ss (at + 2) to (set part at (s + equality_mark)) buffer h (omega arith))

-- A row and the term behind it.
pub row_last : {sizes : List ℕ} {k end : ℕ} {ps : List ℕ} → Row sizes k end ps → 0 < get_or sizes end 0 → Row sizes k (end + get_or sizes end 0) (ps ++ (end ∷ []))
row_last (none e) h = rw e (more h (none refl))
row_last (more l r) h = more l (row_last r h)

module _ (sizes : List ℕ) (end : ℕ) where
  pub equal_done : (k at : ℕ) (bytes : List ℕ) → end ≤ k → MarksEqual sizes at k end bytes bytes
  unfolding marked_equal
  equal_done k at bytes h = record { marks_each = λ ss row. let n = row_empty row h in rw n refl }

  pub equal_next : (k at size place : ℕ) (bytes after : List ℕ) → k < end → size ≡ get_or sizes k 0 → place ≡ at + 2
      → MarksEqual sizes place (k + size) end (set bytes at (k + equality_mark)) after → MarksEqual sizes at k end bytes after
  unfolding marked_equal
  equal_next k at size place bytes after h n j f = record {
    marks_each = λ ss row.
        let (us, x, rest) = row_next row h in
        f.marks_each us (rw n rest) ∙ (ap (λ i. marked_equal us i (set bytes at (k + equality_mark))) j ∙ ap (λ l. marked_equal l at bytes) (sym x));
  }

  pub equal_size : {k at : ℕ} {bytes : List ℕ} → EqualFit sizes at k end bytes → k < end → (0 < get_or sizes k 0) × (k + get_or sizes k 0 ≤ end)
  equal_size f h = let (us, x, rest) = row_next f.row h in (row_first_some f.row h, row_ordered rest)

  pub equal_place : {k at : ℕ} {bytes : List ℕ} → EqualFit sizes at k end bytes → k < end → at + 2 ≤ length bytes
  equal_place f h = let (us, x, rest) = row_next f.row h in omega (arith, f.room, ap length x)

  -- The terms up to `k` are marked: what is still to be done does the whole.
  pub record MarkingEqual (k₀ at₀ : ℕ) (before : List ℕ) (k at : ℕ) (bytes : List ℕ) : Type 0 where
    pub fits : EqualFit sizes at k end bytes
    pub kept : length bytes ≡ length before
    pub rest : (after : List ℕ) → MarksEqual sizes at k end bytes after → MarksEqual sizes at₀ k₀ end before after

  pub marking_start : {k at : ℕ} {bytes : List ℕ} → EqualFit sizes at k end bytes → MarkingEqual k at bytes k at bytes
  marking_start f = record { fits = f; kept = refl; rest = λ after x. x }

  pub marking_next : {k₀ at₀ k at : ℕ} {before bytes : List ℕ} (size place : ℕ) → MarkingEqual k₀ at₀ before k at bytes → k < end
      → size ≡ get_or sizes k 0 → place ≡ at + 2 → MarkingEqual k₀ at₀ before (k + size) place (set bytes at (k + equality_mark))
  marking_next {k = k} {at = at} {bytes = bytes} size place f h n j =
      let (us, x, rest) = row_next f.fits.row h in
      let l = length-set bytes at (k + equality_mark) in
      record {
        fits = record { starts = us; row = rw n rest; within = f.fits.within; low = f.fits.low; room = omega (arith, f.fits.room, ap length x) };
        kept = l ∙ f.kept;
        rest = λ after y. f.rest after (equal_next k at size place bytes after h n j y);
      }

  pub marking_done : {k₀ at₀ k at : ℕ} {before bytes : List ℕ} → MarkingEqual k₀ at₀ before k at bytes → end ≤ k → MarksEqual sizes at₀ k₀ end before bytes
  marking_done {k = k} {at = at} {bytes = bytes} f h = f.rest bytes (equal_done k at bytes h)
