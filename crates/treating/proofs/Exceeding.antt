-- The laws of the room that is filled with all s > tj.
use Prim.Native.Nat.{ℕ, ◌+◌, ◌*◌, ◌≤◌, ◌<◌}
use mathlib.Core.Path.{◌≡◌, refl, sym, ap, ◌∙◌}
use mathlib.Core.List.{List, [], ◌∷◌, ◌++◌, append_assoc}
use lib.ListN.{length, get_or, set, length-append, length-set}
use native.Mathlib.Omega.{arith}
use Rattle.solving.specs.Walk.{exceeds_each}
use Rattle.line_bytes.specs.ForContracts.Resting.{marks}
use Rattle.treating.specs.ForContracts.Choices.{ExceedingFit, FillsExceeding}
use Rattle.bindings.specs.Theory.PrefixForm.{row_ordered, row_empty, row_next, row_first_some}
use Rattle.line_bytes.specs.Theory.Placed.{set_pair, two_bytes, no_bytes}

module _ (sizes : List ℕ) (p end : ℕ) where
  pub exceeding_done : (k at : ℕ) (line : List ℕ) → end ≤ k → FillsExceeding sizes at p k end line line
  unfolding exceeds_each marks
  exceeding_done k at line h = record {
    fills = λ ts front back row a g.
        let n = row_empty row h in
        let e : g.gap ≡ [] = no_bytes g.gap (g.room ∙ ap (λ l. 2 * length l) n) in
        g.is ∙ (ap (λ l. front ++ (l ++ back)) e ∙ ap (λ l. front ++ (marks (exceeds_each p l) ++ back)) (sym n));
  }

  pub exceeding_next : (k at size place : ℕ) (line after : List ℕ) → k < end → size ≡ get_or sizes k 0 → place ≡ at + 2
      → FillsExceeding sizes place p (k + size) end (set (set line at p) (at + 1) k) after → FillsExceeding sizes at p k end line after
  unfolding exceeds_each marks
  exceeding_next k at size place line after h n j f = record {
    fills = λ ts front back row a g.
        let (us, x, rest) = row_next row h in
        let (y, z, gap, e, l) = two_bytes g.gap (length us) (g.room ∙ ap (λ l. 2 * length l) x) in
        let i : line ≡ front ++ (y ∷ z ∷ (gap ++ back)) = g.is ∙ ap (λ l. front ++ (l ++ back)) e in
        let new = front ++ (p ∷ k ∷ []) in
        let m : length new ≡ place = omega (arith, length-append front (p ∷ k ∷ [])) in
        let opened : set (set line at p) (at + 1) k ≡ new ++ (gap ++ back) =
        ap (λ l. set (set l at p) (at + 1) k) i ∙ (set_pair front y z p k (gap ++ back) at a ∙ sym (append_assoc front (p ∷ k ∷ []) (gap ++ back))) in
        f.fills us new back (rw n rest) m (record { gap = gap; is = opened; room = l })
        ∙ (append_assoc front (p ∷ k ∷ []) (marks (exceeds_each p us) ++ back)
        ∙ ap (λ l. front ++ (marks (exceeds_each p l) ++ back)) (sym x));
  }

  pub exceeding_size : {k at : ℕ} {line : List ℕ} → ExceedingFit sizes at k end line → k < end → (0 < get_or sizes k 0) × (k + get_or sizes k 0 ≤ end)
  exceeding_size f h = let (us, x, rest) = row_next f.row h in (row_first_some f.row h, row_ordered rest)

  pub exceeding_place : {k at : ℕ} {line : List ℕ} → ExceedingFit sizes at k end line → k < end → at + 2 ≤ length line
  exceeding_place f h = let (us, x, rest) = row_next f.row h in omega (arith, f.room, ap length x)

  -- The elements of the terms up to `k` stand in the line: what is still to be done does the whole.
  pub record FillingExceeding (k₀ at₀ : ℕ) (before : List ℕ) (k at : ℕ) (line : List ℕ) : Type 0 where
    pub fits : ExceedingFit sizes at k end line
    pub kept : length line ≡ length before
    pub rest : (after : List ℕ) → FillsExceeding sizes at p k end line after → FillsExceeding sizes at₀ p k₀ end before after

  pub filling_start : {k at : ℕ} {line : List ℕ} → ExceedingFit sizes at k end line → FillingExceeding k at line k at line
  filling_start f = record { fits = f; kept = refl; rest = λ after x. x }

  pub filling_next : {k₀ at₀ k at : ℕ} {before line : List ℕ} (size place : ℕ) (new : List ℕ) → FillingExceeding k₀ at₀ before k at line → k < end
      → new ≡ set (set line at p) (at + 1) k → size ≡ get_or sizes k 0 → place ≡ at + 2 → FillingExceeding k₀ at₀ before (k + size) place new
  filling_next {k = k} {at = at} {line = line} size place new f h e n j =
      let (us, x, rest) = row_next f.fits.row h in
      let l : length new ≡ length line = ap length e ∙ (length-set (set line at p) (at + 1) k ∙ length-set line at p) in
      record {
        fits = record { starts = us; row = rw n rest; within = f.fits.within; low = f.fits.low; room = omega (arith, f.fits.room, ap length x) };
        kept = l ∙ f.kept;
        rest = λ after y. f.rest after (exceeding_next k at size place line after h n j (rw e at y));
      }

  pub filling_done : {k₀ at₀ k at : ℕ} {before line : List ℕ} → FillingExceeding k₀ at₀ before k at line → end ≤ k → FillsExceeding sizes at₀ p k₀ end before line
  filling_done {k = k} {at = at} {line = line} f h = f.rest line (exceeding_done k at line h)
