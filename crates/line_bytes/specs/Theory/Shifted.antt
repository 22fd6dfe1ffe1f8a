-- Elements of a line moved to the left.
use Rattle.std.specs.Prelude.{ℕ, ◌+◌, ◌-◌, ◌≡◌, take}
use Rattle.std.proofs.Math.Path.{sym, ap}
use Rattle.std.proofs.Common.{◌∙◌, drop_at}
use mathlib.Core.List.{List, ◌∷◌, ◌++◌, append_assoc}
use native.Mathlib.Omega.{arith}
use Rattle.std.proofs.Math.ListN.{length, set, drop, length-append, length-drop}
use Rattle.std.proofs.Math.Seq.{slice, take_at, drop-append-add, drop-append-le}
use Rattle.format.specs.Limits.{no_position}
use Rattle.line_bytes.specs.ForContracts.Layout.{placed}
use Rattle.line_bytes.specs.Theory.Placed.{set_pair, two_bytes, no_bytes}

module _ (from end : ℕ) (before : List ℕ) (front pair part rest : List ℕ) (f : length front + 2 ≡ from) (g : length pair ≡ 2) (h : from + length part ≡ end)
    (cut : before ≡ front ++ (pair ++ (part ++ rest))) where
  pub head_cut : before ≡ (front ++ pair) ++ (part ++ rest)
  head_cut = cut ∙ sym (append_assoc front pair (part ++ rest))

  pub head_length : length (front ++ pair) ≡ from
  head_length = omega (arith, length-append front pair)

  pub part_cut : slice from end before ≡ part
  part_cut =
      let m : length ((front ++ pair) ++ part) ≡ end = omega (arith, length-append (front ++ pair) part, head_length) in
      ap (λ l. drop from (take end l)) (head_cut ∙ sym (append_assoc (front ++ pair) part rest))
      ∙ (ap (drop from) (take_at ((front ++ pair) ++ part) rest end m)
      ∙ drop_at (front ++ pair) part from head_length)

  -- The part moved to the left: two bytes are left over behind it.
  pub shifted_left : (shifted after : List ℕ) → shifted ≡ placed (from - 2) (slice from end before) before → after ≡ set (set shifted (end - 2) no_position) (end - 2 + 1) no_position
      → after ≡ front ++ (part ++ (no_position ∷ no_position ∷ rest))
  unfolding placed
  shifted_left shifted after e d =
      let to = from - 2 in
      let m : length front ≡ to = omega arith in
      let o : to + length part ≡ length front + length part = omega arith in
      let left = drop (length part) (pair ++ part) in
      let w : length left ≡ 2 = omega (arith, length-drop (length part) (pair ++ part), length-append pair part) in
      let (x, y, none, z, v) = two_bytes left 0 w in
      let n = no_bytes none v in
      let behind : drop (to + length part) before ≡ left ++ rest =
      ap (λ k. drop k before) o
      ∙ (ap (drop (length front + length part)) cut
      ∙ (drop-append-add front (pair ++ (part ++ rest)) (length part)
      ∙ (ap (drop (length part)) (sym (append_assoc pair part rest)) ∙ drop-append-le (length part) (pair ++ part) rest (omega (arith, length-append pair part))))) in
      let s : placed to part before ≡ (front ++ part) ++ (x ∷ y ∷ rest) =
      ap (◌++ (part ++ drop (to + length part) before)) (ap (take to) cut ∙ take_at front (pair ++ (part ++ rest)) to m)
      ∙ (ap (λ l. front ++ (part ++ l)) (behind ∙ (ap (◌++ rest) z ∙ ap (λ l. x ∷ y ∷ (l ++ rest)) n))
      ∙ sym (append_assoc front part (x ∷ y ∷ rest))) in
      let q : length (front ++ part) ≡ end - 2 = omega (arith, length-append front part) in
      d
      ∙ (ap (λ l. set (set l (end - 2) no_position) (end - 2 + 1) no_position) (e ∙ (ap (λ l. placed to l before) part_cut ∙ s))
      ∙ (set_pair (front ++ part) x y no_position no_position rest (end - 2) q ∙ append_assoc front part (no_position ∷ no_position ∷ rest)))
