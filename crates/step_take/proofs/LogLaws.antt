-- The log: three bytes more behind those of the steps before.
use Prim.Native.Nat.{ℕ, suc, ◌+◌, ◌≤◌}
use mathlib.Core.Path.{◌≡◌, sym, ap, ◌∙◌}
use mathlib.Core.List.{List, [], ◌∷◌, ◌++◌, append_assoc}
use native.Mathlib.Omega.{arith}
use lib.ListN.{length, get_or, set, drop, length-append, length-drop}
use lib.Seq.{drop-cons, set_at}
use Rattle.format.specs.Buffer.{written}
use Rattle.line_bytes.specs.Theory.Placed.{set_pair}

written_length : (front before : List ℕ) → length (written front before) ≡ length front + length (drop (length front) before)
unfolding written
written_length front before = length-append front (drop (length front) before)

three_dropped : (before : List ℕ) (at : ℕ) → at + 3 ≤ length before → drop at before ≡ get_or before at 0 ∷ get_or before (at + 1) 0 ∷ get_or before (at + 2) 0 ∷ drop (at + 3) before
three_dropped before at h =
    next at (at + 1) (omega arith) (omega arith)
    ∙ ap (get_or before at 0 ∷◌) (next (at + 1) (at + 2) (omega arith) (omega arith)
    ∙ ap (get_or before (at + 1) 0 ∷◌) (next (at + 2) (at + 3) (omega arith) (omega arith)))
  where
    next : (i j : ℕ) → suc i ≡ j → j ≤ length before → drop i before ≡ get_or before i 0 ∷ drop j before
    next i j e h = drop-cons before i 0 (omega arith) ∙ ap (λ n. get_or before i 0 ∷ drop n before) e

pub three_more : (front before log : List ℕ) (at a b c : ℕ) → at + 3 ≤ length log → length front ≡ at → log ≡ written front before
    → set (set (set log at a) (at + 1) b) (at + 2) c ≡ written (front ++ (a ∷ b ∷ c ∷ [])) before
unfolding written
three_more front before log at a b c room l w =
    let rest = drop (at + 3) before in
    let x = get_or before at 0 in
    let y = get_or before (at + 1) 0 in
    let z = get_or before (at + 2) 0 in
    let enough : at + 3 ≤ length before = omega (arith, ap length w, written_length front before, length-drop (length front) before) in
    let split : log ≡ front ++ (x ∷ y ∷ z ∷ rest) = w ∙ ap (front ++◌) (ap (λ n. drop n before) l ∙ three_dropped before at enough) in
    let seam : length (front ++ (a ∷ b ∷ [])) ≡ at + 2 = length-append front (a ∷ b ∷ []) ∙ ap (◌+ 2) l in
    let end : at + 3 ≡ length (front ++ (a ∷ b ∷ c ∷ [])) = omega (arith, length-append front (a ∷ b ∷ c ∷ [])) in
    ap (λ m. set (set (set m at a) (at + 1) b) (at + 2) c) split
    ∙ (ap (λ m. set m (at + 2) c) (set_pair front x y a b (z ∷ rest) at l)
    ∙ (ap (λ m. set m (at + 2) c) (sym (append_assoc front (a ∷ b ∷ []) (z ∷ rest)))
    ∙ (set_at (front ++ (a ∷ b ∷ [])) z rest c (at + 2) seam
    ∙ (append_assoc front (a ∷ b ∷ []) (c ∷ rest)
    ∙ (sym (append_assoc front (a ∷ b ∷ c ∷ []) rest)
    ∙ ap (λ n. (front ++ (a ∷ b ∷ c ∷ [])) ++ drop n before) end)))))
