-- Bytes that are written behind those that stand first in a buffer.
use Prim.Native.Nat.{ℕ, suc, ◌+◌, ◌-◌, ◌≤◌, ◌<◌}
use mathlib.Core.Path.{◌≡◌, refl, sym, ap, ap₂, ◌∙◌}
use mathlib.Core.List.{List, [], ◌∷◌, ◌++◌, append_assoc, append-nil}
use native.Mathlib.Omega.{arith}
use lib.ListN.{length, get_or, set, take, drop, length-append, length-drop, drop_of_length-le}
use lib.Seq.{take_all, take_at, drop_at, drop-drop, drop-cons, set_at}
use Rattle.format.specs.Buffer.{written}

-- A part that goes to the end.
pub to_end : (at : ℕ) (l : List ℕ) → take (length l - at) (drop at l) ≡ drop at l
to_end at l = take_all (length l - at) (drop at l) (omega (arith, length-drop at l))

pub end_room : (l : List ℕ) (at n : ℕ) → at + n ≤ length l → n ≤ length (take (length l - at) (drop at l))
end_room l at n h = rw (to_end at l, length-drop at l) (omega arith)

-- The bytes of `part`, which are `at` many, stand first.
pub record Front (part before after : List ℕ) (at : ℕ) : Type 0 where
  pub stands : after ≡ written part before
  pub counted : at ≡ length part

pub nothing_written : (before : List ℕ) → Front [] before before 0
unfolding written
nothing_written before = record { stands = refl; counted = refl }

module _ {part before after : List ℕ} {at : ℕ} (f : Front part before after at) where
  pub written_length : at ≤ length before → length after ≡ length before
  unfolding written
  written_length h = ap length f.stands ∙ omega (arith, length-append part (drop (length part) before), length-drop (length part) before, f.counted)

  -- `more` is written to the part from `at` on.
  pub written_behind : (more new : List ℕ) (n : ℕ) → n ≡ length more → new ≡ written more (take (length after - at) (drop at after))
      → Front (part ++ more) before (take at after ++ (new ++ drop (length after - at) (drop at after))) (at + n)
  unfolding written
  written_behind more new n e w =
      let rest = drop (length part) before in
      let c = sym f.counted in
      let a : take at after ≡ part = ap (take at) f.stands ∙ take_at part rest at c in
      let b : drop at after ≡ rest = ap (drop at) f.stands ∙ drop_at part rest at c in
      let d : new ≡ more ++ drop (length more) rest = w ∙ ap (λ l. more ++ drop (length more) l) (to_end at after ∙ b) in
      let z : drop (length after - at) (drop at after) ≡ [] = drop_of_length-le (drop at after) {i = length after - at} (omega (arith, length-drop at after)) in
      record {
        stands =
            ap₂ (λ x y. x ++ (new ++ y)) a z
            ∙ (ap (part ++◌) (append-nil new ∙ d)
            ∙ (sym (append_assoc part more (drop (length more) rest))
            ∙ ap ((part ++ more) ++◌) (drop-drop (length more) (length part) before ∙ ap (λ k. drop k before) (sym (length-append part more)))));
        counted = omega (arith, length-append part more, f.counted);
      }

  pub written_one : (x : ℕ) → at < length before → Front (part ++ (x ∷ [])) before (set after at x) (at + 1)
  unfolding written
  written_one x h =
      let c = sym f.counted in
      let d = drop-cons before (length part) 0 (omega arith) in
      let e : suc (length part) ≡ length (part ++ (x ∷ [])) = sym (length-append part (x ∷ []) ∙ omega arith) in
      record {
        stands =
            ap (λ l. set l at x) (f.stands ∙ ap (part ++◌) d)
            ∙ (set_at part (get_or before (length part) 0) (drop (suc (length part)) before) x at c
            ∙ (sym (append_assoc part (x ∷ []) (drop (suc (length part)) before)) ∙ ap (λ k. (part ++ (x ∷ [])) ++ drop k before) e));
        counted = omega (arith, e);
      }
