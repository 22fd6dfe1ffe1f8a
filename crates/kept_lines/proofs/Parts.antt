-- Parts of bytes, and the parts that these consist of.
use Prim.Native.Nat.{ℕ, suc, ◌+◌, ◌≤◌, ◌<◌}
use mathlib.Core.Path.{◌≡◌, refl, sym, ap, ◌∙◌}
use mathlib.Core.List.{List, ◌∷◌, ◌++◌}
use native.Mathlib.Numerals.{add-one}
use native.Mathlib.Omega.{arith}
use lib.ListN.{length, get_or, take, drop, length-append, length-drop}
use lib.Seq.{slice, slice-cons, length-slice, take-take, drop_at, drop-drop, length-take-le, get_or-drop, get_or-take, get_or_at}
use Rattle.format.specs.Theory.Parts.{part_slice}

-- Where the bytes from `f` on start with `a`.
module _ (f : ℕ) (l a b : List ℕ) (e : drop f l ≡ a ++ b) where
  pub part_room : 0 < length a → f + length a ≤ length l
  part_room h = omega (arith, length-drop f l, ap length e, length-append a b)

  pub part_rest : drop (f + length a) l ≡ b
  part_rest = sym (drop-drop (length a) f l) ∙ (ap (drop (length a)) e ∙ drop_at a b (length a) refl)

pub part_byte : (f : ℕ) (l a : List ℕ) (x : ℕ) (b : List ℕ) (n : ℕ) → drop f l ≡ a ++ (x ∷ b) → length a ≡ n → get_or l (f + n) 0 ≡ x
part_byte f l a x b n e h = sym (get_or-drop f l n 0) ∙ (ap (λ m. get_or m n 0) e ∙ get_or_at a x b 0 n h)

-- Where the bytes from `f` to `t` are `a`, then `b`.
module _ (f t : ℕ) (l a b : List ℕ) (e : slice f t l ≡ a ++ b) where
  pub slice_front : f + length a ≤ t → t ≤ length l → slice f (f + length a) l ≡ a
  slice_front h k =
      let w = length-take-le t l k in
      ap (drop f) (sym (take-take (f + length a) t l h)) ∙ part_slice f (take t l) a b e (omega arith)

  pub slice_back : slice (f + length a) t l ≡ b
  slice_back = part_rest f (take t l) a b e

pub slice_first : (f t : ℕ) (l : List ℕ) (x : ℕ) (xs : List ℕ) → f < t → t ≤ length l → slice f t l ≡ x ∷ xs → (get_or l f 0 ≡ x) × (slice (f + 1) t l ≡ xs)
slice_first f t l x xs h k e =
    let d : get_or l f 0 ∷ slice (suc f) t l ≡ x ∷ xs = sym (slice-cons f t l 0 h k) ∙ e in
    let tail : slice (suc f) t l ≡ xs = cc in
    (cc, ap (λ n. slice n t l) (add-one f) ∙ tail)

pub get_or_slice : (f n i : ℕ) (l : List ℕ) → i < n → get_or (slice f (f + n) l) i 0 ≡ get_or l (f + i) 0
get_or_slice f n i l h = get_or-drop f (take (f + n) l) i 0 ∙ get_or-take (f + n) l (f + i) 0 (omega arith)

pub length_part : (f n : ℕ) (l : List ℕ) → f + n ≤ length l → length (slice f (f + n) l) ≡ n
length_part f n l h = length-slice f (f + n) l h ∙ omega arith
