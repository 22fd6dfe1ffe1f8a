-- Laws of the bytes between two places of a text.
use Rattle.std.specs.Prelude.{◌≡◌, ℕ, zero, suc, ◌+◌, ◌-◌, ◌*◌, ◌≤◌, List, [], ◌∷◌, length, take, drop, slice_index, slice_index_or, refl}
use Rattle.std.proofs.Common.{ap, subst, ◌∙◌, length-drop, arith}
use Rattle.sheet.specs.ForContracts.Bytes.{Bytes}
use Rattle.format.specs.Limits.{max_byte}
use Rattle.scanning.specs.ForContracts.Digits.{decoded, pair_at, bytes_between, BodyReady}

pub between_end : (text : List ℕ) (at end : ℕ) → end ≤ at → bytes_between text at end ≡ []
unfolding bytes_between decoded
between_end text at end h = let e : end - at ≡ 0 = omega arith in rw e

two_taken : (n : ℕ) (xs : List ℕ) → 2 ≤ length xs → take (suc (suc n)) xs ≡ slice_index xs 0 ∷ slice_index xs 1 ∷ take n (drop 2 xs)
two_taken n [] h = absurd (omega arith)
two_taken n (x ∷ []) h = absurd (omega arith)
two_taken n (x ∷ y ∷ xs) h = refl

pub between_cons : (text : List ℕ) (at end : ℕ) → at + 2 ≤ end → end ≤ length text
    → bytes_between text at end ≡ pair_at text at ∷ bytes_between text (at + 2) end
unfolding bytes_between decoded
between_cons text at end h i =
    let e : end - at ≡ suc (suc (end - (at + 2))) = omega arith in
    let a : slice_index_or (drop at text) 0 0 ≡ slice_index_or text at 0 = lib.Seq.get_or-drop at text 0 0 ∙ ap (λ n. slice_index text n) (omega arith) in
    let b : slice_index_or (drop at text) 1 0 ≡ slice_index_or text (at + 1) 0 = lib.Seq.get_or-drop at text 1 0 in
    let d : drop 2 (drop at text) ≡ drop (at + 2) text = lib.Seq.drop-drop 2 at text in
    ap (λ n. decoded (take n (drop at text))) e
    ∙ ap decoded (two_taken (end - (at + 2)) (drop at text) (omega (arith, length-drop at text)))
    ∙ cc (a, b, d)

-- The first of the bytes, and those behind it.
module _ (text : List ℕ) (from end : ℕ) (b : BodyReady text from end) (more : from ≡ end → ⊥) where
  pub two_more : from + 2 ≤ end
  two_more = go b.pairs b.even
    where
      go : (m : ℕ) → end ≡ from + 2 * m → from + 2 ≤ end
      go zero e = absurd (more (omega arith))
      go (suc m) e = omega arith

  pub first_byte : bytes_between text from end ≡ pair_at text from ∷ bytes_between text (from + 2) end
  first_byte = between_cons text from end two_more b.inside

  pub byte_small : pair_at text from ≤ max_byte
  byte_small = (subst Bytes first_byte b.are_bytes).0

  pub body_behind : BodyReady text (from + 2) end
  body_behind = record { pairs = b.pairs - 1; even = omega (arith, b.even, two_more); inside = b.inside; are_bytes = (subst Bytes first_byte b.are_bytes).1 }
