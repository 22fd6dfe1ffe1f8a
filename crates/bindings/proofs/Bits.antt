-- Laws of the bits of numbers that are sets of variables.
use Prim.Native.Nat.{ℕ, zero, suc, ◌*◌, ◌/◌, ◌%◌, ◌^◌, ◌<◌, max}
use mathlib.Core.Path.{◌≡◌, refl, sym, ap, ap₂, ◌∙◌, subst}
use mathlib.Core.Logic.{◌⊎◌, inl, inr, ⊎_elim}
use native.Mathlib.Omega.{arith}
use native.Mathlib.Decide.{dec_lt}
use native.Mathlib.Nat.{div-one, div-div-eq-div-mul, div-eq_of_lt, mod-eq_of_lt, pow-suc, pow-succ', one-mul, zero-lt-suc}
use lib.Pow.{pow-lt}
use lib.Count.{count_trailing_zeros, under}
use lib.Bits.{bit_or, bit_xor, differ, or_step, or_comm, or_shr, or_add_and, xor_step, xor_shr, xor_add_and, xor_lt, and_le_l, and_le_r}
use Rattle.bindings.specs.ForContracts.Sets.{Has, Singleton, Joined, Within}

digit_cases : (n : ℕ) → (n % 2 ≡ 0) ⊎ (n % 2 ≡ 1)
digit_cases n = go (dec_lt (n % 2) 1)
  where
    go : Dec (n % 2 < 1) → (n % 2 ≡ 0) ⊎ (n % 2 ≡ 1)
    go (yes h) = inl (omega arith)
    go (no h) = inr (omega arith)

-- The lowest bits of two numbers joined.
or_left : (x y : ℕ) → x % 2 ≡ 1 → bit_or x y % 2 ≡ 1
or_left x y e = ⊎_elim (λ f. omega (arith, or_step x y, ap₂ max e f)) (λ f. omega (arith, or_step x y, ap₂ max e f)) (digit_cases y)

or_cases : (x y : ℕ) → bit_or x y % 2 ≡ 1 → (x % 2 ≡ 1) ⊎ (y % 2 ≡ 1)
or_cases x y o = go (digit_cases x) (digit_cases y)
  where
    go : (x % 2 ≡ 0) ⊎ (x % 2 ≡ 1) → (y % 2 ≡ 0) ⊎ (y % 2 ≡ 1) → (x % 2 ≡ 1) ⊎ (y % 2 ≡ 1)
    go (inl e) (inl f) = absurd (omega (arith, or_step x y, ap₂ max e f))
    go (inr e) d = inl e
    go (inl e) (inr f) = inr f

pub or_joined : (a b : ℕ) → Joined a b (bit_or a b)
or_joined a b = record {
  left = λ w h. record { bit = ap (λ (n : ℕ). n % 2) (or_shr a b w) ∙ or_left (a / 2 ^ w) (b / 2 ^ w) h.bit };
  right = λ w h. record { bit = ap (λ (n : ℕ). n % 2) (or_shr a b w ∙ or_comm (a / 2 ^ w) (b / 2 ^ w)) ∙ or_left (b / 2 ^ w) (a / 2 ^ w) h.bit };
  either = λ w h. ⊎_elim (λ e. inl (record { bit = e })) (λ e. inr (record { bit = e })) (or_cases (a / 2 ^ w) (b / 2 ^ w) (sym (ap (λ (n : ℕ). n % 2) (or_shr a b w)) ∙ h.bit));
  above = omega (arith, or_add_and a b, and_le_r a b);
}

-- A power of two has one bit.
half_power : (w u : ℕ) → 2 ^ suc w / 2 ^ suc u ≡ 2 ^ w / 2 ^ u
half_power w u =
    let halved : 2 ^ suc w / 2 ≡ 2 ^ w = omega (arith, pow-suc 2 w) in
    ap (λ (n : ℕ). 2 ^ suc w / n) (pow-succ' 2 u) ∙ sym (div-div-eq-div-mul (2 ^ suc w) 2 (2 ^ u)) ∙ ap (λ (n : ℕ). n / 2 ^ u) halved

power_own : (w : ℕ) → 2 ^ w / 2 ^ w % 2 ≡ 1
power_own zero = refl
power_own (suc w) = ap (λ (n : ℕ). n % 2) (half_power w w) ∙ power_own w

power_alone : (w u : ℕ) → 2 ^ w / 2 ^ u % 2 ≡ 1 → u ≡ w
power_alone zero zero e = refl
power_alone zero (suc u) e = absurd (omega (arith, div-eq_of_lt (pow-lt {i = zero} {j = suc u} (zero-lt-suc u))))
power_alone (suc w) zero e = absurd (omega (arith, pow-suc 2 w, div-one (2 ^ suc w)))
power_alone (suc w) (suc u) e = ap suc (power_alone w u (sym (ap (λ (n : ℕ). n % 2) (half_power w u)) ∙ e))

pub power_singleton : (w : ℕ) → w < 16 → Singleton w (1 * 2 ^ w % 65536)
power_singleton w l =
    let same : 1 * 2 ^ w % 65536 ≡ 2 ^ w = ap (λ (n : ℕ). n % 65536) (one-mul (2 ^ w)) ∙ mod-eq_of_lt (pow-lt l) in
    subst (Singleton w) (sym same) (record { own = record { bit = power_own w }; alone = λ u h. power_alone w u h.bit })

-- A set with a variable more is a larger number.
pub joined_more : {a w one more : ℕ} → Singleton w one → Joined a one more → (Has a w → ⊥) → a < more
joined_more {a} {w} {one} {more} s j n = go (dec_lt a more)
  where
    go : Dec (a < more) → a < more
    go (yes l) = l
    go (no l) = let e : more ≡ a = omega (arith, j.above) in absurd (n (rw e at (j.right w s.own)))

-- With its last zeros divided out, a number is odd.
trailing_odd : (d n : ℕ) → 0 < n → n < 2 ^ d → n / 2 ^ count_trailing_zeros d n % 2 ≡ 1
unfolding count_trailing_zeros
trailing_odd zero n h k = absurd (omega arith)
trailing_odd (suc d) n h k = go (n % 2) refl (λ (e : n % 2 ≡ 0). trailing_odd d (n / 2) (omega arith) (omega (arith, pow-suc 2 d)))
  where
    go : (r : ℕ) → n % 2 ≡ r → (n % 2 ≡ 0 → n / 2 / 2 ^ count_trailing_zeros d (n / 2) % 2 ≡ 1) → n / 2 ^ under r (count_trailing_zeros d (n / 2)) % 2 ≡ 1
    go zero e ih =
        let t = count_trailing_zeros d (n / 2) in
        ap (λ (x : ℕ). x % 2) (ap (λ (x : ℕ). n / x) (pow-succ' 2 t) ∙ sym (div-div-eq-div-mul n 2 (2 ^ t))) ∙ ih e
    go (suc r) e ih = ap (λ (x : ℕ). x % 2) (div-one n) ∙ omega arith

xor_cases : (x y : ℕ) → bit_xor x y % 2 ≡ 1 → ((x % 2 ≡ 1) × (y % 2 ≡ 0)) ⊎ ((x % 2 ≡ 0) × (y % 2 ≡ 1))
xor_cases x y o = go (digit_cases x) (digit_cases y)
  where
    go : (x % 2 ≡ 0) ⊎ (x % 2 ≡ 1) → (y % 2 ≡ 0) ⊎ (y % 2 ≡ 1) → ((x % 2 ≡ 1) × (y % 2 ≡ 0)) ⊎ ((x % 2 ≡ 0) × (y % 2 ≡ 1))
    go (inl e) (inl f) = absurd (omega (arith, xor_step x y, ap₂ differ e f))
    go (inr e) (inr f) = absurd (omega (arith, xor_step x y, ap₂ differ e f))
    go (inr e) (inl f) = inl (e, f)
    go (inl e) (inr f) = inr (e, f)

-- The lowest bit in which two sets differ.
pub lowest_difference : (set part : ℕ) → set < 65536 → part < 65536 → Within part set → (set ≡ part → ⊥)
    → let w = count_trailing_zeros 16 (bit_xor set part) in Has set w × (Has part w → ⊥)
lowest_difference set part l m h n = go (dec_lt 0 (bit_xor set part))
  where
    w : ℕ
    w = count_trailing_zeros 16 (bit_xor set part)

    told : ((set / 2 ^ w % 2 ≡ 1) × (part / 2 ^ w % 2 ≡ 0)) ⊎ ((set / 2 ^ w % 2 ≡ 0) × (part / 2 ^ w % 2 ≡ 1)) → Has set w × (Has part w → ⊥)
    told (inl (e, f)) = (record { bit = e }, λ b. omega (arith, b.bit))
    told (inr (e, f)) = absurd (omega (arith, (h.each w (record { bit = f })).bit))

    go : Dec (0 < bit_xor set part) → Has set w × (Has part w → ⊥)
    go (yes b) = told (xor_cases (set / 2 ^ w) (part / 2 ^ w) (sym (ap (λ (x : ℕ). x % 2) (xor_shr set part w)) ∙ trailing_odd 16 (bit_xor set part) b (xor_lt 16 set part l m)))
    go (no b) = absurd (n (omega (arith, xor_add_and set part, and_le_l set part, and_le_r set part)))
