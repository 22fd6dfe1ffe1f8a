-- Bytes as digits, one after the other.
use Prim.Native.Nat.{ℕ, ◌+◌, ◌*◌, ◌/◌, ◌%◌, ◌≤◌, ◌<◌}
use mathlib.Core.Path.{◌≡◌, sym, ap, ap₂, subst, ◌∙◌}
use mathlib.Core.List.{List, [], ◌∷◌, ◌++◌}
use native.Mathlib.Numerals.{add-one}
use native.Mathlib.Omega.{arith}
use lib.ListN.{length, get_or, set, take, length-set}
use lib.Seq.{length-take-le, take-suc, take_all}
use borrow.Author.Tests.{lt-ltb, le-ltb}
use Rattle.sheet.specs.Text.{base, LF}
use Rattle.listing.specs.Listing.{digit_byte, digits, printed}
use Rattle.listing.specs.ForContracts.Appended.{Appended}
use Rattle.listing.specs.Theory.Printed.{digits_append, length_digits}
use Rattle.listing.specs.Theory.Appended.{appended_none, appended_join, appended_byte, appended_text}

pub low_digit : (n : ℕ) → n < 10 → 0x30 + n ≡ digit_byte n
unfolding digit_byte
low_digit n h = rw (lt-ltb n 10 h, digit_byte)

pub high_digit : (n : ℕ) → 10 ≤ n → 0x57 + n ≡ digit_byte n
unfolding digit_byte
high_digit n h = rw (le-ltb n 10 h, digit_byte)

pub two_digits : (out : List ℕ) (at byte x y : ℕ) → at + 2 ≤ length out → x ≡ digit_byte (byte / base) → y ≡ digit_byte (byte % base)
    → Appended out at (digits (byte ∷ [])) (set (set out at x) (at + 1) y) (at + 2)
unfolding digits
two_digits out at byte x y h p q =
    let both = appended_join (x ∷ []) (y ∷ []) (appended_byte out at x (omega arith)) (appended_byte (set out at x) (at + 1) y (omega (arith, length-set out at x))) in
    let e : at + 1 + 1 ≡ at + 2 = omega arith in
    subst (λ n. Appended out at (digits (byte ∷ [])) (set (set out at x) (at + 1) y) n) e
    (subst (λ l. Appended out at l (set (set out at x) (at + 1) y) (at + 1 + 1)) (ap₂ (λ a b. a ∷ b ∷ []) p q) both)

-- The bytes before place `i` are appended.
pub record BytesPassed (bytes before : List ℕ) (at : ℕ) (out : List ℕ) (to i : ℕ) : Type 0 where
  pub within : i ≤ length bytes
  pub so_far : Appended before at (digits (take i bytes)) out to

module _ {bytes before : List ℕ} {at : ℕ} {out : List ℕ} {to i : ℕ} (p : BytesPassed bytes before at out to i) where
  pub reached : to ≡ at + 2 * i
  reached = omega (arith, p.so_far.ends, length_digits (take i bytes), length-take-le i bytes p.within)

  pub byte_passed : {after : List ℕ} {end : ℕ} → i < length bytes → Appended out to (digits (get_or bytes i 0 ∷ [])) after end → BytesPassed bytes before at after end (i + 1)
  byte_passed h x =
      let e : digits (take i bytes) ++ digits (get_or bytes i 0 ∷ []) ≡ digits (take (i + 1) bytes) =
      sym (digits_append (take i bytes) (get_or bytes i 0 ∷ [])) ∙ (ap digits (sym (take-suc bytes i 0 h)) ∙ ap (λ k. digits (take k bytes)) (sym (add-one i))) in
      record { within = omega arith; so_far = appended_text e (appended_join (digits (take i bytes)) (digits (get_or bytes i 0 ∷ [])) p.so_far x) }

  pub all_passed : length bytes ≤ i → Appended before at (digits bytes) out to
  all_passed h = appended_text (ap digits (take_all i bytes h)) p.so_far

pub none_passed : (bytes before : List ℕ) (at : ℕ) → BytesPassed bytes before at before at 0
unfolding digits
none_passed bytes before at = record { within = omega arith; so_far = appended_none before at }

pub frame_room : (bytes : List ℕ) {before between : List ℕ} {at to : ℕ} → at + 2 * length bytes + 1 ≤ length before → Appended before at (digits bytes) between to → to + 1 ≤ length between
frame_room bytes h x = omega (arith, x.ends, x.same_length, length_digits bytes)

-- A frame's bytes and LF.
pub frame_ended : (bytes : List ℕ) {before between after : List ℕ} {at to end : ℕ} → Appended before at (digits bytes) between to → Appended between to (LF ∷ []) after end → Appended before at (printed (bytes ∷ [])) after end
unfolding printed
frame_ended bytes x y = appended_join (digits bytes) (LF ∷ []) x y
