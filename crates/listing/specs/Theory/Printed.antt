-- The laws of digits and printed frames.
use Rattle.std.specs.Prelude.{ℕ, ◌+◌, ◌*◌, ◌≡◌, refl, List, [], ◌∷◌, ◌++◌, length}
use Rattle.std.proofs.Common.{ap, ◌∙◌, append_assoc, arith, length-append}
use Rattle.sheet.specs.Text.{LF}
use Rattle.listing.specs.Listing.{digits, printed}

pub digits_append : (a b : List ℕ) → digits (a ++ b) ≡ digits a ++ digits b
unfolding digits
digits_append [] b = refl
digits_append (x ∷ a) b = rw (digits_append a b)

-- Two digits a byte.
pub length_digits : (bs : List ℕ) → length (digits bs) ≡ 2 * length bs
unfolding digits
length_digits [] = refl
length_digits (b ∷ bs) = let h = length_digits bs in omega arith

pub printed_append : (fs gs : List (List ℕ)) → printed (fs ++ gs) ≡ printed fs ++ printed gs
unfolding printed
printed_append [] gs = refl
printed_append (f ∷ fs) gs = ap (λ l. digits f ++ LF ∷ l) (printed_append fs gs) ∙ append_assoc' f fs gs
  where
    append_assoc' : (f : List ℕ) (fs gs : List (List ℕ)) → digits f ++ (LF ∷ (printed fs ++ printed gs)) ≡ (digits f ++ LF ∷ printed fs) ++ printed gs
    append_assoc' f fs gs = rw append_assoc

pub length_printed_one : (f : List ℕ) → length (printed (f ∷ [])) ≡ 2 * length f + 1
unfolding printed
length_printed_one f = length-append (digits f) (LF ∷ []) ∙ ap (◌+ 1) (length_digits f)
