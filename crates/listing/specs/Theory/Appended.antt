-- The laws of appended text.
use Rattle.std.specs.Prelude.{ℕ, ◌+◌, ◌<◌, ◌≡◌, refl, List, [], ◌∷◌, ◌++◌, length, set, take}
use Rattle.std.proofs.Common.{sym, ap, subst, ◌∙◌, append_assoc, append-nil, arith, add-one, length-append, length-set, take-suc-set}
use Rattle.listing.specs.ForContracts.Appended.{Appended}

pub appended_none : (before : List ℕ) (at : ℕ) → Appended before at [] before at
appended_none before at = record { there = sym (append-nil (take at before)); ends = omega arith; same_length = refl }

-- One text and then another.
pub appended_join : {before between after : List ℕ} {at middle end : ℕ} (a b : List ℕ) → Appended before at a between middle → Appended between middle b after end → Appended before at (a ++ b) after end
appended_join {before} {at = at} a b x y = record {
  there = y.there ∙ (ap (◌++ b) x.there ∙ append_assoc (take at before) a b);
  ends = omega (arith, x.ends, y.ends, length-append a b);
  same_length = y.same_length ∙ x.same_length;
}

-- One byte is written behind the text.
pub appended_byte : (before : List ℕ) (at x : ℕ) → at < length before → Appended before at (x ∷ []) (set before at x) (at + 1)
appended_byte before at x h = record {
  there = rw (add-one at) (take-suc-set before at x h);
  ends = refl;
  same_length = length-set before at x;
}

pub appended_text : {before after : List ℕ} {at end : ℕ} {a b : List ℕ} → a ≡ b → Appended before at a after end → Appended before at b after end
appended_text {before} {after} {at} {end} e x = subst (λ t. Appended before at t after end) e x
