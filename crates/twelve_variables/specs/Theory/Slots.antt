-- Slots of variables, of bindings or of a match, with more free ones behind them: what is looked up, filled and found is the same.
use Rattle.std.specs.Prelude.{ℕ, zero, suc, ◌+◌, ◌<◌, ◌≡◌, refl, List, [], ◌∷◌, length, get_or, set, replicate}
use Rattle.std.proofs.Common.{ap, sym, ◌∙◌, length-set, arith}
use Rattle.std.proofs.Math.Option.{Option, none, some, map}
use Rattle.std.proofs.lemmas.List.{replicate-append-replicate}
use Rattle.twelve_variables.specs.Theory.Padded.{padded}

pub padded_free : (few extra : ℕ) {A : Type 0} → ◌≡◌ {A = List (Option A)} (replicate (few + extra) none) (padded extra (replicate few none))
padded_free few extra = sym (replicate-append-replicate few extra none)

pub padded_get_or : (extra : ℕ) {A : Type 0} (slots : List (Option A)) (v : ℕ) → get_or (padded extra slots) v none ≡ get_or slots v none
padded_get_or zero [] v = refl
padded_get_or (suc extra) [] zero = refl
padded_get_or (suc extra) [] (suc v) = padded_get_or extra [] v
padded_get_or extra (x ∷ slots) zero = refl
padded_get_or extra (x ∷ slots) (suc v) = padded_get_or extra slots v

padded_set : (extra : ℕ) {A : Type 0} (slots : List (Option A)) (v : ℕ) (x : Option A) → v < length slots → set (padded extra slots) v x ≡ padded extra (set slots v x)
padded_set extra [] v x h = absurd (omega arith)
padded_set extra (y ∷ slots) zero x h = refl
padded_set extra (y ∷ slots) (suc v) x h = ap (y ∷◌) (padded_set extra slots v x (omega arith))

-- Two that may fail: both do, or the second gives the `few` slots of the first and `extra` more.
module _ (few extra : ℕ) {A : Type 0} where
  abbrev pub Alike : (less more : Option (List (Option A))) → Type 0
  Alike none none = Unit {0}
  Alike none (some n) = ⊥
  Alike (some m) none = ⊥
  Alike (some m) (some n) = (length m ≡ few) × (n ≡ padded extra m)

  pub alike_padded : (o q : Option (List (Option A))) → Alike o q → q ≡ map (padded extra) o
  alike_padded none none h = refl
  alike_padded none (some n) h = absurd h
  alike_padded (some m) none h = absurd h
  alike_padded (some m) (some n) h = ap some h.1

  pub alike_set : (slots : List (Option A)) (v : ℕ) (x : A) → length slots ≡ few → v < few → Alike (some (set slots v (some x))) (some (set (padded extra slots) v (some x)))
  alike_set slots v x h l = (length-set slots v (some x) ∙ h, padded_set extra slots v (some x) (omega arith))

  -- What goes on alike from each is alike, and what a decision lets through.
  pub alike_then : (next : List (Option A) → Option (List (Option A))) → ((slots : List (Option A)) → length slots ≡ few → Alike (next slots) (next (padded extra slots))) → (o q : Option (List (Option A))) → Alike o q
      → Alike (elim o [ none ↦ none | some m ↦ next m ]) (elim q [ none ↦ none | some m ↦ next m ])
  alike_then next k none none h = tt
  alike_then next k none (some n) h = absurd h
  alike_then next k (some m) none h = absurd h
  alike_then next k (some m) (some n) h = rw h.1 (k m h.0)

  pub alike_if : {P : Type 0} (o q : Option (List (Option A))) → Alike o q → (d : Dec P) → Alike (elim d [ yes e ↦ o | no n ↦ none ]) (elim d [ yes e ↦ q | no n ↦ none ])
  alike_if o q h (yes e) = h
  alike_if o q h (no n) = tt
