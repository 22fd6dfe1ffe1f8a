-- The choices for an inequality between two symbols say what L1 to L3 say.
use Rattle.std.specs.Prelude.{ℕ, ◌<◌, ◌≡◌, refl, ◌⊎◌}
use Rattle.std.proofs.Math.Logic.{inl, inr}
use mathlib.Core.List.{List, [], ◌∷◌, ◌++◌, map}
use Rattle.std.proofs.Math.Decide.{ℕ_discrete, dec_lt}
use Rattle.terms.specs.Term.{Term, Terms, app, nil, cons}
use Rattle.terms.specs.Theory.View.{values_at}
use Rattle.path_order.specs.Order.{◌≻◌, L1, L2, L3, SomeReaches, here_equal, here_greater, there, ExceedsAll, none, more, Lexicographic, at_first, at_later}
use Rattle.solving.specs.Line.{Element, equal}
use Rattle.solving.specs.Walk.{argument_choices, exceeds_each, lexicographic_choices, precedence_choices, same_symbol_choices, choices}
use Rattle.solving.specs.Holds.{ElementHolds, ElementsHold}

-- The ordering, taken apart.
greater_cases : {f g : ℕ} {ss ts : Terms} → app f ss ≻ app g ts → SomeReaches ss (app g ts) ⊎ (((g < f) × ExceedsAll (app f ss) ts) ⊎ ((f ≡ g) × Lexicographic (app f ss) ss ts))
greater_cases (L1 x) = inl x
greater_cases (L2 l a) = inr (inl (l, a))
greater_cases (L3 x) = inr (inr (refl, x))

reaches_nil : {t : Term} → SomeReaches nil t → ⊥
reaches_nil r = elim r [ ]

reaches_cases : {s t : Term} {ss : Terms} → SomeReaches (cons s ss) t → s ≻ t ⊎ ((s ≡ t) ⊎ SomeReaches ss t)
reaches_cases here_equal = inr (inl refl)
reaches_cases (here_greater g) = inl g
reaches_cases (there r) = inr (inr r)

exceeds_cases : {s t : Term} {ts : Terms} → ExceedsAll s (cons t ts) → s ≻ t × ExceedsAll s ts
exceeds_cases (more g a) = (g, a)

lexicographic_nil_left : {w : Term} {ts : Terms} → Lexicographic w nil ts → ⊥
lexicographic_nil_left l = elim l [ ]

lexicographic_nil_right : {w s : Term} {ss : Terms} → Lexicographic w (cons s ss) nil → ⊥
lexicographic_nil_right l = elim l [ ]

lexicographic_cases : {w s t : Term} {ss ts : Terms} → Lexicographic w (cons s ss) (cons t ts) → (s ≻ t × ExceedsAll w ts) ⊎ ((s ≡ t) × Lexicographic w ss ts)
lexicographic_cases (at_first g a) = inl (g, a)
lexicographic_cases (at_later l) = inr (refl, l)

module _ (ρ : ℕ → Term) (value : ℕ → Term) where
  -- Some list of elements holds.
  abbrev pub SomeHolds : List (List Element) → Type 0
  SomeHolds [] = ⊥
  SomeHolds (es ∷ ess) = ElementsHold ρ value es ⊎ SomeHolds ess

  some_left : (a b : List (List Element)) → SomeHolds a → SomeHolds (a ++ b)
  some_left [] b h = absurd h
  some_left (es ∷ a) b (inl h) = inl h
  some_left (es ∷ a) b (inr h) = inr (some_left a b h)

  some_right : (a b : List (List Element)) → SomeHolds b → SomeHolds (a ++ b)
  some_right [] b h = h
  some_right (es ∷ a) b h = inr (some_right a b h)

  some_split : (a b : List (List Element)) → SomeHolds (a ++ b) → SomeHolds a ⊎ SomeHolds b
  some_split [] b h = inr h
  some_split (es ∷ a) b (inl h) = inl (inl h)
  some_split (es ∷ a) b (inr h) = elim (some_split a b h) [ inl x ↦ inl (inr x) | inr y ↦ inr y ]

  cons_to : (e : Element) (a : List (List Element)) → ElementHolds ρ value e → SomeHolds a → SomeHolds (map (e ∷◌) a)
  cons_to e [] x h = h
  cons_to e (es ∷ a) x (inl h) = inl (x, h)
  cons_to e (es ∷ a) x (inr h) = inr (cons_to e a x h)

  cons_from : (e : Element) (a : List (List Element)) → SomeHolds (map (e ∷◌) a) → ElementHolds ρ value e × SomeHolds a
  cons_from e [] h = absurd h
  cons_from e (es ∷ a) (inl h) = (h.0, inl h.1)
  cons_from e (es ∷ a) (inr h) = let (x, y) = cons_from e a h in (x, inr y)

  -- L1.
  argument_to : (ss : List ℕ) (t : ℕ) → SomeReaches (values_at value ss) (value t) → SomeHolds (argument_choices ss t)
  unfolding values_at argument_choices
  argument_to [] t h = absurd (reaches_nil h)
  argument_to (s ∷ ss) t h = elim (reaches_cases h) [ inl g ↦ inl (g, tt) | inr x ↦ elim x [ inl e ↦ inr (inl (e, tt)) | inr y ↦ inr (inr (argument_to ss t y)) ] ]

  argument_from : (ss : List ℕ) (t : ℕ) → SomeHolds (argument_choices ss t) → SomeReaches (values_at value ss) (value t)
  unfolding values_at argument_choices
  argument_from [] t h = absurd h
  argument_from (s ∷ ss) t (inl h) = here_greater h.0
  argument_from (s ∷ ss) t (inr (inl h)) = rw h.0 here_equal
  argument_from (s ∷ ss) t (inr (inr h)) = there (argument_from ss t h)

  -- L2.
  exceeds_to : (s : ℕ) (ts : List ℕ) → ExceedsAll (value s) (values_at value ts) → ElementsHold ρ value (exceeds_each s ts)
  unfolding values_at exceeds_each
  exceeds_to s [] h = tt
  exceeds_to s (t ∷ ts) h = let (g, a) = exceeds_cases h in (g, exceeds_to s ts a)

  exceeds_from : (s : ℕ) (ts : List ℕ) → ElementsHold ρ value (exceeds_each s ts) → ExceedsAll (value s) (values_at value ts)
  unfolding values_at exceeds_each
  exceeds_from s [] h = none
  exceeds_from s (t ∷ ts) h = more h.0 (exceeds_from s ts h.1)

  -- L3.
  lexicographic_to : (s : ℕ) (ss ts : List ℕ) → Lexicographic (value s) (values_at value ss) (values_at value ts) → SomeHolds (lexicographic_choices s ss ts)
  unfolding values_at lexicographic_choices
  lexicographic_to s [] ts h = absurd (lexicographic_nil_left h)
  lexicographic_to s (s₁ ∷ ss) [] h = absurd (lexicographic_nil_right h)
  lexicographic_to s (s₁ ∷ ss) (t₁ ∷ ts) h =
      elim (lexicographic_cases h) [
        | inl x ↦ inl (x.0, exceeds_to s ts x.1)
        | inr x ↦ inr (cons_to (equal s₁ t₁) (lexicographic_choices s ss ts) x.0 (lexicographic_to s ss ts x.1))
      ]

  lexicographic_from : (s : ℕ) (ss ts : List ℕ) → SomeHolds (lexicographic_choices s ss ts) → Lexicographic (value s) (values_at value ss) (values_at value ts)
  unfolding values_at lexicographic_choices
  lexicographic_from s [] ts h = absurd h
  lexicographic_from s (s₁ ∷ ss) [] h = absurd h
  lexicographic_from s (s₁ ∷ ss) (t₁ ∷ ts) (inl h) = at_first h.0 (exceeds_from s ts h.1)
  lexicographic_from s (s₁ ∷ ss) (t₁ ∷ ts) (inr h) = let (x, y) = cons_from (equal s₁ t₁) (lexicographic_choices s ss ts) h in rw x (at_later (lexicographic_from s ss ts y))

  -- All choices together.
  module _ (s t f g : ℕ) (ss ts : List ℕ) (at_s : value s ≡ app f (values_at value ss)) (at_t : value t ≡ app g (values_at value ts)) where
    precedence_to : (d : Dec (g < f)) → g < f → ExceedsAll (app f (values_at value ss)) (values_at value ts) → SomeHolds (precedence_choices d s ts)
    unfolding precedence_choices
    precedence_to (yes l) i a = inl (exceeds_to s ts (rw at_s a))
    precedence_to (no n) i a = absurd (n i)

    precedence_from : (d : Dec (g < f)) → SomeHolds (precedence_choices d s ts) → app f (values_at value ss) ≻ app g (values_at value ts)
    unfolding precedence_choices
    precedence_from (yes l) (inl h) = L2 l (rw at_s at (exceeds_from s ts h))
    precedence_from (yes l) (inr h) = absurd h
    precedence_from (no n) h = absurd h

    same_symbol_to : (d : Dec (f ≡ g)) → f ≡ g → Lexicographic (app f (values_at value ss)) (values_at value ss) (values_at value ts) → SomeHolds (same_symbol_choices d s ss ts)
    unfolding same_symbol_choices
    same_symbol_to (yes e) i l = lexicographic_to s ss ts (rw at_s l)
    same_symbol_to (no n) i l = absurd (n i)

    same_symbol_from : (d : Dec (f ≡ g)) → SomeHolds (same_symbol_choices d s ss ts) → app f (values_at value ss) ≻ app g (values_at value ts)
    unfolding same_symbol_choices
    same_symbol_from (yes e) h = rw (← e) (L3 (rw at_s at (lexicographic_from s ss ts h)))
    same_symbol_from (no n) h = absurd h

    pub choices_to : value s ≻ value t → SomeHolds (choices s t f g ss ts)
    unfolding choices
    choices_to h =
        let k : app f (values_at value ss) ≻ app g (values_at value ts) = rw (at_s, at_t) at h in
        let a = argument_choices ss t in
        let b = precedence_choices (dec_lt g f) s ts in
        let c = same_symbol_choices (ℕ_discrete f g) s ss ts in
        elim (greater_cases k) [
          | inl x ↦ some_left (a ++ b) c (some_left a b (argument_to ss t (rw at_t x)))
          | inr y ↦ elim y [
            | inl x ↦ some_left (a ++ b) c (some_right a b (precedence_to (dec_lt g f) x.0 x.1))
            | inr x ↦ some_right (a ++ b) c (same_symbol_to (ℕ_discrete f g) x.0 x.1)
          ]
        ]

    choices_back : SomeHolds (choices s t f g ss ts) → app f (values_at value ss) ≻ app g (values_at value ts)
    unfolding choices
    choices_back h =
        let a = argument_choices ss t in
        let b = precedence_choices (dec_lt g f) s ts in
        elim (some_split (a ++ b) (same_symbol_choices (ℕ_discrete f g) s ss ts) h) [
          | inl y ↦ elim (some_split a b y) [ inl x ↦ L1 (rw at_t at (argument_from ss t x)) | inr x ↦ precedence_from (dec_lt g f) x ]
          | inr x ↦ same_symbol_from (ℕ_discrete f g) x
        ]

    pub choices_from : SomeHolds (choices s t f g ss ts) → value s ≻ value t
    choices_from h = rw (at_s, at_t) (choices_back h)
