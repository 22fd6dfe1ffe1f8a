-- Laws of tests and look-ups on lists.
use Rattle.std.specs.Prelude.{ℕ, zero, suc, ◌≤◌, ◌<◌, ◌≡◌, refl, Bool, true, false, ◌&&◌, ◌||◌, List, [], ◌∷◌, ◌++◌, map, length, get_or, drop}
use Rattle.std.proofs.Math.Option.{none, some}
use Rattle.std.proofs.Common.{arith}
use Rattle.format.specs.Lists.{any, all, entry, Every}

pub every_append : {A : Type 0} (P : A → Type 0) (xs ys : List A) → Every P xs → Every P ys → Every P (xs ++ ys)
every_append P [] ys h k = k
every_append P (x ∷ xs) ys h k = (h.0, every_append P xs ys h.1 k)

pub every_left : {A : Type 0} (P : A → Type 0) (xs ys : List A) → Every P (xs ++ ys) → Every P xs
every_left P [] ys h = tt
every_left P (x ∷ xs) ys h = (h.0, every_left P xs ys h.1)

pub every_right : {A : Type 0} (P : A → Type 0) (xs ys : List A) → Every P (xs ++ ys) → Every P ys
every_right P [] ys h = h
every_right P (x ∷ xs) ys h = every_right P xs ys h.1

pub every_drop : {A : Type 0} (P : A → Type 0) (i : ℕ) (xs : List A) → Every P xs → Every P (drop i xs)
every_drop P zero xs h = h
every_drop P (suc i) [] h = tt
every_drop P (suc i) (x ∷ xs) h = every_drop P i xs h.1

pub every_map : {A : Type 0} {P Q : A → Type 0} → ((x : A) → P x → Q x) → (xs : List A) → Every P xs → Every Q xs
every_map k [] h = tt
every_map k (x ∷ xs) h = (k x h.0, every_map k xs h.1)

pub every_entry : {A : Type 0} (P : A → Type 0) (xs : List A) (i : ℕ) {x : A} → Every P xs → entry xs i ≡ some x → P x
unfolding entry
every_entry P [] i h e = let z : ◌≡◌ {A = ℕ} 0 1 = cc in absurd (omega arith)
every_entry P (y ∷ xs) zero {x} h e = let d : y ≡ x = cc in rw (← d) h.0
every_entry P (y ∷ xs) (suc i) h e = every_entry P xs i h.1 e

pub every_get_or : {A : Type 0} (P : A → Type 0) (xs : List A) (i : ℕ) (d : A) → Every P xs → P d → P (get_or xs i d)
every_get_or P [] i d h k = k
every_get_or P (x ∷ xs) zero d h k = h.0
every_get_or P (x ∷ xs) (suc i) d h k = every_get_or P xs i d h.1 k

pub every_at : {A : Type 0} (P : A → Type 0) (xs : List A) (i : ℕ) (d : A) → Every P xs → i < length xs → P (get_or xs i d)
every_at P [] i d h l = absurd (omega arith)
every_at P (x ∷ xs) zero d h l = h.0
every_at P (x ∷ xs) (suc i) d h l = every_at P xs i d h.1 (omega arith)

pub get_or_map : {A B : Type 0} (f : A → B) (xs : List A) (i : ℕ) (d : A) → get_or (map f xs) i (f d) ≡ f (get_or xs i d)
get_or_map f [] i d = refl
get_or_map f (x ∷ xs) zero d = refl
get_or_map f (x ∷ xs) (suc i) d = get_or_map f xs i d

pub entry_length : {A : Type 0} (xs : List A) (i : ℕ) {x : A} → entry xs i ≡ some x → i < length xs
unfolding entry
entry_length [] i e = let z : ◌≡◌ {A = ℕ} 0 1 = cc in absurd (omega arith)
entry_length (y ∷ xs) zero e = omega arith
entry_length (y ∷ xs) (suc i) e = omega (arith, entry_length xs i e)

pub entry_found : {A : Type 0} (xs : List A) (i : ℕ) → i < length xs → (x : A) × (entry xs i ≡ some x)
unfolding entry
entry_found [] i h = absurd (omega arith)
entry_found (y ∷ xs) zero h = (y, refl)
entry_found (y ∷ xs) (suc i) h = entry_found xs i (omega arith)

pub entry_none : {A : Type 0} (xs : List A) (i : ℕ) → length xs ≤ i → entry xs i ≡ none
unfolding entry
entry_none [] i h = refl
entry_none (x ∷ xs) zero h = absurd (omega arith)
entry_none (x ∷ xs) (suc i) h = entry_none xs i (omega arith)

-- What is false is not true.
pub false_true : {A : Type 0} → false ≡ true → A
false_true e = let z : ◌≡◌ {A = ℕ} 0 1 = cc in absurd (omega arith)

-- A conjunction that is true, taken apart.
pub and_true : (a b : Bool) → (a && b) ≡ true → (a ≡ true) × (b ≡ true)
and_true true true e = (refl, refl)
and_true true false e = false_true e
and_true false b e = false_true e

pub all_true : {A : Type 0} (f : A → Bool) (xs : List A) → all f xs ≡ true → Every (λ x. f x ≡ true) xs
unfolding all
all_true f [] e = tt
all_true f (x ∷ xs) e = let (a, b) = and_true (f x) (all f xs) e in (a, all_true f xs b)

pub any_true : {A : Type 0} (f : A → Bool) (xs : List A) → any f xs ≡ true → (i : ℕ) × (x : A) × (entry xs i ≡ some x) × (f x ≡ true)
unfolding any entry
any_true f [] e = let z : ◌≡◌ {A = ℕ} 0 1 = cc in absurd (omega arith)
any_true f (x ∷ xs) e = go (any_true f xs) (f x) refl e
  where
    go : (any f xs ≡ true → (i : ℕ) × (y : _) × (entry xs i ≡ some y) × (f y ≡ true)) → (t : Bool) → f x ≡ t → (t || any f xs) ≡ true
        → (i : ℕ) × (y : _) × (entry (x ∷ xs) i ≡ some y) × (f y ≡ true)
    go ih true d e = (0, x, refl, d)
    go ih false d e = let (i, y, a, b) = ih e in (suc i, y, a, b)

pub any_append : {A : Type 0} (f : A → Bool) (xs ys : List A) → any f (xs ++ ys) ≡ (any f xs || any f ys)
unfolding any
any_append f [] ys = refl
any_append f (x ∷ xs) ys = go (f x) (any_append f xs ys)
  where
    go : (b : Bool) → any f (xs ++ ys) ≡ (any f xs || any f ys) → (b || any f (xs ++ ys)) ≡ ((b || any f xs) || any f ys)
    go true h = refl
    go false h = h
