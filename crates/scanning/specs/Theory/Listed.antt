-- Laws of the first entries of an array.
use Rattle.std.specs.Prelude.{◌≡◌, ℕ, zero, suc, ◌<◌, ◌≤◌, List, [], ◌∷◌, ◌++◌, length, take, slice_index, slice_set, refl}
use Rattle.std.proofs.Common.{ap, ◌∙◌, arith}
use Rattle.scanning.specs.ForContracts.Scan.{listed}

pub length_listed : (n : ℕ) (xs : List ℕ) → length (listed n xs) ≡ n
unfolding listed
length_listed zero xs = refl
length_listed (suc n) [] = ap suc (length_listed n [])
length_listed (suc n) (x ∷ xs) = ap suc (length_listed n xs)

pub listed_taken : (n : ℕ) (xs : List ℕ) → n ≤ length xs → listed n xs ≡ take n xs
unfolding listed
listed_taken zero xs h = refl
listed_taken (suc n) [] h = absurd (omega arith)
listed_taken (suc n) (x ∷ xs) h = ap (x ∷◌) (listed_taken n xs (omega arith))

no_entry : (i : ℕ) → ◌≡◌ {A = ℕ} (slice_index [] i) 0
no_entry zero = refl
no_entry (suc i) = refl

pub get_or_listed : (n : ℕ) (xs : List ℕ) (i : ℕ) → i < n → slice_index (listed n xs) i ≡ slice_index xs i
unfolding listed
get_or_listed zero xs i h = absurd (omega arith)
get_or_listed (suc n) [] zero h = refl
get_or_listed (suc n) [] (suc i) h = get_or_listed n [] i (omega arith) ∙ no_entry i
get_or_listed (suc n) (x ∷ xs) zero h = refl
get_or_listed (suc n) (x ∷ xs) (suc i) h = get_or_listed n xs i (omega arith)

pub listed_more : (n : ℕ) (xs : List ℕ) → listed (suc n) xs ≡ listed n xs ++ (slice_index xs n ∷ [])
unfolding listed
listed_more zero [] = refl
listed_more zero (x ∷ xs) = refl
listed_more (suc n) [] = ap (0 ∷◌) (listed_more n [] ∙ ap (λ y. listed n [] ++ (y ∷ [])) (no_entry n))
listed_more (suc n) (x ∷ xs) = ap (x ∷◌) (listed_more n xs)

pub listed_set : (n : ℕ) (xs : List ℕ) (i v : ℕ) → n ≤ i → listed n (slice_set xs i v) ≡ listed n xs
unfolding listed
listed_set zero xs i v h = refl
listed_set (suc n) [] i v h = refl
listed_set (suc n) (x ∷ xs) zero v h = absurd (omega arith)
listed_set (suc n) (x ∷ xs) (suc i) v h = ap (x ∷◌) (listed_set n xs i v (omega arith))
