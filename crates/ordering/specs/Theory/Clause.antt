-- What each clause asks, and that where s > t one of them applies.
use Rattle.std.specs.Prelude.{ℕ, ◌<◌, ◌≡◌, refl, ◌↔◌}
use Rattle.std.proofs.Common.{arith}
use Rattle.terms.specs.Term.{Term, Terms, var, app}
use Rattle.path_order.specs.Order.{◌≻◌, L1, L2, L3, SomeReaches, ExceedsAll, Lexicographic}
use Rattle.ordering.specs.Clause.{Clause, by_L1, by_L2, by_L3, clause_of, Applies}

-- The clause of a derivation applies.
pub applied : {s t : Term} (g : s ≻ t) → Applies (clause_of g) s t
applied g = record { shown = g; by = refl }

-- Where no clause applies, s does not exceed t.
pub none_applies : {s t : Term} → ¬ Applies by_L1 s t → ¬ Applies by_L2 s t → ¬ Applies by_L3 s t → ¬ (s ≻ t)
none_applies {s} {t} n m k g = go (clause_of g) (applied g)
  where
    go : (c : Clause) → ¬ Applies c s t
    go by_L1 = n
    go by_L2 = m
    go by_L3 = k

asked_by_L1 : {f : ℕ} {ss : Terms} {t : Term} (g : app f ss ≻ t) → clause_of g ≡ by_L1 → SomeReaches ss t
unfolding clause_of
asked_by_L1 (L1 p) e = p
asked_by_L1 (L2 i a) e = let z : ◌≡◌ {A = ℕ} 0 1 = cc in absurd (omega arith)
asked_by_L1 (L3 l) e = let z : ◌≡◌ {A = ℕ} 0 1 = cc in absurd (omega arith)

-- L1 applies exactly if "some si > t or si = t".
pub L1_asks : {f : ℕ} {ss : Terms} {t : Term} → Applies by_L1 (app f ss) t ↔ SomeReaches ss t
unfolding clause_of
L1_asks = (λ x. asked_by_L1 x.shown x.by, λ p. record { shown = L1 p; by = refl })

asked_by_L2 : {f g : ℕ} {ss ts : Terms} (h : app f ss ≻ app g ts) → clause_of h ≡ by_L2 → (g < f) × ExceedsAll (app f ss) ts
unfolding clause_of
asked_by_L2 (L1 p) e = let z : ◌≡◌ {A = ℕ} 0 1 = cc in absurd (omega arith)
asked_by_L2 (L2 i a) e = (i, a)
asked_by_L2 (L3 l) e = let z : ◌≡◌ {A = ℕ} 0 1 = cc in absurd (omega arith)

-- L2 applies exactly if "f > g and s > tj for every j".
pub L2_asks : {f g : ℕ} {ss ts : Terms} → Applies by_L2 (app f ss) (app g ts) ↔ ((g < f) × ExceedsAll (app f ss) ts)
unfolding clause_of
L2_asks = (λ x. asked_by_L2 x.shown x.by, λ a. record { shown = L2 a.0 a.1; by = refl })

asked_by_L3 : {f g : ℕ} {ss ts : Terms} (h : app f ss ≻ app g ts) → clause_of h ≡ by_L3 → (f ≡ g) × Lexicographic (app f ss) ss ts
unfolding clause_of
asked_by_L3 (L1 p) e = let z : ◌≡◌ {A = ℕ} 0 1 = cc in absurd (omega arith)
asked_by_L3 (L2 i a) e = let z : ◌≡◌ {A = ℕ} 0 1 = cc in absurd (omega arith)
asked_by_L3 (L3 l) e = (refl, l)

by_lexicographic : {f g : ℕ} {ss ts : Terms} → f ≡ g → Lexicographic (app f ss) ss ts → Applies by_L3 (app f ss) (app g ts)
unfolding clause_of
by_lexicographic e l = rw (← e) (record { shown = L3 l; by = refl })

-- L3 applies exactly if "f = g and for some k, si = ti for i < k, sk > tk, and s > ti for k < i ≤ n".
pub L3_asks : {f g : ℕ} {ss ts : Terms} → Applies by_L3 (app f ss) (app g ts) ↔ ((f ≡ g) × Lexicographic (app f ss) ss ts)
L3_asks = (λ x. asked_by_L3 x.shown x.by, λ a. by_lexicographic a.0 a.1)

-- Against a variable only L1 can apply.
var_by_L1 : {f v : ℕ} {ss : Terms} (g : app f ss ≻ var v) → clause_of g ≡ by_L1
unfolding clause_of
var_by_L1 (L1 p) = refl

pub var_not_L2 : {f v : ℕ} {ss : Terms} → ¬ Applies by_L2 (app f ss) (var v)
var_not_L2 x = let e = var_by_L1 x.shown in let d = x.by in let z : ◌≡◌ {A = ℕ} 0 1 = cc in omega arith

pub var_not_L3 : {f v : ℕ} {ss : Terms} → ¬ Applies by_L3 (app f ss) (var v)
var_not_L3 x = let e = var_by_L1 x.shown in let d = x.by in let z : ◌≡◌ {A = ℕ} 0 1 = cc in omega arith
