-- What a verdict says of any two terms, ground or not.
use Rattle.std.specs.Prelude.{◌<◌, ◌≡◌, refl}
use Rattle.std.proofs.Common.{sym, subst, ◌∙◌, arith}
use Rattle.terms.specs.Term.{Term, Terms, cons, identical?}
use Rattle.path_order.specs.Order.{◌≻◌, SomeReaches, here_equal, here_greater, there}
use Rattle.ordering.specs.Verdict.{Verdict, smaller, equal, greater, verdict, verdict_number}
use Rattle.path_order.proofs.Theory.Laws.{≻_irrefl}
use Rattle.ordering.specs.Theory.Decide.{exceeds?}

abbrev pub Means : Verdict → Term → Term → Type 0
Means smaller s t = (¬ (s ≡ t)) × (¬ (s ≻ t))
Means equal s t = s ≡ t
Means greater s t = s ≻ t

pub verdict_means : (s t : Term) → Means (verdict s t) s t
unfolding verdict
verdict_means s t = go (identical? s t) (exceeds? s t)
  where
    go : (d : Dec (s ≡ t)) (e : Dec (s ≻ t))
        → Means (elim d as (λ x. Verdict) [ yes e ↦ equal | no n ↦ elim e as (λ x. Verdict) [ yes g ↦ greater | no m ↦ smaller ] ]) s t
    go (yes p) e = p
    go (no n) (yes g) = g
    go (no n) (no m) = (n, m)

pub means_verdict : (s t : Term) (v : Verdict) → Means v s t → verdict s t ≡ v
unfolding verdict
means_verdict s t v h = go (identical? s t) (exceeds? s t) v h
  where
    go : (d : Dec (s ≡ t)) (e : Dec (s ≻ t)) (v : Verdict) → Means v s t
        → elim d as (λ x. Verdict) [ yes e ↦ equal | no n ↦ elim e as (λ x. Verdict) [ yes g ↦ greater | no m ↦ smaller ] ] ≡ v
    go (yes p) e smaller h = absurd (h.0 p)
    go (yes p) e equal h = refl
    go (yes p) e greater h = absurd (≻_irrefl (rw p at h))
    go (no n) (yes g) smaller h = absurd (h.1 g)
    go (no n) (yes g) equal h = absurd (n h)
    go (no n) (yes g) greater h = refl
    go (no n) (no m) smaller h = refl
    go (no n) (no m) equal h = absurd (n h)
    go (no n) (no m) greater h = absurd (m h)

pub some_later : {s t : Term} {ss : Terms} → Means smaller s t → SomeReaches (cons s ss) t → SomeReaches ss t
some_later m here_equal = absurd (m.0 refl)
some_later m (here_greater g) = absurd (m.1 g)
some_later m (there p) = p

-- From the verdict.
module _ (s t : Term) {r : Verdict} (e : r ≡ verdict s t) where
  pub verdict_told : Means r s t
  verdict_told = subst (λ v. Means v s t) (sym e) (verdict_means s t)

  told_as : {v : Verdict} → r ≡ v → Means v s t
  told_as d = subst (λ v. Means v s t) d verdict_told

  pub told_smaller : r ≡ smaller → Means smaller s t
  told_smaller d = told_as d

  pub told_equal : r ≡ equal → s ≡ t
  told_equal d = told_as d

  pub told_greater : r ≡ greater → s ≻ t
  told_greater d = told_as d

  pub told_not_greater : ¬ (r ≡ greater) → ¬ (s ≻ t)
  told_not_greater n g = n (e ∙ means_verdict s t greater g)

  -- L1: the first argument, or one of the others.
  pub reaches_first : {ss : Terms} → ¬ (r ≡ smaller) → SomeReaches (cons s ss) t
  reaches_first {ss} n = go r n verdict_told
    where
      go : (v : Verdict) → ¬ (v ≡ smaller) → Means v s t → SomeReaches (cons s ss) t
      go smaller n m = absurd (n refl)
      go equal n m = rw m here_equal
      go greater n m = here_greater m

  pub reaches_later : {ss : Terms} → r ≡ smaller → SomeReaches (cons s ss) t → SomeReaches ss t
  reaches_later d p = some_later (told_smaller d) p

pub number_few : (v : Verdict) → verdict_number v < 3
unfolding verdict_number
number_few smaller = omega arith
number_few equal = omega arith
number_few greater = omega arith

-- The number tells the verdict.
pub number_unique : (v w : Verdict) → verdict_number v ≡ verdict_number w → v ≡ w
unfolding verdict_number
number_unique smaller smaller e = refl
number_unique smaller equal e = absurd (omega arith)
number_unique smaller greater e = absurd (omega arith)
number_unique equal smaller e = absurd (omega arith)
number_unique equal equal e = refl
number_unique equal greater e = absurd (omega arith)
number_unique greater smaller e = absurd (omega arith)
number_unique greater equal e = absurd (omega arith)
number_unique greater greater e = refl
