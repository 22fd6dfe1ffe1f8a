-- The ordering is total on ground terms over the sheet's symbols, and the verdict says what the relation says.
use Rattle.std.specs.Prelude.{ℕ, ◌<◌, ◌≡◌, ◌⊎◌, ◌↔◌, List}
use Rattle.std.proofs.Math.Path.{refl}
use Rattle.std.proofs.Common.{sym, subst, inl, inr, arith}
use Rattle.std.proofs.Math.Decide.{ℕ_discrete, dec_lt}
use Rattle.terms.specs.Term.{Term, Terms, app, nil, cons, count, Ground, Grounds, identical?}
use Rattle.terms.specs.Theory.Induction.{Each, each_nil, each_cons, each_map, term_ind}
use Rattle.path_order.specs.Order.{◌≻◌, L1, L2, L3, SomeReaches, here_equal, here_greater, there, ExceedsAll, none, more, Lexicographic, at_first, at_later}
use Rattle.ordering.specs.Verdict.{Verdict, smaller, equal, greater, verdict}
use Rattle.path_order.proofs.Theory.Laws.{≻_irrefl, ≻_asym}
use Rattle.ordering.specs.Theory.Decide.{exceeds?}

-- Exactly one of s > t, s = t, t > s.
pub data Trichotomy (s t : Term) : Type 0 where
  exceeds : s ≻ t → ¬ (s ≡ t) → ¬ (t ≻ s) → Trichotomy s t
  same : ¬ (s ≻ t) → s ≡ t → ¬ (t ≻ s) → Trichotomy s t
  exceeded : ¬ (s ≻ t) → ¬ (s ≡ t) → t ≻ s → Trichotomy s t

by_exceeds : {s t : Term} → s ≻ t → Trichotomy s t
by_exceeds g = exceeds g (λ e. ≻_irrefl (rw e at g)) (≻_asym g)

by_same : {s t : Term} → s ≡ t → Trichotomy s t
by_same e = same (λ g. ≻_irrefl (rw e at g)) e (λ g. ≻_irrefl (rw e at g))

by_exceeded : {s t : Term} → t ≻ s → Trichotomy s t
by_exceeded g = exceeded (≻_asym g) (λ e. ≻_irrefl (rw e at g)) g

swap : {s t : Term} → Trichotomy s t → Trichotomy t s
swap (exceeds g n m) = by_exceeded g
swap (same n e m) = by_same (sym e)
swap (exceeded n m g) = by_exceeds g

-- The same of two lists of arguments, `w` and `v` being the terms that have them.
data Trichotomies (w v : Term) (ss ts : Terms) : Type 0 where
  exceeds_list : Lexicographic w ss ts → Trichotomies w v ss ts
  same_list : ss ≡ ts → Trichotomies w v ss ts
  exceeded_list : Lexicographic v ts ss → Trichotomies w v ss ts

some_or_all : {t : Term} {ss : Terms} → Each (λ s. Trichotomy s t) ss → SomeReaches ss t ⊎ ExceedsAll t ss
some_or_all each_nil = inr none
some_or_all (each_cons (exceeds g n m) ps) = inl (here_greater g)
some_or_all (each_cons (same n e m) ps) = inl (rw e here_equal)
some_or_all (each_cons (exceeded n m g) ps) = elim (some_or_all ps) [ inl p ↦ inl (there p) | inr a ↦ inr (more g a) ]

head_and_tail : {w v s t : Term} {ss ts : Terms} → ExceedsAll w ts → ExceedsAll v ss → Trichotomy s t → Trichotomies w v ss ts
    → Trichotomies w v (cons s ss) (cons t ts)
head_and_tail a b (exceeds g n m) r = exceeds_list (at_first g a)
head_and_tail a b (exceeded n m g) r = exceeded_list (at_first g b)
head_and_tail a b (same n e m) (exceeds_list l) = exceeds_list (rw e (at_later l))
head_and_tail a b (same n e m) (same_list d) = same_list (cc)
head_and_tail a b (same n e m) (exceeded_list l) = exceeded_list (rw e (at_later l))

same_symbol : {f g : ℕ} {ss ts : Terms} → f ≡ g → Trichotomies (app f ss) (app g ts) ss ts → Trichotomy (app f ss) (app g ts)
same_symbol e (exceeds_list l) = by_exceeds (rw (← e) (L3 l))
same_symbol e (same_list d) = by_same (cc)
same_symbol e (exceeded_list l) = by_exceeded (rw e (L3 l))

module _ (arities : List ℕ) where
  abbrev Compared : Term → Type 0
  Compared s = (t : Term) → Ground arities t → Trichotomy s t

  each_ground : {P : Term → Type 0} {ts : Terms} → Each (λ t. Ground arities t → P t) ts → Grounds arities ts → Each P ts
  each_ground each_nil g = each_nil
  each_ground (each_cons p ps) g = each_cons (p g.0) (each_ground ps g.1)

  arguments : {w v : Term} {ss ts : Terms} → Each Compared ss → Grounds arities ts → count ss ≡ count ts → ExceedsAll w ts → ExceedsAll v ss
      → Trichotomies w v ss ts
  unfolding count
  arguments each_nil g e none b = same_list refl
  arguments each_nil g e (more x a) b = absurd (omega arith)
  arguments (each_cons p ps) g e none b = absurd (omega arith)
  arguments (each_cons p ps) g e (more x a) (more y b) = head_and_tail a b (p _ g.0) (arguments ps g.1 (omega arith) a b)

  app_app : {f g : ℕ} {ss ts : Terms} → Ground arities (app f ss) → Ground arities (app g ts) → Each Compared ss → Each (Trichotomy (app f ss)) ts
      → Trichotomy (app f ss) (app g ts)
  app_app {f} {g} {ss} {ts} x y ps rs =
      elim (some_or_all (each_map (λ s p. p (app g ts) y) ps)) [
        | inl p ↦ by_exceeds (L1 p)
        | inr a ↦ elim (some_or_all (each_map (λ t v. swap v) rs)) [
          | inl q ↦ by_exceeded (L1 q)
          | inr b ↦ elim (dec_lt g f) [
            | yes i ↦ by_exceeds (L2 i b)
            | no i ↦ elim (ℕ_discrete f g) [
              | yes e ↦ same_symbol e (arguments ps y.2 (cc) b a)
              | no n ↦ let j : f < g = omega arith in by_exceeded (L2 j a)
            ]
          ]
        ]
      ]

  -- Of two ground terms exactly one of the three holds.
  pub trichotomy : {s t : Term} → Ground arities s → Ground arities t → Trichotomy s t
  trichotomy {s} {t} x y =
      term_ind (λ s. Ground arities s → Compared s) (λ v x. absurd x) (λ f ss ps x.
      term_ind (λ t. Ground arities t → Trichotomy (app f ss) t) (λ v y. absurd y) (λ g ts rs y.
      app_app x y (each_ground ps x.2) (each_ground rs y.2))) s x t y

  each_compared : {s : Term} → Ground arities s → (ts : Terms) → Grounds arities ts → Each (λ t. Trichotomy t s) ts
  each_compared x nil y = each_nil
  each_compared x (cons t ts) y = each_cons (trichotomy y.0 x) (each_compared x ts y.1)

  -- Of ground terms one reaches s, or s exceeds them all; not both, by `exceeded_not_reached`.
  pub reached_or_exceeded : {s : Term} → Ground arities s → (ts : Terms) → Grounds arities ts → SomeReaches ts s ⊎ ExceedsAll s ts
  reached_or_exceeded x ts y = some_or_all (each_compared x ts y)

pub exceeded_not_reached : {s : Term} {ts : Terms} → ExceedsAll s ts → ¬ SomeReaches ts s
exceeded_not_reached (more g a) here_equal = ≻_irrefl g
exceeded_not_reached (more g a) (here_greater h) = ≻_asym g h
exceeded_not_reached (more g a) (there p) = exceeded_not_reached a p
exceeded_not_reached (none {s = s}) x4 = elim x4 [ ]

-- What a verdict says of two terms.
abbrev pub VerdictSays : Verdict → Term → Term → Type 0
VerdictSays smaller s t = t ≻ s
VerdictSays equal s t = s ≡ t
VerdictSays greater s t = s ≻ t

-- One derivation, or one equation, gives the verdict.
pub verdict_is : (s t : Term) (v : Verdict) → VerdictSays v s t → verdict s t ≡ v
unfolding verdict
verdict_is s t v h = go (identical? s t) (exceeds? s t) v h
  where
    go : (d : Dec (s ≡ t)) (e : Dec (s ≻ t)) (v : Verdict) → VerdictSays v s t
        → elim d as (λ x. Verdict) [ yes e ↦ equal | no n ↦ elim e as (λ x. Verdict) [ yes g ↦ greater | no m ↦ smaller ] ] ≡ v
    go (yes p) e smaller h = absurd (≻_irrefl (rw p at h))
    go (yes p) e equal h = refl
    go (yes p) e greater h = absurd (≻_irrefl (rw p at h))
    go (no n) (yes g) smaller h = absurd (≻_asym g h)
    go (no n) (yes g) equal h = absurd (n h)
    go (no n) (yes g) greater h = refl
    go (no n) (no m) smaller h = refl
    go (no n) (no m) equal h = absurd (n h)
    go (no n) (no m) greater h = absurd (m h)

module _ (arities : List ℕ) (s t : Term) (x : Ground arities s) (y : Ground arities t) where
  -- What the verdict says holds.
  pub verdict_says : VerdictSays (verdict s t) s t
  verdict_says = go (trichotomy arities x y)
    where
      go : Trichotomy s t → VerdictSays (verdict s t) s t
      go (exceeds g n m) = rw (verdict_is s t greater g) g
      go (same n e m) = rw (verdict_is s t equal e) e
      go (exceeded n m g) = rw (verdict_is s t smaller g) g

  -- The verdict is `v` exactly if what `v` says holds; and this of each of the three.
  pub verdict_exact : (v : Verdict) → (verdict s t ≡ v) ↔ VerdictSays v s t
  verdict_exact v = (λ e. subst (λ w. VerdictSays w s t) e verdict_says, verdict_is s t v)

  pub verdict_greater : (verdict s t ≡ greater) ↔ (s ≻ t)
  verdict_greater = verdict_exact greater

  pub verdict_equal : (verdict s t ≡ equal) ↔ (s ≡ t)
  verdict_equal = verdict_exact equal

  pub verdict_smaller : (verdict s t ≡ smaller) ↔ (t ≻ s)
  verdict_smaller = verdict_exact smaller
