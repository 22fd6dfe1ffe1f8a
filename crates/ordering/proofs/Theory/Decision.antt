-- The clause that decided is the first that applies.
use Rattle.std.specs.Prelude.{ℕ, ◌<◌, ◌≡◌, ◌↔◌, List}
use Rattle.std.proofs.Math.Path.{refl}
use Rattle.std.proofs.Common.{ap, subst, arith}
use mathlib.Core.Logic.Iff
use Rattle.terms.specs.Term.{Term, Terms, app, Ground}
use Rattle.path_order.specs.Order.{◌≻◌, SomeReaches}
use Rattle.ordering.specs.Verdict.{Verdict, smaller, equal, greater, verdict}
use Rattle.ordering.specs.Clause.{Clause, by_L1, by_L2, by_L3, Applies, FirstApplies}
use Rattle.ordering.specs.Decision.{Decision, smaller_by, equal_terms, greater_by, first_clause, decision, verdict_of, clause_number, clause_number_of}
use Rattle.ordering.specs.Theory.Clause.{none_applies, L1_asks, L2_asks}
use Rattle.ordering.specs.Theory.Decide.{applies?}
use Rattle.ordering.specs.Theory.Question.{exceeds_below}
use Rattle.ordering.specs.Theory.Total.{VerdictSays, verdict_is, verdict_says}
use Rattle.ordering.specs.Theory.Literal.{Rule1, Rule2, Rule3, literal_L1, literal_L2, literal_L3}

-- Where a clause is the first that applies, s > t.
pub first_shown : (c : Clause) {s t : Term} → FirstApplies c s t → s ≻ t
first_shown by_L1 x = x.shown
first_shown by_L2 x = x.1.shown
first_shown by_L3 x = x.2.shown

module _ (s t : Term) where
  -- There is one first clause, and `first_clause` gives it.
  pub first_is : (c : Clause) → FirstApplies c s t → first_clause s t ≡ c
  unfolding first_clause
  first_is c h = go (applies? by_L1 s t) (applies? by_L2 s t) c h
    where
      go : (d : Dec (Applies by_L1 s t)) (e : Dec (Applies by_L2 s t)) (c : Clause) → FirstApplies c s t
          → elim d as (λ x. Clause) [ yes x ↦ by_L1 | no n ↦ elim e as (λ x. Clause) [ yes x ↦ by_L2 | no m ↦ by_L3 ] ] ≡ c
      go (yes x) e by_L1 h = refl
      go (yes x) e by_L2 h = absurd (h.0 x)
      go (yes x) e by_L3 h = absurd (h.0 x)
      go (no n) e by_L1 h = absurd (n h)
      go (no n) (yes x) by_L2 h = refl
      go (no n) (yes x) by_L3 h = absurd (h.1 x)
      go (no n) (no m) by_L2 h = absurd (m h.1)
      go (no n) (no m) by_L3 h = refl

  -- Where s > t, `first_clause` gives the first clause that applies.
  pub first_applies : s ≻ t → FirstApplies (first_clause s t) s t
  unfolding first_clause
  first_applies g = go (applies? by_L1 s t) (applies? by_L2 s t) (applies? by_L3 s t)
    where
      go : (d : Dec (Applies by_L1 s t)) (e : Dec (Applies by_L2 s t)) → Dec (Applies by_L3 s t)
          → FirstApplies (elim d as (λ x. Clause) [ yes x ↦ by_L1 | no n ↦ elim e as (λ x. Clause) [ yes x ↦ by_L2 | no m ↦ by_L3 ] ]) s t
      go (yes x) e k = x
      go (no n) (yes x) k = (n, x)
      go (no n) (no m) (yes x) = (n, m, x)
      go (no n) (no m) (no k) = absurd (none_applies n m k g)

  -- The decision's verdict is the verdict.
  pub decision_verdict : verdict_of (decision s t) ≡ verdict s t
  unfolding decision verdict_of
  decision_verdict = go (verdict s t)
    where
      go : (v : Verdict) → verdict_of (elim v as (λ x. Decision) [ smaller ↦ smaller_by (first_clause t s) | equal ↦ equal_terms | greater ↦ greater_by (first_clause s t) ]) ≡ v
      go smaller = refl
      go equal = refl
      go greater = refl

-- The first clause where s > t is known, by whether an argument of s reaches t, and by the symbols.
module _ (f : ℕ) {g : ℕ} {ss ts : Terms} where
  pub reached_L1 : SomeReaches ss (app g ts) → first_clause (app f ss) (app g ts) ≡ by_L1
  reached_L1 p = first_is (app f ss) (app g ts) by_L1 (L1_asks.1 p)

  module _ (h : app f ss ≻ app g ts) (n : ¬ SomeReaches ss (app g ts)) where
    pub greater_symbol_L2 : g < f → first_clause (app f ss) (app g ts) ≡ by_L2
    greater_symbol_L2 i = first_is (app f ss) (app g ts) by_L2 (λ x. n (L1_asks.0 x), L2_asks.1 (i, exceeds_below ts h))

    pub no_greater_symbol_L3 : ¬ (g < f) → first_clause (app f ss) (app g ts) ≡ by_L3
    no_greater_symbol_L3 i = left (first_clause (app f ss) (app g ts)) (first_applies (app f ss) (app g ts) h)
      where
        left : (c : Clause) → FirstApplies c (app f ss) (app g ts) → c ≡ by_L3
        left by_L1 x = absurd (n (L1_asks.0 x))
        left by_L2 x = absurd (i (L2_asks.0 x.1).0)
        left by_L3 x = refl

-- A decision by its verdict, for those who use the verdict alone.
pub verdict_of_smaller : {r : Decision} {c : Clause} → r ≡ smaller_by c → verdict_of r ≡ smaller
unfolding verdict_of
verdict_of_smaller e = ap verdict_of e

pub verdict_of_equal : {r : Decision} → r ≡ equal_terms → verdict_of r ≡ equal
unfolding verdict_of
verdict_of_equal e = ap verdict_of e

pub verdict_of_greater : {r : Decision} {c : Clause} → r ≡ greater_by c → verdict_of r ≡ greater
unfolding verdict_of
verdict_of_greater e = ap verdict_of e

pub is_smaller : (r : Decision) → verdict_of r ≡ smaller → (c : Clause) × (r ≡ smaller_by c)
unfolding verdict_of
is_smaller (smaller_by c) e = (c, refl)
is_smaller equal_terms e = let z : ◌≡◌ {A = ℕ} 0 1 = cc in absurd (omega arith)
is_smaller (greater_by c) e = let z : ◌≡◌ {A = ℕ} 0 1 = cc in absurd (omega arith)

pub is_equal : (r : Decision) → verdict_of r ≡ equal → r ≡ equal_terms
unfolding verdict_of
is_equal (smaller_by c) e = let z : ◌≡◌ {A = ℕ} 0 1 = cc in absurd (omega arith)
is_equal equal_terms e = refl
is_equal (greater_by c) e = let z : ◌≡◌ {A = ℕ} 0 1 = cc in absurd (omega arith)

pub is_greater : (r : Decision) → verdict_of r ≡ greater → (c : Clause) × (r ≡ greater_by c)
unfolding verdict_of
is_greater (smaller_by c) e = let z : ◌≡◌ {A = ℕ} 0 1 = cc in absurd (omega arith)
is_greater equal_terms e = let z : ◌≡◌ {A = ℕ} 0 1 = cc in absurd (omega arith)
is_greater (greater_by c) e = (c, refl)

-- What a decision says of two terms.
abbrev pub DecisionSays : Decision → Term → Term → Type 0
DecisionSays (smaller_by c) s t = FirstApplies c t s
DecisionSays equal_terms s t = s ≡ t
DecisionSays (greater_by c) s t = FirstApplies c s t

pub decision_is : (s t : Term) (d : Decision) → DecisionSays d s t → decision s t ≡ d
unfolding decision
decision_is s t (smaller_by c) h = rw (verdict_is s t smaller (first_shown c h), decision) (ap smaller_by (first_is t s c h))
decision_is s t equal_terms h = rw (verdict_is s t equal h, decision)
decision_is s t (greater_by c) h = rw (verdict_is s t greater (first_shown c h), decision) (ap greater_by (first_is s t c h))

module _ (arities : List ℕ) (s t : Term) (x : Ground arities s) (y : Ground arities t) where
  pub decision_says : DecisionSays (decision s t) s t
  unfolding decision
  decision_says = go (verdict s t) (verdict_says arities s t x y)
    where
      go : (v : Verdict) → VerdictSays v s t
          → DecisionSays (elim v as (λ x. Decision) [ smaller ↦ smaller_by (first_clause t s) | equal ↦ equal_terms | greater ↦ greater_by (first_clause s t) ]) s t
      go smaller h = first_applies t s h
      go equal h = h
      go greater h = first_applies s t h

  -- The decision is `d` exactly if what `d` says holds.
  pub decision_exact : (d : Decision) → (decision s t ≡ d) ↔ DecisionSays d s t
  decision_exact d = (λ e. subst (λ d. DecisionSays d s t) e decision_says, decision_is s t d)

-- The verdict and the clause's number tell the decision.
clause_unique : (c d : Clause) → clause_number c ≡ clause_number d → c ≡ d
unfolding clause_number
clause_unique by_L1 by_L1 e = refl
clause_unique by_L1 by_L2 e = absurd (omega arith)
clause_unique by_L1 by_L3 e = absurd (omega arith)
clause_unique by_L2 by_L1 e = absurd (omega arith)
clause_unique by_L2 by_L2 e = refl
clause_unique by_L2 by_L3 e = absurd (omega arith)
clause_unique by_L3 by_L1 e = absurd (omega arith)
clause_unique by_L3 by_L2 e = absurd (omega arith)
clause_unique by_L3 by_L3 e = refl

pub decision_unique : (c d : Decision) → verdict_of c ≡ verdict_of d → clause_number_of c ≡ clause_number_of d → c ≡ d
unfolding verdict_of clause_number_of
decision_unique (smaller_by b) (smaller_by c) v e = ap smaller_by (clause_unique b c e)
decision_unique (smaller_by b) equal_terms v e = let z : ◌≡◌ {A = ℕ} 0 1 = cc in absurd (omega arith)
decision_unique (smaller_by b) (greater_by c) v e = let z : ◌≡◌ {A = ℕ} 0 1 = cc in absurd (omega arith)
decision_unique equal_terms (smaller_by c) v e = let z : ◌≡◌ {A = ℕ} 0 1 = cc in absurd (omega arith)
decision_unique equal_terms equal_terms v e = refl
decision_unique equal_terms (greater_by c) v e = let z : ◌≡◌ {A = ℕ} 0 1 = cc in absurd (omega arith)
decision_unique (greater_by b) (smaller_by c) v e = let z : ◌≡◌ {A = ℕ} 0 1 = cc in absurd (omega arith)
decision_unique (greater_by b) equal_terms v e = let z : ◌≡◌ {A = ℕ} 0 1 = cc in absurd (omega arith)
decision_unique (greater_by b) (greater_by c) v e = ap greater_by (clause_unique b c e)

-- Three equivalences side by side.
and_three : {A B C D E F : Type 0} → A ↔ B → C ↔ D → E ↔ F → (A × C × E) ↔ (B × D × F)
and_three x y z = (λ p. (x.0 p.0, y.0 p.1, z.0 p.2), λ p. (x.1 p.0, y.1 p.1, z.1 p.2))

-- In the paper's words: s = f(s1..sm) and t = g(t1..tn) are ground terms over the sheet's symbols. `d` stands beyond the end of a list and is never asked for.
module _ (arities : List ℕ) (f : ℕ) (ss : Terms) (g : ℕ) (ts : Terms) (d : Term) (x : Ground arities (app f ss)) (y : Ground arities (app g ts)) where
  told : (c : Decision) → (decision (app f ss) (app g ts) ≡ c) ↔ DecisionSays c (app f ss) (app g ts)
  told c = decision_exact arities (app f ss) (app g ts) x y c

  -- Greater by L1: L1 applies to s and t.
  pub greater_by_L1 : (decision (app f ss) (app g ts) ≡ greater_by by_L1) ↔ Rule1 f ss g ts d
  greater_by_L1 = Iff.trans (told (greater_by by_L1)) (literal_L1 d)

  -- Greater by L2: L1 does not apply to s and t, and L2 does.
  pub greater_by_L2 : (decision (app f ss) (app g ts) ≡ greater_by by_L2) ↔ ((¬ Rule1 f ss g ts d) × Rule2 f ss g ts d)
  greater_by_L2 = Iff.trans (told (greater_by by_L2)) (Iff.and (Iff.not (literal_L1 d)) (literal_L2 d))

  -- Greater by L3: L1 and L2 do not apply to s and t, and L3 does.
  pub greater_by_L3 : (decision (app f ss) (app g ts) ≡ greater_by by_L3) ↔ ((¬ Rule1 f ss g ts d) × (¬ Rule2 f ss g ts d) × Rule3 f ss g ts d)
  greater_by_L3 = Iff.trans (told (greater_by by_L3)) (and_three (Iff.not (literal_L1 d)) (Iff.not (literal_L2 d)) (literal_L3 d))

  -- Equal: s and t are identical.
  pub equal_exactly : (decision (app f ss) (app g ts) ≡ equal_terms) ↔ (app f ss ≡ app g ts)
  equal_exactly = told equal_terms

  -- Smaller by L1: L1 applies the other way round, to t and s.
  pub smaller_by_L1 : (decision (app f ss) (app g ts) ≡ smaller_by by_L1) ↔ Rule1 g ts f ss d
  smaller_by_L1 = Iff.trans (told (smaller_by by_L1)) (literal_L1 d)

  -- Smaller by L2: L1 does not apply to t and s, and L2 does.
  pub smaller_by_L2 : (decision (app f ss) (app g ts) ≡ smaller_by by_L2) ↔ ((¬ Rule1 g ts f ss d) × Rule2 g ts f ss d)
  smaller_by_L2 = Iff.trans (told (smaller_by by_L2)) (Iff.and (Iff.not (literal_L1 d)) (literal_L2 d))

  -- Smaller by L3: L1 and L2 do not apply to t and s, and L3 does.
  pub smaller_by_L3 : (decision (app f ss) (app g ts) ≡ smaller_by by_L3) ↔ ((¬ Rule1 g ts f ss d) × (¬ Rule2 g ts f ss d) × Rule3 g ts f ss d)
  smaller_by_L3 = Iff.trans (told (smaller_by by_L3)) (and_three (Iff.not (literal_L1 d)) (Iff.not (literal_L2 d)) (literal_L3 d))
