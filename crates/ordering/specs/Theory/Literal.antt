-- The relation, and each clause by itself, is L1 to L3 word for word: for s = f(s1..sm), t = g(t1..tn), with arguments counted from 0.
use Prim.Native.Nat.{ℕ, zero, suc, ◌<◌}
use Rattle.std.specs.Prelude.{◌≡◌, ◌⊎◌, ◌↔◌}
use Rattle.std.proofs.Math.Path.{refl}
use Rattle.std.proofs.Math.Logic.{inl, inr}
use native.Mathlib.Omega.{arith}
use Rattle.terms.specs.Term.{Term, Terms, app, nil, cons, count, nth}
use Rattle.ordering.specs.Clause.{Clause, by_L1, by_L2, by_L3, clause_of, Applies}
use Rattle.ordering.specs.Theory.Clause.{applied, L1_asks, L2_asks, L3_asks}
use Rattle.path_order.specs.Order.{◌≻◌, SomeReaches, here_equal, here_greater, there, ExceedsAll, none, more, Lexicographic, at_first, at_later}

-- s is `app f ss` and t is `app g ts`; m is `count ss` and n is `count ts`; si is `nth ss i d` and ti is `nth ts i d`.
-- (`nth` gives `d` beyond the end of a list, and no place beyond the end is asked for.)
module _ (f : ℕ) (ss : Terms) (g : ℕ) (ts : Terms) (d : Term) where
  -- "L1: some si > t or si = t"
  abbrev pub Rule1 : Type 0
  Rule1 = (i : ℕ) × (i < count ss) × ((nth ss i d ≻ app g ts) ⊎ (nth ss i d ≡ app g ts))

  -- "L2: f > g and s > tj for every j"
  abbrev pub Rule2 : Type 0
  Rule2 = (g < f) × ((j : ℕ) → j < count ts → app f ss ≻ nth ts j d)

  -- "L3: f = g and for some k, si = ti for i < k, sk > tk, and s > ti for k < i ≤ n"
  abbrev pub Rule3 : Type 0
  Rule3 =
      (f ≡ g) × (k : ℕ) × (k < count ss) × (k < count ts) × ((i : ℕ) → i < k → nth ss i d ≡ nth ts i d) × (nth ss k d ≻ nth ts k d)
      × ((i : ℕ) → k < i → i < count ts → app f ss ≻ nth ts i d)

module _ (d : Term) where
  some_to : {ss : Terms} {t : Term} → SomeReaches ss t → (i : ℕ) × (i < count ss) × ((nth ss i d ≻ t) ⊎ (nth ss i d ≡ t))
  unfolding count nth
  some_to here_equal = (zero, omega arith, inr refl)
  some_to (here_greater g) = (zero, omega arith, inl g)
  some_to (there p) = let (i, h, r) = some_to p in (suc i, omega arith, r)

  some_from : {t : Term} (ss : Terms) (i : ℕ) → i < count ss → (nth ss i d ≻ t) ⊎ (nth ss i d ≡ t) → SomeReaches ss t
  unfolding count nth
  some_from nil i h r = absurd (omega arith)
  some_from (cons s ss) zero h (inl g) = here_greater g
  some_from (cons s ss) zero h (inr e) = rw e here_equal
  some_from (cons s ss) (suc i) h r = there (some_from ss i (omega arith) r)

  all_to : {s : Term} {ts : Terms} → ExceedsAll s ts → (j : ℕ) → j < count ts → s ≻ nth ts j d
  unfolding count nth
  all_to none j h = absurd (omega arith)
  all_to (more g a) zero h = g
  all_to (more g a) (suc j) h = all_to a j (omega arith)

  all_from : {s : Term} (ts : Terms) → ((j : ℕ) → j < count ts → s ≻ nth ts j d) → ExceedsAll s ts
  unfolding count nth
  all_from nil h = none
  all_from (cons t ts) h = more (h zero (omega arith)) (all_from ts (λ j i. h (suc j) (omega arith)))

  -- The conditions on the places before `k` and behind it.
  behind_first : {s : Term} (t : Term) {ts : Terms} → ExceedsAll s ts → (i : ℕ) → 0 < i → i < count (cons t ts) → s ≻ nth (cons t ts) i d
  unfolding count nth
  behind_first t a zero l h = absurd (omega arith)
  behind_first t a (suc i) l h = all_to a i (omega arith)

  before_later : (k : ℕ) (s : Term) (ss ts : Terms) → ((i : ℕ) → i < k → nth ss i d ≡ nth ts i d)
      → (i : ℕ) → i < suc k → nth (cons s ss) i d ≡ nth (cons s ts) i d
  unfolding nth
  before_later k s ss ts b zero l = refl
  before_later k s ss ts b (suc i) l = b i (omega arith)

  behind_later : (k : ℕ) {s : Term} (t : Term) (ts : Terms) → ((i : ℕ) → k < i → i < count ts → s ≻ nth ts i d)
      → (i : ℕ) → suc k < i → i < count (cons t ts) → s ≻ nth (cons t ts) i d
  unfolding count nth
  behind_later k t ts c zero l h = absurd (omega arith)
  behind_later k t ts c (suc i) l h = c i (omega arith) (omega arith)

  lexicographic_to : {s : Term} {ss ts : Terms} → Lexicographic s ss ts
      → (k : ℕ) × (k < count ss) × (k < count ts) × ((i : ℕ) → i < k → nth ss i d ≡ nth ts i d) × (nth ss k d ≻ nth ts k d) × ((i : ℕ) → k < i → i < count ts → s ≻ nth ts i d)
  unfolding count nth
  lexicographic_to (at_first g a) = (zero, omega arith, omega arith, λ i h. absurd (omega arith), g, behind_first _ a)
  lexicographic_to (at_later {s₁ = t} {ss = ss} {ts = ts} l) =
      let (k, x, y, b, g, c) = lexicographic_to l in
      (suc k, omega arith, omega arith, before_later k t ss ts b, g, behind_later k t ts c)

  lexicographic_from : {s : Term} (ss ts : Terms) (k : ℕ) → k < count ss → k < count ts → ((i : ℕ) → i < k → nth ss i d ≡ nth ts i d)
      → nth ss k d ≻ nth ts k d → ((i : ℕ) → k < i → i < count ts → s ≻ nth ts i d) → Lexicographic s ss ts
  unfolding count nth
  lexicographic_from nil ts k x y b g c = absurd (omega arith)
  lexicographic_from (cons s ss) nil k x y b g c = absurd (omega arith)
  lexicographic_from (cons s ss) (cons t ts) zero x y b g c = at_first g (all_from ts (λ j h. c (suc j) (omega arith) (omega arith)))
  lexicographic_from (cons s ss) (cons t ts) (suc k) x y b g c =
      rw (b zero (omega arith)) (at_later (lexicographic_from ss ts k (omega arith) (omega arith) (λ i l. b (suc i) (omega arith)) g (λ i l h. c (suc i) (omega arith) (omega arith))))

-- Each clause by itself: it applies exactly if its words hold.
module _ {f g : ℕ} {ss ts : Terms} (d : Term) where
  pub literal_L1 : Applies by_L1 (app f ss) (app g ts) ↔ Rule1 f ss g ts d
  literal_L1 = (λ x. some_to d (L1_asks.0 x), λ r. L1_asks.1 (some_from d ss r.0 r.1 r.2))

  pub literal_L2 : Applies by_L2 (app f ss) (app g ts) ↔ Rule2 f ss g ts d
  literal_L2 = (λ x. let (i, a) = L2_asks.0 x in (i, all_to d a), λ r. L2_asks.1 (r.0, all_from d ts r.1))

  pub literal_L3 : Applies by_L3 (app f ss) (app g ts) ↔ Rule3 f ss g ts d
  literal_L3 = (
    λ x. let (e, l) = L3_asks.0 x in let (k, m, n, b, h, c) = lexicographic_to d l in (e, k, m, n, b, h, c),
    λ r. let (e, k, m, n, b, h, c) = r in L3_asks.1 (e, lexicographic_from d ss ts k m n b h c),
  )

-- "s > t exactly if" L1 or L2 or L3.
pub ≻_literal : (f : ℕ) (ss : Terms) (g : ℕ) (ts : Terms) (d : Term) → (app f ss ≻ app g ts) ↔ (Rule1 f ss g ts d ⊎ Rule2 f ss g ts d ⊎ Rule3 f ss g ts d)
≻_literal f ss g ts d = (to, from)
  where
    to : app f ss ≻ app g ts → Rule1 f ss g ts d ⊎ Rule2 f ss g ts d ⊎ Rule3 f ss g ts d
    to h = by_clause (clause_of h) (applied h)
      where
        by_clause : (c : Clause) → Applies c (app f ss) (app g ts) → Rule1 f ss g ts d ⊎ Rule2 f ss g ts d ⊎ Rule3 f ss g ts d
        by_clause by_L1 x = inl ((literal_L1 d).0 x)
        by_clause by_L2 x = inr (inl ((literal_L2 d).0 x))
        by_clause by_L3 x = inr (inr ((literal_L3 d).0 x))

    from : Rule1 f ss g ts d ⊎ Rule2 f ss g ts d ⊎ Rule3 f ss g ts d → app f ss ≻ app g ts
    from (inl r) = ((literal_L1 d).1 r).shown
    from (inr (inl r)) = ((literal_L2 d).1 r).shown
    from (inr (inr r)) = ((literal_L3 d).1 r).shown
