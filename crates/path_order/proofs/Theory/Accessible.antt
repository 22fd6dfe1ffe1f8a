-- Every ground term over a sheet's symbols is accessible (document 02, W10): by its symbol, then by its arguments place by place, then by the term below it.
use Prim.Native.Nat.{ℕ, zero, suc, ◌<◌}
use Rattle.std.specs.Prelude.{◌≡◌, List}
use mathlib.Core.WellFounded.Acc
use mathlib.Core.WellFounded.{Acc, WellFounded}
use Rattle.std.proofs.Common.{arith}
use Rattle.terms.specs.Term.{Term, Terms, app, nil, cons, count, arity, Ground, Grounds}
use Rattle.terms.specs.Theory.Induction.{Each, each_nil, each_cons, term_ind}
use Rattle.path_order.specs.Order.{◌≻◌, L1, L2, L3, SomeReaches, here_equal, here_greater, there, ExceedsAll, none, more, Lexicographic, at_first, at_later}
use Rattle.path_order.specs.Below.{Below}

-- One list of terms is above another: at the first place where they differ it has the greater term.
data Above : Terms → Terms → Type 0 where
  at_this : {s t : Term} {ss ts : Terms} → s ≻ t → Above (cons s ss) (cons t ts)
  further : {s : Term} {ss ts : Terms} → Above ss ts → Above (cons s ss) (cons s ts)

above_nothing : {ts : Terms} → ¬ Above nil ts
above_nothing l = elim l [ ]

lexicographic_above : {s : Term} {ss ts : Terms} → Lexicographic s ss ts → Above ss ts
lexicographic_above (at_first h a) = at_this h
lexicographic_above (at_later l) = further (lexicographic_above l)

module _ (arities : List ℕ) where
  abbrev Accessible : Term → Type 0
  Accessible = Acc (Below arities)

  abbrev Accessibles : Terms → Type 0
  Accessibles ss = Each Accessible ss

  -- 1. Induction on lists of `n` accessible ground terms: `P` holds of such a list wherever it holds of all that it is above.
  abbrev GroundAccessible : Terms → Type 0
  GroundAccessible ss = Grounds arities ss × Accessibles ss

  abbrev Progressive : ℕ → (Terms → Type 0) → Type 0
  Progressive n P = (ss : Terms) → count ss ≡ n → GroundAccessible ss → ((ts : Terms) → count ts ≡ n → GroundAccessible ts → Above ss ts → P ts) → P ss

  -- By the first term and then by the others.
  by_first : (n : ℕ) (P : Terms → Type 0) → Progressive (suc n) P → ((Q : Terms → Type 0) → Progressive n Q → (ss : Terms) → count ss ≡ n → GroundAccessible ss → Q ss)
      → {s : Term} → Accessible s → Ground arities s → (ss : Terms) → count ss ≡ n → GroundAccessible ss → P (cons s ss)
  unfolding count
  by_first n P step others (Acc.intro s k) g = others (λ ss. P (cons s ss)) (λ ss e a below.
      step (cons s ss) (omega arith) ((g, a.0), each_cons (Acc.intro s k) a.1) (λ ts d b l. go (λ t y h. by_first n P step others (k t (y, h)) y) below d b.0 b.1 l))
    where
      go : ((t : Term) → Ground arities t → s ≻ t → (ts : Terms) → count ts ≡ n → GroundAccessible ts → P (cons t ts)) → {ss : Terms}
          → ((ts : Terms) → count ts ≡ n → GroundAccessible ts → Above ss ts → P (cons s ts)) → {ts : Terms} → count ts ≡ suc n → Grounds arities ts → Accessibles ts → Above (cons s ss) ts → P ts
      go smaller below d y (each_cons x xs) (at_this {t = t} {ts = ts} h) = smaller t y.0 h ts (omega arith) (y.1, xs)
      go smaller below d y (each_cons x xs) (further {ts = ts} l) = below ts (omega arith) (y.1, xs) l
      go smaller {ss = ss} below d y each_nil x8 = elim x8 [ ]

  by_place : (n : ℕ) (P : Terms → Type 0) → Progressive n P → (ss : Terms) → count ss ≡ n → GroundAccessible ss → P ss
  unfolding count
  by_place zero P step nil e a = step nil e a (λ ts d b l. absurd (above_nothing l))
  by_place zero P step (cons s ss) e a = absurd (omega arith)
  by_place (suc n) P step nil e a = absurd (omega arith)
  by_place (suc n) P step (cons s ss) e a = go (by_place n) a.1
    where
      go : ((Q : Terms → Type 0) → Progressive n Q → (ss : Terms) → count ss ≡ n → GroundAccessible ss → Q ss) → Accessibles (cons s ss) → P (cons s ss)
      go others (each_cons x xs) = by_first n P step others x a.0.0 ss (omega arith) (a.0.1, xs)

  -- 2. What the clauses say of a term whose arguments are accessible, where whatever it exceeds is if its arguments are.
  -- L1: what some argument reaches.
  reached_accessible : {t : Term} {ss : Terms} → Ground arities t → Accessibles ss → SomeReaches ss t → Accessible t
  reached_accessible g (each_cons x xs) here_equal = x
  reached_accessible g (each_cons x xs) (here_greater h) = Acc.inv x (g, h)
  reached_accessible g (each_cons x xs) (there p) = reached_accessible g xs p
  reached_accessible {t = t} g each_nil x5 = elim x5 [ ]

  -- Whether `t` is accessible where it is below `s`.
  abbrev BelowAccessible : Term → Term → Type 0
  BelowAccessible s t = Below arities t s → Accessible t

  -- L2: "s > tj for every j".
  all_accessible : {s : Term} {ts : Terms} → Each (BelowAccessible s) ts → Grounds arities ts → ExceedsAll s ts → Accessibles ts
  all_accessible each_nil g none = each_nil
  all_accessible (each_cons x xs) g (more h a) = each_cons (x (g.0, h)) (all_accessible xs g.1 a)

  -- L3: "si = ti for i < k, sk > tk, and s > ti for k < i ≤ n".
  lexicographic_accessible : {s : Term} {ss ts : Terms} → Accessibles ss → Each (BelowAccessible s) ts → Grounds arities ts → Lexicographic s ss ts → Accessibles ts
  lexicographic_accessible (each_cons y ys) (each_cons x xs) g (at_first h a) = each_cons (Acc.inv y (g.0, h)) (all_accessible xs g.1 a)
  lexicographic_accessible (each_cons y ys) (each_cons x xs) g (at_later l) = each_cons y (lexicographic_accessible ys xs g.1 l)
  lexicographic_accessible {s = s} {ts = ts} each_nil _ g x8 = elim x8 [ ]
  lexicographic_accessible {s = s} (each_cons {t = t} {ts = ts} y ys) each_nil g x13 = elim x13 [ ]

  -- 3. A symbol over accessible arguments.
  abbrev Applied : ℕ → Type 0
  Applied f = (ss : Terms) → count ss ≡ arity arities f → GroundAccessible ss → Accessible (app f ss)

  below_applied : {f : ℕ} {ss : Terms} → ((g : ℕ) → g < f → Applied g) → Accessibles ss
      → ((ts : Terms) → count ts ≡ arity arities f → GroundAccessible ts → Above ss ts → Accessible (app f ts))
      → {g : ℕ} {ts : Terms} → Each (BelowAccessible (app f ss)) ts → Ground arities (app g ts) → app f ss ≻ app g ts → Accessible (app g ts)
  below_applied lower xs above each y (L1 p) = reached_accessible y xs p
  below_applied lower xs above {g} {ts} each y (L2 i a) = lower g i ts y.1 (y.2, all_accessible each y.2 a)
  below_applied lower xs above {g} {ts} each y (L3 l) = above ts y.1 (y.2, lexicographic_accessible xs each y.2 l) (lexicographic_above l)

  applied : (f : ℕ) → ((g : ℕ) → g < f → Applied g) → Applied f
  applied f lower = by_place (arity arities f) (λ ss. Accessible (app f ss)) (λ ss e a above.
      Acc.intro (app f ss) (term_ind (BelowAccessible (app f ss)) (λ v b. absurd b.0) (λ g ts each b. below_applied lower a.1 above each b.0 b.1)))

  applied_below : (k f : ℕ) → f < k → Applied f
  applied_below zero f l = absurd (omega arith)
  applied_below (suc k) f l = applied f (λ g i. applied_below k g (omega arith))

  arguments_accessible : {ts : Terms} → Each (λ t. Ground arities t → Accessible t) ts → Grounds arities ts → Accessibles ts
  arguments_accessible each_nil g = each_nil
  arguments_accessible (each_cons x xs) g = each_cons (x g.0) (arguments_accessible xs g.1)

  pub ground_accessible : (t : Term) → Ground arities t → Acc (Below arities) t
  ground_accessible = term_ind (λ t. Ground arities t → Accessible t) (λ v y. absurd y) (λ f ts each y.
      applied_below (suc f) f (omega arith) ts y.1 (y.2, arguments_accessible each y.2))

  -- So the ordering is well-founded on ground terms: only they are below a term, whatever this is.
  pub below_well_founded : WellFounded (Below arities)
  below_well_founded = record { apply = λ s. Acc.intro s (λ t b. ground_accessible t b.0) }
