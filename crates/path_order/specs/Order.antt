-- The lexicographic path ordering (document 01, 'Ground comparison'). A greater symbol number is greater in precedence.
use Rattle.std.specs.Prelude.{ℕ, ◌<◌}
use Rattle.terms.specs.Term.{Term, Terms, app, nil, cons}

-- "For s = f(s1..sm), t = g(t1..tn), s > t exactly if"
mutual
  pub data ◌≻◌ : Term → Term → Type 0 where
    -- "L1: some si > t or si = t"
    L1 : {f : ℕ} {ss : Terms} {t : Term} → SomeReaches ss t → app f ss ≻ t
    -- "or L2: f > g and s > tj for every j"
    L2 : {f g : ℕ} {ss ts : Terms} → g < f → ExceedsAll (app f ss) ts → app f ss ≻ app g ts
    -- "or L3: f = g and for some k, si = ti for i < k, sk > tk, and s > ti for k < i ≤ n"
    L3 : {f : ℕ} {ss ts : Terms} → Lexicographic (app f ss) ss ts → app f ss ≻ app f ts

  -- "some si > t or si = t"
  pub data SomeReaches : Terms → Term → Type 0 where
    here_equal : {t : Term} {ss : Terms} → SomeReaches (cons t ss) t
    here_greater : {s t : Term} {ss : Terms} → s ≻ t → SomeReaches (cons s ss) t
    there : {s t : Term} {ss : Terms} → SomeReaches ss t → SomeReaches (cons s ss) t

  -- "s > tj for every j"
  pub data ExceedsAll : Term → Terms → Type 0 where
    none : {s : Term} → ExceedsAll s nil
    more : {s t : Term} {ts : Terms} → s ≻ t → ExceedsAll s ts → ExceedsAll s (cons t ts)

  -- "for some k, si = ti for i < k, sk > tk, and s > ti for k < i ≤ n", `s` whole at the left
  pub data Lexicographic : Term → Terms → Terms → Type 0 where
    at_first : {s s₁ t₁ : Term} {ss ts : Terms} → s₁ ≻ t₁ → ExceedsAll s ts → Lexicographic s (cons s₁ ss) (cons t₁ ts)
    at_later : {s s₁ : Term} {ss ts : Terms} → Lexicographic s ss ts → Lexicographic s (cons s₁ ss) (cons s₁ ts)

infix 40 ◌≻◌
