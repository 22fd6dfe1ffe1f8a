-- One question decides s > t for s = f(s1..sm), t = g(t1..tn): with f > g whether s exceeds every argument of t, with f < g whether an argument of s
-- reaches t, with f = g the one or the other of the arguments behind the first two that differ. Nothing is assumed of arities or variables.
use Rattle.std.specs.Prelude.{ℕ, ◌<◌, ◌≡◌, refl, ◌↔◌}
use Rattle.std.proofs.Common.{arith}
use Rattle.terms.specs.Term.{Term, Terms, app, nil, cons}
use Rattle.terms.specs.Theory.Append.{append}
use Rattle.path_order.specs.Order.{◌≻◌, L1, L2, L3, SomeReaches, here_equal, here_greater, there, ExceedsAll, Lexicographic, at_first, at_later}
use Rattle.path_order.proofs.Theory.Subterm.{reached_exceeded}
use Rattle.path_order.proofs.Theory.Laws.{≻_trans, ≻_irrefl, ≻_asym}
use Rattle.ordering.specs.Theory.Decide.{all_tail, lexicographic_nil_left, lexicographic_nil_right, lexicographic_tail, lexicographic_head}
use Rattle.ordering.specs.Verdict.{smaller}
use Rattle.ordering.specs.Theory.Verdict.{Means, some_later}

-- A term that exceeds t exceeds every argument of t.
pub exceeds_below : {f : ℕ} {w : Term} (ts : Terms) → w ≻ app f ts → ExceedsAll w ts
exceeds_below ts g = reached_exceeded ts (λ x p. ≻_trans g (L1 p))

-- L1, L2 or L3.
by_rules : {A : Type 0} {f g : ℕ} {ss ts : Terms} → (SomeReaches ss (app g ts) → A) → (g < f → A) → (f ≡ g → Lexicographic (app f ss) ss ts → A)
    → app f ss ≻ app g ts → A
by_rules a b c (L1 p) = a p
by_rules a b c (L2 i x) = b i
by_rules a b c (L3 l) = c refl l

-- The symbols differ.
module _ {f g : ℕ} (ss ts : Terms) where
  pub greater_symbol : g < f → (app f ss ≻ app g ts) ↔ ExceedsAll (app f ss) ts
  greater_symbol i = (exceeds_below ts, L2 i)

  pub smaller_symbol : f < g → (app f ss ≻ app g ts) ↔ SomeReaches ss (app g ts)
  smaller_symbol i = (by_rules (λ p. p) (λ j. absurd (omega arith)) (λ e l. absurd (omega arith)), L1)

-- Behind first arguments that are the same.
reaches_front : {t : Term} {front : Terms} (ss : Terms) → SomeReaches front t → SomeReaches (append front ss) t
unfolding append
reaches_front ss here_equal = here_equal
reaches_front ss (here_greater g) = here_greater g
reaches_front ss (there p) = there (reaches_front ss p)

reaches_behind : {t : Term} (front : Terms) {ss : Terms} → SomeReaches ss t → SomeReaches (append front ss) t
unfolding append
reaches_behind nil p = p
reaches_behind (cons s front) p = there (reaches_behind front p)

all_behind : {w : Term} (front : Terms) {ts : Terms} → ExceedsAll w (append front ts) → ExceedsAll w ts
unfolding append
all_behind nil a = a
all_behind (cons t front) a = all_behind front (all_tail a)

lexicographic_behind : {w : Term} (front : Terms) {ss ts : Terms} → Lexicographic w (append front ss) (append front ts) ↔ Lexicographic w ss ts
unfolding append
lexicographic_behind nil = (λ l. l, λ l. l)
lexicographic_behind (cons t front) =
    let (x, y) = lexicographic_behind front in
    (λ l. x (lexicographic_tail refl l), λ l. at_later (y l))

-- Terms that `w` exceeds do not reach it.
not_front : {w : Term} (front : Terms) {ss : Terms} → ((x : Term) → SomeReaches front x → w ≻ x) → SomeReaches (append front ss) w → SomeReaches ss w
unfolding append
not_front nil k p = p
not_front (cons s front) k here_equal = absurd (≻_irrefl (k s here_equal))
not_front (cons s front) k (here_greater g) = absurd (≻_asym g (k s here_equal))
not_front (cons s front) k (there p) = not_front front (λ x m. k x (there m)) p

module _ {f : ℕ} (front ss ts : Terms) where
  -- L1 or L3 of the others.
  behind : {A : Type 0} → (SomeReaches ss (app f (append front ts)) → A) → (Lexicographic (app f (append front ss)) ss ts → A)
      → app f (append front ss) ≻ app f (append front ts) → A
  behind h k =
      by_rules (λ p. h (not_front front (λ x q. L1 (reaches_front ts q)) p)) (λ i. absurd (omega arith)) (λ e l. k ((lexicographic_behind front).0 l))

  by_reached : SomeReaches ss (app f (append front ts)) → app f (append front ss) ≻ app f (append front ts)
  by_reached p = L1 (reaches_behind front p)

-- The first arguments that differ.
module _ {f : ℕ} (front : Terms) {s t : Term} (ss ts : Terms) where
  pub greater_argument : s ≻ t → (app f (append front (cons s ss)) ≻ app f (append front (cons t ts))) ↔ ExceedsAll (app f (append front (cons s ss))) ts
  greater_argument g = (λ h. all_tail (all_behind front (exceeds_below _ h)), λ a. L3 ((lexicographic_behind front).1 (at_first g a)))

  pub smaller_argument : Means smaller s t → (app f (append front (cons s ss)) ≻ app f (append front (cons t ts))) ↔ SomeReaches ss (app f (append front (cons t ts)))
  smaller_argument m =
      let g : app f (append front (cons t ts)) ≻ t = L1 (reaches_behind front here_equal) in
      let n : Means smaller s (app f (append front (cons t ts))) = (λ e. m.1 (rw (← e) at g), λ h. m.1 (≻_trans h g)) in
      (behind front (cons s ss) (cons t ts) (some_later n) (λ l. absurd (m.1 (lexicographic_head m.0 l).0)), λ p. by_reached front (cons s ss) (cons t ts) (there p))

-- One of the lists ends, where equal symbols have different numbers of arguments.
module _ {f : ℕ} (front : Terms) where
  pub more_arguments : (ss : Terms) → (app f (append front ss) ≻ app f (append front nil)) ↔ SomeReaches ss (app f (append front nil))
  more_arguments ss = (behind front ss nil (λ p. p) (λ l. absurd (lexicographic_nil_right ss l)), by_reached front ss nil)

  pub fewer_arguments : (ts : Terms) → ¬ (app f (append front nil) ≻ app f (append front ts))
  fewer_arguments ts = behind front nil ts (λ p. elim p [ ]) lexicographic_nil_left
