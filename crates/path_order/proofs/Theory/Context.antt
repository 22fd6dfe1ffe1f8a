-- The ordering is closed under contexts: a term with a part replaced by a smaller one is smaller.
use Rattle.std.specs.Prelude.{ℕ, zero, suc, ◌-◌, ◌≤◌, ◌<◌, get_or}
use Rattle.std.proofs.Math.Decide.{dec_lt}
use Rattle.std.proofs.Common.{arith}
use Rattle.terms.specs.Term.{Term, Terms, var, app, nil, cons, size, sizes}
use Rattle.terms.specs.Position.{subterms, replace, replace_in}
use Rattle.terms.specs.Theory.Position.{replace_first, replace_rest, replace_same}
use Rattle.path_order.specs.Order.{◌≻◌, L1, L3, SomeReaches, there, Lexicographic, at_first, at_later}
use Rattle.path_order.proofs.Theory.Subterm.{reached_exceeded}

-- One argument is replaced by a smaller one, the others are kept.
pub data OneSmaller : Terms → Terms → Type 0 where
  first_smaller : {s t : Term} {ss : Terms} → s ≻ t → OneSmaller (cons s ss) (cons t ss)
  later_smaller : {s : Term} {ss ts : Terms} → OneSmaller ss ts → OneSmaller (cons s ss) (cons s ts)

one_smaller_lexicographic : {w : Term} {ss ts : Terms} → ((x : Term) → SomeReaches ss x → w ≻ x) → OneSmaller ss ts → Lexicographic w ss ts
one_smaller_lexicographic k (first_smaller {ss = ss} g) = at_first g (reached_exceeded ss (λ x p. k x (there p)))
one_smaller_lexicographic k (later_smaller r) = at_later (one_smaller_lexicographic (λ x p. k x (there p)) r)

pub one_smaller_exceeds : {f : ℕ} {ss ts : Terms} → OneSmaller ss ts → app f ss ≻ app f ts
one_smaller_exceeds r = L3 (one_smaller_lexicographic (λ x p. L1 p) r)

-- Two terms at one position of a third.
mutual
  unfolding size replace

  pub replace_monotone : (c : Term) (p : ℕ) {s t : Term} → p < size c → s ≻ t → replace c p s ≻ replace c p t
  replace_monotone (var v) zero h g = g
  replace_monotone (var v) (suc p) h g = absurd (omega arith)
  replace_monotone (app f cs) zero h g = g
  replace_monotone (app f cs) (suc p) h g = one_smaller_exceeds (replace_in_monotone cs p (omega arith) g)

  replace_in_monotone : (cs : Terms) (p : ℕ) {s t : Term} → p < sizes cs → s ≻ t → OneSmaller (replace_in cs p s) (replace_in cs p t)
  replace_in_monotone nil p h g = absurd (omega arith)
  replace_in_monotone (cons c cs) p h g =
      elim (dec_lt p (size c)) [
        | yes l ↦ rw (replace_first c cs p _ l, replace_first c cs p _ l) (first_smaller (replace_monotone c p l g))
        | no n ↦ let l : size c ≤ p = omega arith in rw (replace_rest c cs p _ l, replace_rest c cs p _ l) (later_smaller (replace_in_monotone cs (p - size c) (omega arith) g))
      ]

-- A part is replaced by a smaller term.
pub replace_exceeds : (s : Term) (p : ℕ) (d u : Term) → p < size s → get_or (subterms s) p d ≻ u → s ≻ replace s p u
replace_exceeds s p d u h g = rw (replace_same s p d h) at (replace_monotone s p h g)
