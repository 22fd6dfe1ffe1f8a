-- A term exceeds each of its proper subterms. Nothing is assumed of arities or variables.
use Rattle.std.specs.Prelude.{ℕ, zero, suc, ◌-◌, ◌≤◌, ◌<◌, get_or}
use Rattle.std.proofs.Math.Decide.{dec_lt}
use Rattle.std.proofs.Common.{arith}
use Rattle.terms.specs.Term.{Term, Terms, var, app, nil, cons, size, sizes}
use Rattle.terms.specs.Position.{subterms, subterms_of}
use Rattle.terms.specs.Theory.Induction.{Member, first, later}
use Rattle.terms.specs.Theory.Position.{subterm_first, subterm_rest}
use Rattle.path_order.specs.Order.{◌≻◌, L1, SomeReaches, here_equal, here_greater, there, ExceedsAll, none, more, Lexicographic, at_first, at_later}

-- A variable exceeds nothing.
pub var_exceeds_nothing : {v : ℕ} {t : Term} → ¬ (var v ≻ t)
var_exceeds_nothing g = elim g [ ]

-- An argument, one and all.
pub member_reached : {s : Term} {ss : Terms} → Member s ss → SomeReaches ss s
member_reached first = here_equal
member_reached (later m) = there (member_reached m)

pub exceeds_argument : {f : ℕ} {s : Term} {ss : Terms} → Member s ss → app f ss ≻ s
exceeds_argument m = L1 (member_reached m)

pub reached_exceeded : {w : Term} (ss : Terms) → ((x : Term) → SomeReaches ss x → w ≻ x) → ExceedsAll w ss
reached_exceeded nil k = none
reached_exceeded (cons s ss) k = more (k s here_equal) (reached_exceeded ss (λ x p. k x (there p)))

pub exceeds_arguments : {f : ℕ} (ss : Terms) → ExceedsAll (app f ss) ss
exceeds_arguments ss = reached_exceeded ss (λ x p. L1 p)

-- What L3 exceeds it exceeds argument by argument: those up to `k` by L1, the others by L3's last condition.
lexicographic_all : {w : Term} {ss ts : Terms} → ((x : Term) → SomeReaches ss x → w ≻ x) → Lexicographic w ss ts → ExceedsAll w ts
lexicographic_all k (at_first g a) = more (k _ (here_greater g)) a
lexicographic_all k (at_later l) = more (k _ here_equal) (lexicographic_all (λ x p. k x (there p)) l)

pub lexicographic_exceeds_all : {f : ℕ} {ss ts : Terms} → Lexicographic (app f ss) ss ts → ExceedsAll (app f ss) ts
lexicographic_exceeds_all l = lexicographic_all (λ x p. L1 p) l

-- The subterm at a position.
mutual
  unfolding size subterms

  reaches_subterm : (t : Term) (ts : Terms) (p : ℕ) (d : Term) → p < size t → SomeReaches (cons t ts) (get_or (subterms t) p d)
  reaches_subterm (var v) ts zero d h = here_equal
  reaches_subterm (var v) ts (suc p) d h = absurd (omega arith)
  reaches_subterm (app f ss) ts zero d h = here_equal
  reaches_subterm (app f ss) ts (suc p) d h = here_greater (L1 (reaches_subterms ss p d (omega arith)))

  pub reaches_subterms : (ts : Terms) (p : ℕ) (d : Term) → p < sizes ts → SomeReaches ts (get_or (subterms_of ts) p d)
  reaches_subterms nil p d h = absurd (omega arith)
  reaches_subterms (cons t ts) p d h =
      elim (dec_lt p (size t)) [
        | yes l ↦ rw (subterm_first t ts p d l) (reaches_subterm t ts p d l)
        | no n ↦ let l : size t ≤ p = omega arith in rw (subterm_rest t ts p d l) (there (reaches_subterms ts (p - size t) d (omega arith)))
      ]

pub exceeds_subterm : (s : Term) (p : ℕ) (d : Term) → 0 < p → p < size s → s ≻ get_or (subterms s) p d
unfolding size subterms
exceeds_subterm (var v) zero d l h = absurd (omega arith)
exceeds_subterm (var v) (suc p) d l h = absurd (omega arith)
exceeds_subterm (app f ss) zero d l h = absurd (omega arith)
exceeds_subterm (app f ss) (suc p) d l h = L1 (reaches_subterms ss p d (omega arith))
