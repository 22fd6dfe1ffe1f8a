-- A measure of positions that falls along every descent through the bindings, and how deep a descent can go.
use Prim.Native.Nat.{ℕ, zero, suc, ◌+◌, ◌≤◌, ◌<◌}
use Rattle.std.specs.Prelude.{◌≡◌, List}
use Rattle.std.proofs.Math.Path.{ap}
use Rattle.std.proofs.Math.Decide.{ℕ_discrete, dec_lt}
use native.Mathlib.Omega.{arith}
use Rattle.terms.specs.Position.{Node, app_node}
use Rattle.terms.specs.Theory.View.{In, Layout}
use Rattle.solving.specs.Line.{Bindings}
use Rattle.solving.specs.ForContracts.Bindings.{Measure}
use Rattle.solving.specs.ForContracts.Seen.{Reaches, stays, goes}

-- How many of the positions below `n` measure less than `a`.
abbrev mark : {a b : ℕ} → Dec (a < b) → ℕ
mark (yes l) = 1
mark (no n) = 0

pub below : (ℕ → ℕ) → ℕ → ℕ → ℕ
below m zero a = 0
below m (suc i) a = mark (dec_lt (m i) a) + below m i a

mark_mono : {x a b : ℕ} → a ≤ b → (d : Dec (x < a)) (e : Dec (x < b)) → mark d ≤ mark e
mark_mono l (yes i) (yes j) = omega arith
mark_mono l (yes i) (no j) = absurd (omega arith)
mark_mono l (no i) e = omega arith

mark_strict : {x a b : ℕ} → a ≤ x → x < b → (d : Dec (x < a)) (e : Dec (x < b)) → mark d < mark e
mark_strict l i (yes d) e = absurd (omega arith)
mark_strict l i (no d) (yes e) = omega arith
mark_strict l i (no d) (no e) = absurd (omega arith)

mark_le : {a b : ℕ} (d : Dec (a < b)) → mark d ≤ 1
mark_le (yes l) = omega arith
mark_le (no n) = omega arith

module _ (m : ℕ → ℕ) where
  below_mono : (n : ℕ) {a b : ℕ} → a ≤ b → below m n a ≤ below m n b
  unfolding below
  below_mono zero l = omega arith
  below_mono (suc i) {a} {b} l = omega (arith, mark_mono l (dec_lt (m i) a) (dec_lt (m i) b), below_mono i l)

  below_le : (n a : ℕ) → below m n a ≤ n
  unfolding below
  below_le zero a = omega arith
  below_le (suc i) a = omega (arith, mark_le (dec_lt (m i) a), below_le i a)

  below_strict : (n c b : ℕ) → c < n → m c < b → below m n (m c) < below m n b
  unfolding below
  below_strict zero c b i l = absurd (omega arith)
  below_strict (suc n) c b i l = go (below_strict n c b) (ℕ_discrete c n)
    where
      go : (c < n → m c < b → below m n (m c) < below m n b) → Dec (c ≡ n) → mark (dec_lt (m n) (m c)) + below m n (m c) < mark (dec_lt (m n) b) + below m n b
      go ih (yes e) = let h : m c ≡ m n = ap m e in
          omega (arith, mark_strict {x = m n} {a = m c} {b = b} (omega arith) (omega arith) (dec_lt (m n) (m c)) (dec_lt (m n) b), below_mono n {a = m c} {b = b} (omega arith))
      go ih (no x) = omega (arith, ih (omega arith) l, mark_mono {x = m n} {a = m c} {b = b} (omega arith) (dec_lt (m n) (m c)) (dec_lt (m n) b))

-- The rank of a position among `n`: how many measure less.
pub rank : ℕ → (ℕ → ℕ) → ℕ → ℕ
rank n m p = below m n (m p)

pub rank_le : (n : ℕ) (m : ℕ → ℕ) (p : ℕ) → rank n m p ≤ n
unfolding rank
rank_le n m p = below_le m n (m p)

module _ {view : ℕ → Node} {θ : Bindings} {m : ℕ → ℕ} (me : Measure view θ m) where
  pub reaches_le : {p r : ℕ} → Reaches view θ p r → m r ≤ m p
  reaches_le (stays e) = omega arith
  reaches_le (goes {p = p} {q = q} e k) = omega (arith, reaches_le k, me.along p q e)

  -- A descent through the bindings goes down in rank.
  pub rank_down : {vars n : ℕ} → Layout view vars n → {p r : ℕ} (f c : ℕ) (ps : List ℕ) → Reaches view θ p r → view r ≡ app_node f ps → In c ps → rank n m c < rank n m p
  unfolding rank
  rank_down {n} lay {p} {r} f c ps k e i = below_strict m n c (m p) (lay.argument_within r f c ps e i) (omega (arith, me.down r f c ps e i, reaches_le k))
