-- Laws of terms seen through the bindings and of occurrence, and full reduction (document 01, 'The walk that solves s > t') said without fuel.
use Rattle.std.specs.Prelude.{ℕ, ◌≡◌, refl, List}
use Rattle.std.proofs.Math.Option.{none, some}
use Rattle.std.proofs.Common.{arith}
use Rattle.terms.specs.Position.{Node, var_node, app_node}
use Rattle.terms.specs.Theory.View.{In}
use Rattle.solving.specs.Line.{Bindings, lookup, Element, greater}
use Rattle.solving.specs.Walk.{bound_to}
use Rattle.solving.specs.ForContracts.Seen.{Reaches, stays, goes, Occurs, here, inside}

module _ (view : ℕ → Node) (θ : Bindings) where
  -- An inequality l > r is fully reduced: l is a variable that does not occur in r, or l is none and r is a variable that does not occur in l.
  pub data Reduced : Element → Type 0 where
    left_variable : {p q r v : ℕ} → Reaches view θ p r → view r ≡ var_node v → (Occurs view θ v q → ⊥) → Reduced (greater p q)
    right_variable : {p q r s f w : ℕ} {ps : List ℕ} → Reaches view θ p r → view r ≡ app_node f ps → Reaches view θ q s → view s ≡ var_node w → (Occurs view θ w p → ⊥) → Reduced (greater p q)

-- A bound position is a variable's.
pub bound_variable : (θ : Bindings) (x : Node) (q : ℕ) → bound_to θ x ≡ some q → (v : ℕ) × (x ≡ var_node v) × (lookup θ v ≡ some q)
unfolding bound_to
bound_variable θ (var_node v) q e = (v, refl, e)
bound_variable θ (app_node f ps) q e = let z : ◌≡◌ {A = ℕ} 0 1 = cc in absurd (omega arith)

pub symbol_unbound : (θ : Bindings) {x : Node} {f : ℕ} {ps : List ℕ} → x ≡ app_node f ps → bound_to θ x ≡ none
unfolding bound_to
symbol_unbound θ e = rw e

pub variable_bound : (θ : Bindings) {x : Node} {v : ℕ} → x ≡ var_node v → bound_to θ x ≡ lookup θ v
unfolding bound_to
variable_bound θ e = rw e

module _ {view : ℕ → Node} {θ : Bindings} where
  pub reaches_unbound : {p r : ℕ} → Reaches view θ p r → bound_to θ (view r) ≡ none
  reaches_unbound (stays e) = e
  reaches_unbound (goes e k) = reaches_unbound k

  pub reaches_free : {p r : ℕ} (v : ℕ) → Reaches view θ p r → view r ≡ var_node v → lookup θ v ≡ none
  reaches_free v k e = cc (reaches_unbound k, variable_bound θ e)

  pub reaches_unique : {p r s : ℕ} → Reaches view θ p r → Reaches view θ p s → r ≡ s
  reaches_unique (stays e) (stays d) = refl
  reaches_unique (stays e) (goes d l) = let z : ◌≡◌ {A = ℕ} 0 1 = cc in absurd (omega arith)
  reaches_unique (goes e k) (stays d) = let z : ◌≡◌ {A = ℕ} 0 1 = cc in absurd (omega arith)
  reaches_unique (goes {q = q} e k) (goes {q = t} d l) = let x : t ≡ q = cc in reaches_unique k (rw x at l)

  -- Occurrence passes up from an argument and back along a binding.
  pub occurs_up : {v p f c : ℕ} {ps : List ℕ} → view p ≡ app_node f ps → In c ps → Occurs view θ v c → Occurs view θ v p
  occurs_up e i o = inside (stays (symbol_unbound θ e)) e i o

  pub occurs_back : {v p q : ℕ} → bound_to θ (view p) ≡ some q → Occurs view θ v q → Occurs view θ v p
  occurs_back e (here k d) = here (goes e k) d
  occurs_back e (inside k d i o) = inside (goes e k) d i o

  -- In a free variable no other occurs.
  pub occurs_variable : {p v w : ℕ} → bound_to θ (view p) ≡ none → view p ≡ var_node w → Occurs view θ v p → v ≡ w
  occurs_variable u e (here k d) = let x = reaches_unique (stays u) k in cc
  occurs_variable u e (inside k d i o) = let x = reaches_unique (stays u) k in let z : ◌≡◌ {A = ℕ} 0 1 = cc in absurd (omega arith)
