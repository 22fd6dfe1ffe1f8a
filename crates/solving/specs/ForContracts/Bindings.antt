-- The bindings that the walk makes.
use Rattle.std.specs.Prelude.{ℕ, ◌≤◌, ◌<◌, ◌≡◌, List, length}
use Rattle.std.proofs.Math.Option.{some}
use Rattle.terms.specs.Position.{Node, var_node, app_node}
use Rattle.terms.specs.Theory.View.{In}
use Rattle.solving.specs.Line.{Bindings, lookup}
use Rattle.solving.specs.Walk.{bound_to}

-- A measure of positions that shows that there is no cycle: it falls to the arguments, and does not rise along a binding.
pub record Measure (view : ℕ → Node) (θ : Bindings) (m : ℕ → ℕ) : Type 0 where
  pub down : (p f c : ℕ) (ps : List ℕ) → view p ≡ app_node f ps → In c ps → m c < m p
  pub along : (p q : ℕ) → bound_to θ (view p) ≡ some q → m q ≤ m p

-- Bindings of the walk: a slot for each variable, variables bound to higher ones, positions of the equation, no cycle.
pub record Proper (view : ℕ → Node) (vars n : ℕ) (θ : Bindings) : Type 0 where
  pub slots : length θ ≡ vars
  pub rising : (v p w : ℕ) → lookup θ v ≡ some p → view p ≡ var_node w → v < w
  pub within : (v p : ℕ) → lookup θ v ≡ some p → p < n
  pub height : ℕ → ℕ
  pub falls : Measure view θ height
