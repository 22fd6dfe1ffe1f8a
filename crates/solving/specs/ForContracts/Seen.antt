-- Terms seen through the bindings, and occurrence (document 01, 'The walk that solves s > t'), said without fuel.
use Rattle.std.specs.Prelude.{ℕ, ◌≡◌, List}
use Rattle.std.proofs.Math.Option.{none, some}
use Rattle.terms.specs.Position.{Node, var_node, app_node}
use Rattle.terms.specs.Theory.View.{In}
use Rattle.solving.specs.Line.{Bindings}
use Rattle.solving.specs.Walk.{bound_to}

module _ (view : ℕ → Node) (θ : Bindings) where
  -- "a bound variable stands for its term, repeatedly": from `p` the bindings lead to `r`, where no bound variable stands.
  pub data Reaches : ℕ → ℕ → Type 0 where
    stays : {p : ℕ} → bound_to θ (view p) ≡ none → Reaches p p
    goes : {p q r : ℕ} → bound_to θ (view p) ≡ some q → Reaches q r → Reaches p r

  -- The variable `v` occurs in the term at a position, seen through the bindings.
  pub data Occurs (v : ℕ) : ℕ → Type 0 where
    here : {p r : ℕ} → Reaches p r → view r ≡ var_node v → Occurs v p
    inside : {p r f c : ℕ} {ps : List ℕ} → Reaches p r → view r ≡ app_node f ps → In c ps → Occurs v c → Occurs v p
