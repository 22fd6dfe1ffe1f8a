-- Unification, said without fuel.
use Rattle.std.specs.Prelude.{ℕ, ◌<◌, ◌≡◌, List, [], ◌∷◌, length}
use Rattle.std.proofs.Math.Option.{none}
use Rattle.terms.specs.Position.{Node, var_node, app_node}
use Rattle.solving.specs.Line.{Bindings, lookup, bind}
use Rattle.solving.specs.ForContracts.Seen.{Reaches, Occurs}

module _ (view : ℕ → Node) where
  -- The free variable `v` may be bound to `s`: to a higher variable or to a term in which it does not occur.
  pub record Bindable (θ : Bindings) (v s : ℕ) : Type 0 where
    pub slot : v < length θ
    pub free : lookup θ v ≡ none
    pub up : (w : ℕ) → view s ≡ var_node w → v < w
    pub away : Occurs view θ v s → ⊥

  -- "Equality: unify, left argument first": from `θ` the unification of two positions comes to `θ'`.
  mutual
    pub data Unified : Bindings → ℕ → ℕ → Bindings → Type 0 where
      equal_variables : {θ θ' : Bindings} {p q r s v : ℕ} → Reaches view θ p r → Reaches view θ q s → view r ≡ var_node v → view s ≡ var_node v → θ' ≡ θ → Unified θ p q θ'
      bound_left : {θ θ' : Bindings} {p q r s v : ℕ} → Reaches view θ p r → Reaches view θ q s → view r ≡ var_node v → Bindable θ v s → θ' ≡ bind θ v s → Unified θ p q θ'
      bound_right : {θ θ' : Bindings} {p q r s w : ℕ} → Reaches view θ p r → Reaches view θ q s → view s ≡ var_node w → Bindable θ w r → θ' ≡ bind θ w r → Unified θ p q θ'
      symbols : {θ θ' : Bindings} {p q r s f : ℕ} {ps qs : List ℕ} → Reaches view θ p r → Reaches view θ q s → view r ≡ app_node f ps → view s ≡ app_node f qs
          → EachUnified θ ps qs θ' → Unified θ p q θ'

    pub data EachUnified : Bindings → List ℕ → List ℕ → Bindings → Type 0 where
      no_more : {θ θ' : Bindings} → θ' ≡ θ → EachUnified θ [] [] θ'
      one_more : {θ η θ' : Bindings} {p q : ℕ} {ps qs : List ℕ} → Unified θ p q η → EachUnified η ps qs θ' → EachUnified θ (p ∷ ps) (q ∷ qs) θ'
