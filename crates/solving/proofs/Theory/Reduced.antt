-- On a table that no turn changes, every element is a fully reduced inequality, seen through the bindings of its line.
use Rattle.std.specs.Prelude.{ℕ, Bool, true, false}
use Rattle.std.proofs.Math.Path.{◌≡◌, refl}
use Rattle.std.proofs.Math.Option
use Rattle.std.proofs.Math.Option.{Option, none, some}
use mathlib.Core.List.{List, [], ◌∷◌, ◌++◌, map}
use Rattle.std.proofs.Common.{arith}
use Rattle.format.specs.Lists.{Every}
use Rattle.terms.specs.Position.{Node, var_node, app_node}
use Rattle.terms.specs.Theory.View.{Layout}
use Rattle.solving.specs.Line.{Bindings, Element, equal, greater, Line, line}
use Rattle.solving.specs.Walk.{Fuel, reach, occurs, unify, Treatment, fully_reduced, becomes, unified, in_front, behind, treat_greater, treat, treat_leftmost, turn}
use Rattle.solving.specs.Theory.Seen.{Reduced, left_variable, right_variable}
use Rattle.solving.proofs.Theory.Reach.{Sufficient, reach_reaches, occurs_not}
use Rattle.solving.specs.ForContracts.Bindings.{Proper}
use Rattle.solving.proofs.Theory.Table.{ProperTable}

abbrev pub AllReduced : (ℕ → Node) → Bindings → List Element → Type 0
AllReduced view θ = Every (Reduced view θ)

-- "A line is finished when all its elements are fully reduced."
abbrev pub Finished : (ℕ → Node) → List Line → Type 0
Finished view [] = Unit {0}
Finished view (line θ es ∷ ls) = AllReduced view θ es × Finished view ls

module _ {fuel : Fuel} {view : ℕ → Node} {vars n : ℕ} (lay : Layout view vars n) (suf : Sufficient vars n fuel) where
  module _ {θ : Bindings} (pr : Proper view vars n θ) where
    left_reduced : (p q v : ℕ) → view (reach fuel view θ p) ≡ var_node v → (b : Bool) → occurs fuel view fuel.occurs_depth θ v q ≡ b
        → (elim b as (λ x. Treatment) [ true ↦ becomes [] | false ↦ fully_reduced ]) ≡ fully_reduced → Reduced view θ (greater p q)
    left_reduced p q v x true o d = let z : ◌≡◌ {A = ℕ} 0 1 = cc in absurd (omega arith)
    left_reduced p q v x false o d = left_variable (reach_reaches lay suf pr p) x (occurs_not lay suf pr o)

    right_reduced : (p q f w : ℕ) (ps : List ℕ) → view (reach fuel view θ p) ≡ app_node f ps → view (reach fuel view θ q) ≡ var_node w → (b : Bool)
        → occurs fuel view fuel.occurs_depth θ w p ≡ b → (elim b as (λ x. Treatment) [ true ↦ becomes (line θ [] ∷ []) | false ↦ fully_reduced ]) ≡ fully_reduced → Reduced view θ (greater p q)
    right_reduced p q f w ps x y true o d = let z : ◌≡◌ {A = ℕ} 0 1 = cc in absurd (omega arith)
    right_reduced p q f w ps x y false o d = right_variable (reach_reaches lay suf pr p) x (reach_reaches lay suf pr q) y (occurs_not lay suf pr o)

    greater_reduced : (p q : ℕ) (x y : Node) → view (reach fuel view θ p) ≡ x → view (reach fuel view θ q) ≡ y → treat_greater fuel view θ p q x y ≡ fully_reduced → Reduced view θ (greater p q)
    unfolding treat_greater
    greater_reduced p q (var_node v) y a b d = left_reduced p q v a (occurs fuel view fuel.occurs_depth θ v q) refl d
    greater_reduced p q (app_node f ps) (var_node w) a b d = right_reduced p q f w ps a b (occurs fuel view fuel.occurs_depth θ w p) refl d
    greater_reduced p q (app_node f ps) (app_node g qs) a b d = let z : ◌≡◌ {A = ℕ} 0 1 = cc in absurd (omega arith)

    equal_treated : (p q : ℕ) (o : Option Bindings) → unified o ≡ fully_reduced → Reduced view θ (equal p q)
    unfolding unified
    equal_treated p q none d = let z : ◌≡◌ {A = ℕ} 0 1 = cc in absurd (omega arith)
    equal_treated p q (some θ') d = let z : ◌≡◌ {A = ℕ} 0 1 = cc in absurd (omega arith)

    pub treat_reduced : (e : Element) → treat fuel view θ e ≡ fully_reduced → Reduced view θ e
    unfolding treat
    treat_reduced (equal p q) d = equal_treated p q (unify fuel view fuel.unify_depth θ p q) d
    treat_reduced (greater p q) d = greater_reduced p q (view (reach fuel view θ p)) (view (reach fuel view θ q)) refl refl d

    leftmost_none : (es : List Element) → treat_leftmost fuel view θ es ≡ none → AllReduced view θ es
    unfolding treat_leftmost
    leftmost_none [] d = tt
    leftmost_none (e ∷ es) d = go (leftmost_none es) (treat fuel view θ e) refl d
      where
        later : (o : Option (List Line)) → Option.map (map (in_front e)) o ≡ none → o ≡ none
        later none d = refl
        later (some ms) d = let z : ◌≡◌ {A = ℕ} 0 1 = cc in absurd (omega arith)

        go : (treat_leftmost fuel view θ es ≡ none → AllReduced view θ es) → (t : Treatment) → treat fuel view θ e ≡ t
            → ◌≡◌ {A = Option (List Line)} (elim t [ becomes ms ↦ some (map (behind es) ms) | fully_reduced ↦ Option.map (map (in_front e)) (treat_leftmost fuel view θ es) ]) none
            → Reduced view θ e × AllReduced view θ es
        go ih fully_reduced x d = (treat_reduced e x, ih (later (treat_leftmost fuel view θ es) d))
        go ih (becomes ms) x d = let z : ◌≡◌ {A = ℕ} 0 1 = cc in absurd (omega arith)

  pub turn_none : (table : List Line) → ProperTable view vars n table → turn fuel view table ≡ none → Finished view table
  unfolding turn
  turn_none [] h d = tt
  turn_none (line θ es ∷ ls) h d = go (turn_none ls h.1) (treat_leftmost fuel view θ es) refl d
    where
      later : (o : Option (List Line)) → Option.map (line θ es ∷◌) o ≡ none → o ≡ none
      later none d = refl
      later (some ms) d = let z : ◌≡◌ {A = ℕ} 0 1 = cc in absurd (omega arith)

      go : (turn fuel view ls ≡ none → Finished view ls) → (o : Option (List Line)) → treat_leftmost fuel view θ es ≡ o
          → ◌≡◌ {A = Option (List Line)} (elim o [ some ms ↦ some (ms ++ ls) | none ↦ Option.map (line θ es ∷◌) (turn fuel view ls) ]) none → AllReduced view θ es × Finished view ls
      go ih none x d = (leftmost_none h.0.0 es x, ih (later (turn fuel view ls) d))
      go ih (some ms) x d = let z : ◌≡◌ {A = ℕ} 0 1 = cc in absurd (omega arith)
