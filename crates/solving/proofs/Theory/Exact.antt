-- A turn keeps what the table says of the values: some line holds after it exactly if some line held before.
use Rattle.std.specs.Prelude.{ℕ, ◌<◌, ◌⊎◌, ◌↔◌, Bool, true, false}
use Rattle.std.proofs.Math.Path.{◌≡◌, refl}
use Rattle.std.proofs.Math.Logic.{inl}
use Rattle.std.proofs.Common.{inr}
use Rattle.std.proofs.Math.Option
use Rattle.std.proofs.Math.Option.{Option, none, some}
use mathlib.Core.List.{List, [], ◌∷◌, ◌++◌, map}
use native.Mathlib.Omega.{arith}
use Rattle.terms.specs.Term.{Term, app, Values}
use Rattle.terms.specs.Position.{Node, var_node, app_node}
use Rattle.terms.specs.Theory.View.{Layout, values_at, Model}
use Rattle.path_order.specs.Order.{◌≻◌}
use Rattle.path_order.proofs.Theory.Laws.{≻_trans, ≻_irrefl}
use Rattle.solving.specs.Line.{Bindings, Element, equal, greater, Line, line}
use Rattle.solving.specs.Walk.{Fuel, reach, occurs, unify, choices, Treatment, fully_reduced, becomes, unified, in_front, behind, treat_greater, treat, treat_leftmost, turn}
use Rattle.solving.specs.Holds.{BindingsHold, ElementHolds, ElementsHold, SomeLineHolds}
use Rattle.solving.specs.ForContracts.Seen.{Reaches}
use Rattle.solving.proofs.Theory.Reach.{Sufficient, reach_reaches, occurs_found}
use Rattle.solving.specs.ForContracts.Bindings.{Proper}
use Rattle.solving.proofs.Theory.Unified.{unified_extends, unify_gives}
use Rattle.solving.specs.ForContracts.Unified.{Unified}
use Rattle.solving.proofs.Theory.Table.{ProperTable}
use Rattle.solving.specs.ForContracts.Within.{Within, AllWithin}
use Rattle.solving.proofs.Theory.Values.{satisfied, bindings_hold, satisfied_back, variable_value, symbol_value, occurs_reached, occurs_exceeded, unified_equal}
use Rattle.solving.proofs.Theory.Complete.{Succeeds, unify_succeeds}
use Rattle.solving.specs.Theory.Choices.{choices_to, choices_from}
use Rattle.solving.specs.Theory.Lines.{in_front_to, in_front_from, behind_to, behind_from, choice_lines_to, choice_lines_from, lines_left, lines_right, lines_split}

-- The lines `ls` say what the bindings `θ` and `A` together say.
pub record LinesSay (ρ : Values) (value : ℕ → Term) (θ : Bindings) (A : Type 0) (ls : List Line) : Type 0 where
  pub to : BindingsHold ρ value 0 θ → A → SomeLineHolds ρ value ls
  pub back : SomeLineHolds ρ value ls → BindingsHold ρ value 0 θ × A

-- One line without elements, and no line.
module _ (ρ : Values) (value : ℕ → Term) (θ : Bindings) where
  only : (θ' : Bindings) → SomeLineHolds ρ value (line θ' [] ∷ []) → BindingsHold ρ value 0 θ'
  only θ' (inl h) = h.0
  only θ' (inr h) = absurd h

  never : {A : Type 0} → (BindingsHold ρ value 0 θ → A → ⊥) → LinesSay ρ value θ A []
  never h = record { to = h; back = λ x. absurd x }

  always : {A : Type 0} → (BindingsHold ρ value 0 θ → A) → LinesSay ρ value θ A (line θ [] ∷ [])
  always h = record { to = λ b x. inl (b, tt); back = λ x. (only θ x, h (only θ x)) }

module _ {fuel : Fuel} {view : ℕ → Node} {vars n : ℕ} (lay : Layout view vars n) (suf : Sufficient vars n fuel) {ρ : Values} {value : ℕ → Term} (m : Model view ρ value) where
  not_below : {s t : Term} → (t ≡ s) ⊎ (t ≻ s) → s ≻ t → ⊥
  not_below (inl e) g = ≻_irrefl (rw e at g)
  not_below (inr h) g = ≻_irrefl (≻_trans g h)

  module _ (θ : Bindings) (p q : ℕ) (ls : List Line) (pr : Proper view vars n θ) (i : p < n) (j : q < n) where
    at_p : Reaches view θ p (reach fuel view θ p)
    at_p = reach_reaches lay suf pr p

    at_q : Reaches view θ q (reach fuel view θ q)
    at_q = reach_reaches lay suf pr q

    equal_says : (o : Option Bindings) → unify fuel view fuel.unify_depth θ p q ≡ o → unified o ≡ becomes ls → LinesSay ρ value θ (value p ≡ value q) ls
    unfolding unified
    equal_says none e d = let x : ls ≡ [] = cc in rw x (never ρ value θ (λ b h. fails (unify_succeeds lay suf m θ p q pr i j (satisfied ρ value θ b) h)))
      where
        fails : Succeeds lay suf m (unify fuel view fuel.unify_depth θ p q) → ⊥
        fails g = let (η, y, s) = g in let z : ◌≡◌ {A = ℕ} 0 1 = cc in omega arith
    equal_says (some θ') e d = let x : ls ≡ line θ' [] ∷ [] = cc in
        rw x (record {
          to = λ b h. inl (gives (unify_succeeds lay suf m θ p q pr i j (satisfied ρ value θ b) h), tt);
          back = λ h. let s = satisfied ρ value θ' (only ρ value θ θ' h) in (bindings_hold ρ value θ (satisfied_back (unified_extends u) s), unified_equal m u s);
        })
      where
        u : Unified view θ p q θ'
        u = unify_gives lay suf fuel.unify_depth θ θ' p q pr i j e

        gives : Succeeds lay suf m (unify fuel view fuel.unify_depth θ p q) → BindingsHold ρ value 0 θ'
        gives g = let (η, y, s) = g in let z : η ≡ θ' = cc in bindings_hold ρ value θ' (rw z at s)

    left_variable : (v : ℕ) → view (reach fuel view θ p) ≡ var_node v → (b : Bool) → occurs fuel view fuel.occurs_depth θ v q ≡ b
        → (elim b as (λ x. Treatment) [ true ↦ becomes [] | false ↦ fully_reduced ]) ≡ becomes ls → LinesSay ρ value θ (value p ≻ value q) ls
    left_variable v x true o d = let y : ls ≡ [] = cc in rw y (never ρ value θ (λ b g.
        let s = satisfied ρ value θ b in
        let z = variable_value m s v at_p x in
        not_below (rw (← z) at (occurs_reached m s (occurs_found lay suf pr fuel.occurs_depth v q o))) g))
    left_variable v x false o d = let z : ◌≡◌ {A = ℕ} 0 1 = cc in absurd (omega arith)

    right_variable : (f w : ℕ) (ps : List ℕ) → view (reach fuel view θ p) ≡ app_node f ps → view (reach fuel view θ q) ≡ var_node w → (b : Bool) → occurs fuel view fuel.occurs_depth θ w p ≡ b
        → (elim b as (λ x. Treatment) [ true ↦ becomes (line θ [] ∷ []) | false ↦ fully_reduced ]) ≡ becomes ls → LinesSay ρ value θ (value p ≻ value q) ls
    right_variable f w ps x y true o d = let e : ls ≡ line θ [] ∷ [] = cc in rw e (always ρ value θ (λ b.
        let s = satisfied ρ value θ b in
        rw (variable_value m s w at_q y) (occurs_exceeded m s at_p x (occurs_found lay suf pr fuel.occurs_depth w p o))))
    right_variable f w ps x y false o d = let z : ◌≡◌ {A = ℕ} 0 1 = cc in absurd (omega arith)

    two_symbols : (f g : ℕ) (ps qs : List ℕ) → view (reach fuel view θ p) ≡ app_node f ps → view (reach fuel view θ q) ≡ app_node g qs
        → becomes (map (line θ) (choices p q f g ps qs)) ≡ becomes ls → LinesSay ρ value θ (value p ≻ value q) ls
    two_symbols f g ps qs x y d = let e : ls ≡ map (line θ) ess = cc in
        rw e (record {
          to = λ b h. choice_lines_to ρ value θ b ess (choices_to ρ value p q f g ps qs (p_is b) (q_is b) h);
          back = λ h. let (b, k) = choice_lines_from ρ value θ ess h in (b, choices_from ρ value p q f g ps qs (p_is b) (q_is b) k);
        })
      where
        ess : List (List Element)
        ess = choices p q f g ps qs

        p_is : BindingsHold ρ value 0 θ → value p ≡ app f (values_at value ps)
        p_is b = symbol_value m (satisfied ρ value θ b) f ps at_p x

        q_is : BindingsHold ρ value 0 θ → value q ≡ app g (values_at value qs)
        q_is b = symbol_value m (satisfied ρ value θ b) g qs at_q y

    greater_says : (x y : Node) → view (reach fuel view θ p) ≡ x → view (reach fuel view θ q) ≡ y → treat_greater fuel view θ p q x y ≡ becomes ls → LinesSay ρ value θ (value p ≻ value q) ls
    unfolding treat_greater
    greater_says (var_node v) y a b d = left_variable v a (occurs fuel view fuel.occurs_depth θ v q) refl d
    greater_says (app_node f ps) (var_node w) a b d = right_variable f w ps a b (occurs fuel view fuel.occurs_depth θ w p) refl d
    greater_says (app_node f ps) (app_node g qs) a b d = two_symbols f g ps qs a b d

  pub treat_says : (θ : Bindings) (e : Element) (ls : List Line) → Proper view vars n θ → Within n e → treat fuel view θ e ≡ becomes ls → LinesSay ρ value θ (ElementHolds ρ value e) ls
  unfolding treat
  treat_says θ (equal p q) ls pr h d = equal_says θ p q ls pr h.0 h.1 (unify fuel view fuel.unify_depth θ p q) refl d
  treat_says θ (greater p q) ls pr h d = greater_says θ p q ls pr h.0 h.1 (view (reach fuel view θ p)) (view (reach fuel view θ q)) refl refl d

  pub leftmost_says : (θ : Bindings) (es : List Element) (ls : List Line) → Proper view vars n θ → AllWithin n es → treat_leftmost fuel view θ es ≡ some ls
      → LinesSay ρ value θ (ElementsHold ρ value es) ls
  unfolding treat_leftmost
  leftmost_says θ [] ls pr h d = let z : ◌≡◌ {A = ℕ} 0 1 = cc in absurd (omega arith)
  leftmost_says θ (e ∷ es) ls pr h d = go (leftmost_says θ es) (treat fuel view θ e) refl d
    where
      IH : Type 0
      IH = (ls : List Line) → Proper view vars n θ → AllWithin n es → treat_leftmost fuel view θ es ≡ some ls → LinesSay ρ value θ (ElementsHold ρ value es) ls

      later : IH → (o : Option (List Line)) → treat_leftmost fuel view θ es ≡ o → Option.map (map (in_front e)) o ≡ some ls → LinesSay ρ value θ (ElementHolds ρ value e × ElementsHold ρ value es) ls
      later ih none x d = let z : ◌≡◌ {A = ℕ} 0 1 = cc in absurd (omega arith)
      later ih (some ms) x d =
          let y : ls ≡ map (in_front e) ms = cc in
          let t = ih ms pr h.1 x in
          rw y (record {
            to = λ b k. in_front_to ρ value e ms k.0 (t.to b k.1);
            back = λ k. let (a, c) = in_front_from ρ value e ms k in ((t.back c).0, (a, (t.back c).1));
          })

      go : IH → (t : Treatment) → treat fuel view θ e ≡ t
          → (elim t as (λ x. Option (List Line)) [ becomes ms ↦ some (map (behind es) ms) | fully_reduced ↦ Option.map (map (in_front e)) (treat_leftmost fuel view θ es) ]) ≡ some ls
          → LinesSay ρ value θ (ElementHolds ρ value e × ElementsHold ρ value es) ls
      go ih fully_reduced x d = later ih (treat_leftmost fuel view θ es) refl d
      go ih (becomes ms) x d =
          let y : ls ≡ map (behind es) ms = cc in
          let t = treat_says θ e ms pr h.0 x in
          rw y (record {
            to = λ b k. behind_to ρ value es ms k.1 (t.to b k.0);
            back = λ k. let (a, c) = behind_from ρ value es ms k in ((t.back a).0, ((t.back a).1, c));
          })

  pub turn_exact : (table new : List Line) → ProperTable view vars n table → turn fuel view table ≡ some new → SomeLineHolds ρ value table ↔ SomeLineHolds ρ value new
  unfolding turn
  turn_exact [] new h d = let z : ◌≡◌ {A = ℕ} 0 1 = cc in absurd (omega arith)
  turn_exact (line θ es ∷ ls) new h d = go (turn_exact ls) (treat_leftmost fuel view θ es) refl d
    where
      IH : Type 0
      IH = (new : List Line) → ProperTable view vars n ls → turn fuel view ls ≡ some new → SomeLineHolds ρ value ls ↔ SomeLineHolds ρ value new

      later : IH → (o : Option (List Line)) → turn fuel view ls ≡ o → Option.map (line θ es ∷◌) o ≡ some new → SomeLineHolds ρ value (line θ es ∷ ls) ↔ SomeLineHolds ρ value new
      later ih none x d = let z : ◌≡◌ {A = ℕ} 0 1 = cc in absurd (omega arith)
      later ih (some ms) x d =
          let y : new ≡ line θ es ∷ ms = cc in
          let b = ih ms h.1 x in
          rw y (λ k. elim k [ inl a ↦ inl a | inr a ↦ inr (b.0 a) ], λ k. elim k [ inl a ↦ inl a | inr a ↦ inr (b.1 a) ])

      go : IH → (o : Option (List Line)) → treat_leftmost fuel view θ es ≡ o
          → (elim o as (λ x. Option (List Line)) [ some ms ↦ some (ms ++ ls) | none ↦ Option.map (line θ es ∷◌) (turn fuel view ls) ]) ≡ some new
          → SomeLineHolds ρ value (line θ es ∷ ls) ↔ SomeLineHolds ρ value new
      go ih none x d = later ih (turn fuel view ls) refl d
      go ih (some ms) x d =
          let y : new ≡ ms ++ ls = cc in
          let t = leftmost_says θ es ms h.0.0 h.0.1 x in
          rw y (
            λ k. elim k [ inl a ↦ lines_left ρ value ms ls (t.to a.0 a.1) | inr a ↦ lines_right ρ value ms ls a ],
            λ k. elim (lines_split ρ value ms ls k) [ inl a ↦ inl (t.back a) | inr a ↦ inr a ],
          )
