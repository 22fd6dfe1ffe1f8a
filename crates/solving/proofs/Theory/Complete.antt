-- Where the bindings hold and two values are identical, unification succeeds, and the bindings that it comes to hold.
use Prim.Native.Nat.{ℕ, zero, suc, ◌<◌}
use Rattle.std.proofs.Math.Path.{◌≡◌, refl}
use Rattle.std.specs.Prelude.{Bool, true, false, length}
use Rattle.std.proofs.Math.Option.{Option, none, some}
use mathlib.Core.List.{List, [], ◌∷◌}
use Rattle.std.proofs.Math.Decide.{ℕ_discrete, dec_lt}
use Rattle.std.proofs.Common.{arith}
use Rattle.terms.specs.Term.{Term, app, size, Values}
use Rattle.terms.specs.Position.{Node, var_node, app_node}
use Rattle.terms.specs.Theory.View.{In, head, tail, Layout, values_at, Model}
use Rattle.path_order.proofs.Theory.Laws.{≻_irrefl}
use Rattle.solving.specs.Line.{Bindings, bind}
use Rattle.solving.specs.Walk.{Fuel, reach, occurs, bind_unless, unify_variables, unify_each, unify_nodes, unify}
use Rattle.solving.specs.Theory.Seen.{symbol_unbound}
use Rattle.solving.specs.ForContracts.Seen.{Reaches, stays}
use Rattle.solving.specs.Theory.Rank.{rank, rank_le, rank_down}
use Rattle.solving.proofs.Theory.Reach.{Sufficient, reach_reaches, occurs_found}
use Rattle.solving.specs.ForContracts.Bindings.{Proper}
use Rattle.solving.proofs.Theory.Unified.{unified_proper, unify_gives}
use Rattle.solving.proofs.Theory.Values.{Satisfied, satisfied_bind, reaches_value, variable_value, symbol_value, occurs_exceeded, size_measure}

module _ {fuel : Fuel} {view : ℕ → Node} {vars n : ℕ} (lay : Layout view vars n) (suf : Sufficient vars n fuel) {ρ : Values} {value : ℕ → Term} (m : Model view ρ value) where
  abbrev pub Succeeds : Option Bindings → Type 0
  Succeeds o = (θ : Bindings) × (o ≡ some θ) × Satisfied ρ value θ

  size_rank : ℕ → ℕ
  size_rank p = rank n (λ q. size (value q)) p

  abbrev Complete : (Bindings → ℕ → ℕ → Option Bindings) → ℕ → Type 0
  Complete u k = (θ : Bindings) (p q : ℕ) → Proper view vars n θ → p < n → q < n → Satisfied ρ value θ → value p ≡ value q → size_rank p < k → Succeeds (u θ p q)

  each_complete : (k : ℕ) → Complete (unify fuel view k) k → (ps qs : List ℕ) (θ : Bindings) → Proper view vars n θ → ((c : ℕ) → In c ps → c < n) → ((c : ℕ) → In c qs → c < n)
      → Satisfied ρ value θ → values_at value ps ≡ values_at value qs → ((c : ℕ) → In c ps → size_rank c < k) → Succeeds (unify_each (unify fuel view k) θ ps qs)
  unfolding values_at unify_each
  each_complete k h [] [] θ pr i j s e r = (θ, refl, s)
  each_complete k h [] (q ∷ qs) θ pr i j s e r = let z : ◌≡◌ {A = ℕ} 0 1 = cc in absurd (omega arith)
  each_complete k h (p ∷ ps) [] θ pr i j s e r = let z : ◌≡◌ {A = ℕ} 0 1 = cc in absurd (omega arith)
  each_complete k h (p ∷ ps) (q ∷ qs) θ pr i j s e r =
      let x : value p ≡ value q = cc in
      let y : values_at value ps ≡ values_at value qs = cc in
      let (η, d, s') = h θ p q pr (i p head) (j q head) s x (r p head) in
      let pr' = unified_proper lay (unify_gives lay suf k θ η p q pr (i p head) (j q head) d) pr (i p head) (j q head) in
      rw (d, unify_each) (each_complete k h ps qs η pr' (λ c l. i c (tail l)) (λ c l. j c (tail l)) s' y (λ c l. r c (tail l)))

  unify_complete : (k : ℕ) → Complete (unify fuel view k) k
  unfolding unify size_rank
  unify_complete zero θ p q pr i j s e l = absurd (omega arith)
  unify_complete (suc k) θ p q pr i j s e l = go (unify_complete k) (view p') (view q') refl refl
    where
      p' : ℕ
      p' = reach fuel view θ p

      q' : ℕ
      q' = reach fuel view θ q

      at_p : Reaches view θ p p'
      at_p = reach_reaches lay suf pr p

      at_q : Reaches view θ q q'
      at_q = reach_reaches lay suf pr q

      slot : (v r : ℕ) → view r ≡ var_node v → v < length θ
      slot v r x = omega (arith, pr.slots, lay.variable_low r v x)

      variables : (v w : ℕ) → view p' ≡ var_node v → view q' ≡ var_node w → (d : Dec (v ≡ w)) (l : Dec (v < w)) → Succeeds (unify_variables θ v w p' q' d l)
      variables v w x y (yes d) l = (θ, refl, s)
      variables v w x y (no d) (yes l) = (bind θ v q', refl, satisfied_bind θ v q' (slot v p' x) s (cc (variable_value m s v at_p x, reaches_value m s at_q)))
      variables v w x y (no d) (no l) = (bind θ w p', refl, satisfied_bind θ w p' (slot w q' y) s (cc (variable_value m s w at_q y, reaches_value m s at_p)))

      left : (v g : ℕ) (qs : List ℕ) → view p' ≡ var_node v → view q' ≡ app_node g qs → (b : Bool) → occurs fuel view fuel.occurs_depth θ v q' ≡ b → Succeeds (bind_unless b θ v q')
      left v g qs x y true o =
          let d : value q' ≡ ρ v = cc (variable_value m s v at_p x, reaches_value m s at_q) in
          absurd (≻_irrefl (rw d at (occurs_exceeded m s (stays (symbol_unbound θ y)) y (occurs_found lay suf pr fuel.occurs_depth v q' o))))
      left v g qs x y false o = (bind θ v q', refl, satisfied_bind θ v q' (slot v p' x) s (cc (variable_value m s v at_p x, reaches_value m s at_q)))

      right : (w f : ℕ) (ps : List ℕ) → view p' ≡ app_node f ps → view q' ≡ var_node w → (b : Bool) → occurs fuel view fuel.occurs_depth θ w p' ≡ b → Succeeds (bind_unless b θ w p')
      right w f ps x y true o =
          let d : value p' ≡ ρ w = cc (variable_value m s w at_q y, reaches_value m s at_p) in
          absurd (≻_irrefl (rw d at (occurs_exceeded m s (stays (symbol_unbound θ x)) x (occurs_found lay suf pr fuel.occurs_depth w p' o))))
      right w f ps x y false o = (bind θ w p', refl, satisfied_bind θ w p' (slot w q' y) s (cc (variable_value m s w at_q y, reaches_value m s at_p)))

      both : Complete (unify fuel view k) k → (f g : ℕ) (ps qs : List ℕ) → view p' ≡ app_node f ps → view q' ≡ app_node g qs → (d : Dec (f ≡ g))
          → Succeeds (elim d as (λ x. Option Bindings) [ yes e ↦ unify_each (unify fuel view k) θ ps qs | no n ↦ none ])
      both ih f g ps qs x y d = go d
        where
          alike : app f (values_at value ps) ≡ app g (values_at value qs)
          alike = cc (symbol_value m s f ps at_p x, symbol_value m s g qs at_q y)

          go : (d : Dec (f ≡ g)) → Succeeds (elim d as (λ x. Option Bindings) [ yes e ↦ unify_each (unify fuel view k) θ ps qs | no n ↦ none ])
          go (yes d) =
              let a : values_at value ps ≡ values_at value qs = cc alike in
              let fall : (c : ℕ) → In c ps → size_rank c < k = λ c z. omega (arith, rank_down (size_measure m s) lay f c ps at_p x z) in
              each_complete k ih ps qs θ pr (λ c z. lay.argument_within p' f c ps x z) (λ c z. lay.argument_within q' g c qs y z) s a fall
          go (no d) = absurd (d (cc alike))

      go : Complete (unify fuel view k) k → (x y : Node) → view p' ≡ x → view q' ≡ y → Succeeds (unify_nodes fuel view (unify fuel view k) θ p' q' x y)
      go ih (var_node v) (var_node w) x y = variables v w x y (ℕ_discrete v w) (dec_lt v w)
      go ih (var_node v) (app_node g qs) x y = left v g qs x y (occurs fuel view fuel.occurs_depth θ v q') refl
      go ih (app_node f ps) (var_node w) x y = right w f ps x y (occurs fuel view fuel.occurs_depth θ w p') refl
      go ih (app_node f ps) (app_node g qs) x y = both ih f g ps qs x y (ℕ_discrete f g)

  pub unify_succeeds : (θ : Bindings) (p q : ℕ) → Proper view vars n θ → p < n → q < n → Satisfied ρ value θ → value p ≡ value q → Succeeds (unify fuel view fuel.unify_depth θ p q)
  unfolding size_rank
  unify_succeeds θ p q pr i j s e = unify_complete fuel.unify_depth θ p q pr i j s e (omega (arith, suf.unify_suffices, rank_le n (λ q. size (value q)) p))
