-- Under bindings that rise and are acyclic, `reach` and `occurs` find what is seen through the bindings, with any fuel that suffices.
use Prim.Native.Nat.{ℕ, zero, suc, ◌+◌, ◌≤◌, ◌<◌}
use Rattle.std.proofs.Math.Path.{◌≡◌, refl}
use Rattle.std.specs.Prelude.{Bool, ◌||◌, List, [], ◌∷◌}
use Rattle.std.proofs.Math.Bool.{true, false}
use Rattle.std.proofs.Math.Option.{Option, none, some}
use Rattle.std.proofs.Math.Decide.{ℕ_discrete}
use Rattle.std.proofs.Common.{arith}
use Rattle.format.specs.Lists.{any}
use Rattle.format.specs.Limits.{variable_count, position_count}
use Rattle.terms.specs.Position.{Node, var_node, app_node}
use Rattle.terms.specs.Theory.View.{In, head, tail, Layout}
use Rattle.solving.specs.Line.{Bindings}
use Rattle.solving.specs.Walk.{Fuel, AtLeast, enough, bound_to, follow, reach, occurs_in, occurs}
use Rattle.solving.specs.ForContracts.Bindings.{Proper}
use Rattle.solving.specs.Theory.Seen.{bound_variable, reaches_unique}
use Rattle.solving.specs.ForContracts.Seen.{Reaches, stays, goes, Occurs, here, inside}
use Rattle.solving.specs.Theory.Rank.{rank, rank_le, rank_down}

-- Fuel that suffices where there are `vars` variables and `n` positions.
pub record Sufficient (vars n : ℕ) (fuel : Fuel) : Type 0 where
  pub hops_suffice : vars ≤ fuel.hops
  pub occurs_suffices : n < fuel.occurs_depth
  pub unify_suffices : n < fuel.unify_depth

pub enough_suffices : {n : ℕ} → n ≤ position_count → Sufficient variable_count n enough
enough_suffices l = record { hops_suffice = omega arith; occurs_suffices = omega arith; unify_suffices = omega arith }

pub more_suffices : {vars n : ℕ} {least fuel : Fuel} → Sufficient vars n least → AtLeast least fuel → Sufficient vars n fuel
more_suffices s a = record {
  hops_suffice = omega (arith, s.hops_suffice, a.more_hops);
  occurs_suffices = omega (arith, s.occurs_suffices, a.deeper_occurs);
  unify_suffices = omega (arith, s.unify_suffices, a.deeper_unify);
}

any_found : (f : ℕ → Bool) (ps : List ℕ) → any f ps ≡ true → (c : ℕ) × In c ps × (f c ≡ true)
unfolding any
any_found f [] e = let z : ◌≡◌ {A = ℕ} 0 1 = cc in absurd (omega arith)
any_found f (p ∷ ps) e = go (any_found f ps) (f p) refl e
  where
    go : (any f ps ≡ true → (c : ℕ) × In c ps × (f c ≡ true)) → (b : Bool) → f p ≡ b → (b || any f ps) ≡ true → (c : ℕ) × In c (p ∷ ps) × (f c ≡ true)
    go ih true d e = (p, head, d)
    go ih false d e = let (c, i, y) = ih e in (c, tail i, y)

any_finds : (f : ℕ → Bool) {c : ℕ} {ps : List ℕ} → In c ps → f c ≡ true → any f ps ≡ true
unfolding any
any_finds f head e = rw e
any_finds f (tail {p = p} {ps = ps} i) e = go (f p) (any_finds f i e)
  where
    go : (b : Bool) → any f ps ≡ true → (b || any f ps) ≡ true
    go true h = refl
    go false h = h

module _ {fuel : Fuel} {view : ℕ → Node} {vars n : ℕ} (lay : Layout view vars n) (suf : Sufficient vars n fuel) {θ : Bindings} (pr : Proper view vars n θ) where
  -- With enough hops the end of the bindings is reached: a variable is bound to a higher one or to no variable.
  follow_reaches : (k p : ℕ) → ((v : ℕ) → view p ≡ var_node v → vars ≤ k + v) → Reaches view θ p (follow fuel view k θ p)
  unfolding follow
  follow_reaches zero p far = go (bound_to θ (view p)) refl
    where
      go : (o : Option ℕ) → bound_to θ (view p) ≡ o → Reaches view θ p p
      go none e = stays e
      go (some q) e = let (v, d, x) = bound_variable θ (view p) q e in absurd (omega (arith, far v d, lay.variable_low p v d))
  follow_reaches (suc k) p far = go (follow_reaches k) (bound_to θ (view p)) refl
    where
      go : ((q : ℕ) → ((v : ℕ) → view q ≡ var_node v → vars ≤ k + v) → Reaches view θ q (follow fuel view k θ q)) → (o : Option ℕ) → bound_to θ (view p) ≡ o
          → Reaches view θ p (elim o as (λ x. ℕ) [ none ↦ p | some q ↦ follow fuel view k θ q ])
      go ih none e = stays e
      go ih (some q) e = let (v, d, x) = bound_variable θ (view p) q e in goes e (ih q (λ u y. omega (arith, far v d, pr.rising v q u x y)))

  pub reach_reaches : (p : ℕ) → Reaches view θ p (reach fuel view θ p)
  unfolding reach
  reach_reaches p = follow_reaches fuel.hops p (λ v e. omega (arith, suf.hops_suffice))

  pub reach_is : {p r : ℕ} → Reaches view θ p r → reach fuel view θ p ≡ r
  reach_is {p} k = reaches_unique (reach_reaches p) k

  -- The occurs test finds only what occurs.
  pub occurs_found : (k v p : ℕ) → occurs fuel view k θ v p ≡ true → Occurs view θ v p
  unfolding occurs
  occurs_found zero v p x = let z : ◌≡◌ {A = ℕ} 0 1 = cc in absurd (omega arith)
  occurs_found (suc k) v p x = go (occurs_found k v) (view (reach fuel view θ p)) refl x
    where
      same : (w : ℕ) (d : Dec (v ≡ w)) → view (reach fuel view θ p) ≡ var_node w → (elim d as (λ x. Bool) [ yes e ↦ true | no n ↦ false ]) ≡ true → Occurs view θ v p
      same w (yes d) e x = here (reach_reaches p) (cc)
      same w (no d) e x = let z : ◌≡◌ {A = ℕ} 0 1 = cc in absurd (omega arith)

      go : ((c : ℕ) → occurs fuel view k θ v c ≡ true → Occurs view θ v c) → (y : Node) → view (reach fuel view θ p) ≡ y → occurs_in (occurs fuel view k θ v) v y ≡ true → Occurs view θ v p
      go ih (var_node w) e x = same w (ℕ_discrete v w) e x
      go ih (app_node f ps) e x = let (c, i, y) = any_found (occurs fuel view k θ v) ps x in inside (reach_reaches p) e i (ih c y)

  -- It finds all that occurs, if it goes deeper than the rank of the position.
  occurs_deep : {v p : ℕ} → Occurs view θ v p → (k : ℕ) → rank n pr.height p < k → occurs fuel view k θ v p ≡ true
  unfolding occurs occurs_in
  occurs_deep {v} o zero l = absurd (omega arith)
  occurs_deep {v} (here a e) (suc k) l = rw (reach_is a, e) (go (ℕ_discrete v v))
    where
      go : (d : Dec (v ≡ v)) → (elim d as (λ x. Bool) [ yes e ↦ true | no n ↦ false ]) ≡ true
      go (yes x) = refl
      go (no x) = absurd (x refl)
  occurs_deep {v} (inside {f = f} {c = c} {ps = ps} a e i o) (suc k) l =
      let h : occurs fuel view k θ v c ≡ true = occurs_deep o k (omega (arith, rank_down pr.falls lay f c ps a e i)) in
      rw (reach_is a, e) (any_finds (occurs fuel view k θ v) i h)

  pub occurs_finds : {v p : ℕ} → Occurs view θ v p → occurs fuel view fuel.occurs_depth θ v p ≡ true
  occurs_finds {v} {p} o = occurs_deep o fuel.occurs_depth (omega (arith, rank_le n pr.height p, suf.occurs_suffices))

  pub occurs_not : {v p : ℕ} → occurs fuel view fuel.occurs_depth θ v p ≡ false → Occurs view θ v p → ⊥
  occurs_not e o = let x = occurs_finds o in let z : ◌≡◌ {A = ℕ} 0 1 = cc in omega arith
