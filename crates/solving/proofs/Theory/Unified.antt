-- What unification keeps, and that `unify` finds it.
use Prim.Native.Nat.{ℕ, zero, suc, ◌<◌}
use Rattle.std.proofs.Math.Path.{◌≡◌, refl}
use Rattle.std.proofs.Common.{sym, arith}
use Rattle.std.specs.Prelude.{Bool, true, false}
use Rattle.std.proofs.Math.Option.{Option, none, some}
use mathlib.Core.List.{List, [], ◌∷◌}
use Rattle.std.proofs.Math.Decide.{ℕ_discrete, dec_lt}
use Rattle.terms.specs.Position.{Node, var_node, app_node}
use Rattle.terms.specs.Theory.View.{In, head, tail, Layout}
use Rattle.solving.specs.Line.{Bindings, lookup, bind}
use Rattle.solving.specs.Walk.{Fuel, reach, occurs, bind_unless, unify_variables, unify_each, unify_nodes, unify}
use Rattle.solving.specs.ForContracts.Unified.{Bindable, Unified, equal_variables, bound_left, bound_right, symbols, EachUnified, no_more, one_more}
use Rattle.solving.specs.Theory.Seen.{bound_variable, reaches_free, reaches_unbound, occurs_variable}
use Rattle.solving.specs.ForContracts.Seen.{Reaches, stays, goes, Occurs}
use Rattle.solving.proofs.Theory.Reach.{Sufficient, reach_reaches, occurs_not}
use Rattle.solving.specs.ForContracts.Bindings.{Proper}
use Rattle.solving.proofs.Theory.Bind.{bind_keeps, bind_proper}

-- Bindings stay, and stay proper.
pub record Extends (θ θ' : Bindings) : Type 0 where
  pub stay : (v p : ℕ) → lookup θ v ≡ some p → lookup θ' v ≡ some p

bind_extends : {view : ℕ → Node} (θ : Bindings) (v s : ℕ) → Bindable view θ v s → Extends θ (bind θ v s)
bind_extends θ v s b = record { stay = λ w p e. bind_keeps θ v s b.slot w p b.free e }

module _ {view : ℕ → Node} where
  mutual
    pub unified_extends : {θ θ' : Bindings} {p q : ℕ} → Unified view θ p q θ' → Extends θ θ'
    unified_extends (equal_variables a b x y e) = rw e (record { stay = λ v p d. d })
    unified_extends (bound_left {θ = θ} {s = s} {v = v} a b x h e) = rw e (bind_extends θ v s h)
    unified_extends (bound_right {θ = θ} {r = r} {w = w} a b x h e) = rw e (bind_extends θ w r h)
    unified_extends (symbols a b x y us) = each_extends us

    pub each_extends : {θ θ' : Bindings} {ps qs : List ℕ} → EachUnified view θ ps qs θ' → Extends θ θ'
    each_extends (no_more e) = rw e (record { stay = λ v p d. d })
    each_extends (one_more u us) = let a = unified_extends u in let b = each_extends us in record { stay = λ v p e. b.stay v p (a.stay v p e) }

module _ {view : ℕ → Node} {vars n : ℕ} (lay : Layout view vars n) where
  pub reaches_within : {θ : Bindings} → Proper view vars n θ → {p r : ℕ} → Reaches view θ p r → p < n → r < n
  reaches_within pr (stays e) l = l
  reaches_within {θ} pr (goes {p = p} {q = q} e k) l = let (v, d, x) = bound_variable θ (view p) q e in reaches_within pr k (pr.within v q x)

  bindable_proper : {θ : Bindings} → Proper view vars n θ → (v s : ℕ) → Bindable view θ v s → s < n → Proper view vars n (bind θ v s)
  bindable_proper pr v s b l = bind_proper lay pr v s b.slot b.free b.up l b.away

  mutual
    pub unified_proper : {θ θ' : Bindings} {p q : ℕ} → Unified view θ p q θ' → Proper view vars n θ → p < n → q < n → Proper view vars n θ'
    unified_proper (equal_variables a b x y e) pr i j = rw e pr
    unified_proper (bound_left {s = s} {v = v} a b x h e) pr i j = rw e (bindable_proper pr v s h (reaches_within pr b j))
    unified_proper (bound_right {r = r} {w = w} a b x h e) pr i j = rw e (bindable_proper pr w r h (reaches_within pr a i))
    unified_proper (symbols {r = r} {s = s} {f = f} {ps = ps} {qs = qs} a b x y us) pr i j =
        each_proper us pr (λ c k. lay.argument_within r f c ps x k) (λ c k. lay.argument_within s f c qs y k)

    pub each_proper : {θ θ' : Bindings} {ps qs : List ℕ} → EachUnified view θ ps qs θ' → Proper view vars n θ → ((c : ℕ) → In c ps → c < n) → ((c : ℕ) → In c qs → c < n) → Proper view vars n θ'
    each_proper (no_more e) pr i j = rw e pr
    each_proper (one_more u us) pr i j = each_proper us (unified_proper u pr (i _ head) (j _ head)) (λ c k. i c (tail k)) (λ c k. j c (tail k))

-- What `unify` gives is such a unification.
module _ {fuel : Fuel} {view : ℕ → Node} {vars n : ℕ} (lay : Layout view vars n) (suf : Sufficient vars n fuel) where
  abbrev Gives : (Bindings → ℕ → ℕ → Option Bindings) → Type 0
  Gives u = (θ θ' : Bindings) (p q : ℕ) → Proper view vars n θ → p < n → q < n → u θ p q ≡ some θ' → Unified view θ p q θ'

  unify_each_gives : (u : Bindings → ℕ → ℕ → Option Bindings) → Gives u → (ps qs : List ℕ) (θ θ' : Bindings) → Proper view vars n θ → ((c : ℕ) → In c ps → c < n) → ((c : ℕ) → In c qs → c < n)
      → unify_each u θ ps qs ≡ some θ' → EachUnified view θ ps qs θ'
  unfolding unify_each
  unify_each_gives u h [] [] θ θ' pr i j e = let x : θ' ≡ θ = cc in no_more x
  unify_each_gives u h [] (q ∷ qs) θ θ' pr i j e = let z : ◌≡◌ {A = ℕ} 0 1 = cc in absurd (omega arith)
  unify_each_gives u h (p ∷ ps) [] θ θ' pr i j e = let z : ◌≡◌ {A = ℕ} 0 1 = cc in absurd (omega arith)
  unify_each_gives u h (p ∷ ps) (q ∷ qs) θ θ' pr i j e = go (λ η x. unify_each_gives u h ps qs η θ' x (λ c k. i c (tail k)) (λ c k. j c (tail k))) (u θ p q) refl e
    where
      go : ((η : Bindings) → Proper view vars n η → unify_each u η ps qs ≡ some θ' → EachUnified view η ps qs θ') → (o : Option Bindings) → u θ p q ≡ o
          → (elim o as (λ x. Option Bindings) [ none ↦ none | some η ↦ unify_each u η ps qs ]) ≡ some θ' → EachUnified view θ (p ∷ ps) (q ∷ qs) θ'
      go ih none d e = let z : ◌≡◌ {A = ℕ} 0 1 = cc in absurd (omega arith)
      go ih (some η) d e = let a = h θ η p q pr (i p head) (j q head) d in one_more a (ih η (unified_proper lay a pr (i p head) (j q head)) e)

  pub unify_gives : (k : ℕ) → Gives (unify fuel view k)
  unfolding unify
  unify_gives zero θ θ' p q pr i j e = let z : ◌≡◌ {A = ℕ} 0 1 = cc in absurd (omega arith)
  unify_gives (suc k) θ θ' p q pr i j e = go (unify_gives k) (view r) (view s) refl refl e
    where
      r : ℕ
      r = reach fuel view θ p

      s : ℕ
      s = reach fuel view θ q

      at_p : Reaches view θ p r
      at_p = reach_reaches lay suf pr p

      at_q : Reaches view θ q s
      at_q = reach_reaches lay suf pr q

      bindable : {a t : ℕ} (v b : ℕ) → Reaches view θ a t → view t ≡ var_node v → ((w : ℕ) → view b ≡ var_node w → v < w) → (Occurs view θ v b → ⊥) → Bindable view θ v b
      bindable {a} {t} v b k x up away = record { slot = omega (arith, pr.slots, lay.variable_low t v x); free = reaches_free v k x; up = up; away = away }

      variables : (v w : ℕ) → view r ≡ var_node v → view s ≡ var_node w → (d : Dec (v ≡ w)) (l : Dec (v < w)) → unify_variables θ v w r s d l ≡ some θ' → Unified view θ p q θ'
      variables v w x y (yes d) l e = let a : view s ≡ var_node v = cc in let b : θ' ≡ θ = cc in equal_variables at_p at_q x a b
      variables v w x y (no d) (yes l) e =
          let z : θ' ≡ bind θ v s = cc in
          bound_left at_p at_q x (bindable v s at_p x (λ u a. let h : w ≡ u = cc in omega arith) (λ o. d (occurs_variable (reaches_unbound at_q) y o))) z
      variables v w x y (no d) (no l) e =
          let z : θ' ≡ bind θ w r = cc in
          bound_right at_p at_q y (bindable w r at_q y (λ u a. let h : v ≡ u = cc in omega arith) (λ o. d (sym (occurs_variable (reaches_unbound at_p) x o)))) z

      left : (v g : ℕ) (qs : List ℕ) → view r ≡ var_node v → view s ≡ app_node g qs → (b : Bool) → occurs fuel view fuel.occurs_depth θ v s ≡ b → bind_unless b θ v s ≡ some θ'
          → Unified view θ p q θ'
      left v g qs x y true o e = let z : ◌≡◌ {A = ℕ} 0 1 = cc in absurd (omega arith)
      left v g qs x y false o e =
          let z : θ' ≡ bind θ v s = cc in
          bound_left at_p at_q x (bindable v s at_p x (λ u a. let h : ◌≡◌ {A = ℕ} 0 1 = cc in absurd (omega arith)) (occurs_not lay suf pr o)) z

      right : (w f : ℕ) (ps : List ℕ) → view r ≡ app_node f ps → view s ≡ var_node w → (b : Bool) → occurs fuel view fuel.occurs_depth θ w r ≡ b → bind_unless b θ w r ≡ some θ'
          → Unified view θ p q θ'
      right w f ps x y true o e = let z : ◌≡◌ {A = ℕ} 0 1 = cc in absurd (omega arith)
      right w f ps x y false o e =
          let z : θ' ≡ bind θ w r = cc in
          bound_right at_p at_q y (bindable w r at_q y (λ u a. let h : ◌≡◌ {A = ℕ} 0 1 = cc in absurd (omega arith)) (occurs_not lay suf pr o)) z

      both : Gives (unify fuel view k) → (f g : ℕ) (ps qs : List ℕ) → view r ≡ app_node f ps → view s ≡ app_node g qs → (d : Dec (f ≡ g))
          → (elim d as (λ x. Option Bindings) [ yes e ↦ unify_each (unify fuel view k) θ ps qs | no n ↦ none ]) ≡ some θ' → Unified view θ p q θ'
      both ih f g ps qs x y (yes d) e =
          let z : view s ≡ app_node f qs = cc in
          symbols at_p at_q x z (unify_each_gives (unify fuel view k) ih ps qs θ θ' pr (λ c i. lay.argument_within r f c ps x i) (λ c i. lay.argument_within s g c qs y i) e)
      both ih f g ps qs x y (no d) e = let z : ◌≡◌ {A = ℕ} 0 1 = cc in absurd (omega arith)

      go : Gives (unify fuel view k) → (x y : Node) → view r ≡ x → view s ≡ y → unify_nodes fuel view (unify fuel view k) θ r s x y ≡ some θ' → Unified view θ p q θ'
      go ih (var_node v) (var_node w) x y e = variables v w x y (ℕ_discrete v w) (dec_lt v w) e
      go ih (var_node v) (app_node g qs) x y e = left v g qs x y (occurs fuel view fuel.occurs_depth θ v s) refl e
      go ih (app_node f ps) (var_node w) x y e = right w f ps x y (occurs fuel view fuel.occurs_depth θ w r) refl e
      go ih (app_node f ps) (app_node g qs) x y e = both ih f g ps qs x y (ℕ_discrete f g) e
