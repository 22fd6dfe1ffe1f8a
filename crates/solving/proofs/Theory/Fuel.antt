-- Fuel is no limit: on a proper table a turn is the same with any fuel that suffices.
use Prim.Native.Nat.{ℕ, zero, suc, ◌≤◌, ◌<◌}
use Rattle.std.specs.Prelude.{◌≡◌, Bool}
use Rattle.std.proofs.Math.Path.{refl, ap₂}
use Rattle.std.proofs.Common.{ap, ◌∙◌, arith}
use Rattle.std.proofs.Math.Bool.{true, false}
use Rattle.std.proofs.Math.Option
use Rattle.std.proofs.Math.Option.{Option, none, some}
use mathlib.Core.List.{List, [], ◌∷◌, ◌++◌, map}
use Rattle.std.proofs.Math.Decide.{ℕ_discrete, dec_lt}
use Rattle.terms.specs.Position.{Node, var_node, app_node}
use Rattle.terms.specs.Theory.View.{In, head, tail, Layout}
use Rattle.solving.specs.Line.{Bindings, bind, Element, equal, greater, Line, line}
use Rattle.format.specs.declared.refusal.Refusal.{Refusal}
use Rattle.solving.specs.Walk.{Fuel, reach, occurs, bind_unless, unify_variables, unify_each, unify_nodes, unify, Treatment, fully_reduced, becomes, in_front, behind, treat_greater, treat, treat_leftmost, treat_line, turn, Walked, solved, refused, walk_until}
use Rattle.solving.specs.Theory.Seen.{bound_variable, variable_bound}
use Rattle.solving.specs.ForContracts.Seen.{Occurs}
use Rattle.solving.specs.Theory.Rank.{rank, rank_le, rank_down}
use Rattle.solving.specs.ForContracts.Bindings.{Measure, Proper}
use Rattle.solving.proofs.Theory.Reach.{Sufficient, reach_reaches, reach_is, occurs_found, occurs_finds}
use Rattle.solving.proofs.Theory.Unified.{Extends, each_extends, unified_proper, unify_gives}
use Rattle.solving.specs.ForContracts.Unified.{Bindable, Unified, EachUnified, equal_variables, bound_left, bound_right, symbols, no_more, one_more}
use Rattle.solving.proofs.Theory.Table.{ProperTable, turn_proper}
use Rattle.solving.specs.ForContracts.Within.{Within, AllWithin}

measure_back : {view : ℕ → Node} {θ θ' : Bindings} {m : ℕ → ℕ} → Extends θ θ' → Measure view θ' m → Measure view θ m
measure_back {view} {θ} {θ'} x me = record {
  down = me.down;
  along = λ p q e.
      let (v, d, y) = bound_variable θ (view p) q e in
      me.along p q (variable_bound θ' d ∙ x.stay v q y);
}

-- A unification is found with depth above the rank of its left position.
module _ {fuel : Fuel} {view : ℕ → Node} {vars n : ℕ} (lay : Layout view vars n) (suf : Sufficient vars n fuel) (m : ℕ → ℕ) where
  module _ {θ : Bindings} (pr : Proper view vars n θ) where
    occurs_away : {v s : ℕ} → (Occurs view θ v s → ⊥) → (b : Bool) → occurs fuel view fuel.occurs_depth θ v s ≡ b → bind_unless b θ v s ≡ some (bind θ v s)
    unfolding bind_unless
    occurs_away {v} {s} away true e = absurd (away (occurs_found lay suf pr fuel.occurs_depth v s e))
    occurs_away away false e = refl

    same_variables : (v r s : ℕ) (d : Dec (v ≡ v)) (l : Dec (v < v)) → unify_variables θ v v r s d l ≡ some θ
    unfolding unify_variables
    same_variables v r s (yes d) l = refl
    same_variables v r s (no d) l = absurd (d refl)

    lower_left : (v w r s : ℕ) → v < w → (d : Dec (v ≡ w)) (l : Dec (v < w)) → unify_variables θ v w r s d l ≡ some (bind θ v s)
    unfolding unify_variables
    lower_left v w r s h (yes d) l = absurd (omega arith)
    lower_left v w r s h (no d) (yes l) = refl
    lower_left v w r s h (no d) (no l) = absurd (omega arith)

    lower_right : (v w r s : ℕ) → w < v → (d : Dec (v ≡ w)) (l : Dec (v < w)) → unify_variables θ v w r s d l ≡ some (bind θ w r)
    unfolding unify_variables
    lower_right v w r s h (yes d) l = absurd (omega arith)
    lower_right v w r s h (no d) (yes l) = absurd (omega arith)
    lower_right v w r s h (no d) (no l) = refl

    left_found : (u : Bindings → ℕ → ℕ → Option Bindings) (v r s : ℕ) → Bindable view θ v s → (y : Node) → view s ≡ y → unify_nodes fuel view u θ r s (var_node v) y ≡ some (bind θ v s)
    unfolding unify_nodes
    left_found u v r s b (var_node w) e = lower_left v w r s (b.up w e) (ℕ_discrete v w) (dec_lt v w)
    left_found u v r s b (app_node g qs) e = occurs_away b.away (occurs fuel view fuel.occurs_depth θ v s) refl

    right_found : (u : Bindings → ℕ → ℕ → Option Bindings) (w r s : ℕ) → Bindable view θ w r → (x : Node) → view r ≡ x → unify_nodes fuel view u θ r s x (var_node w) ≡ some (bind θ w r)
    unfolding unify_nodes
    right_found u w r s b (var_node v) e = lower_right v w r s (b.up v e) (ℕ_discrete v w) (dec_lt v w)
    right_found u w r s b (app_node f ps) e = occurs_away b.away (occurs fuel view fuel.occurs_depth θ w r) refl

  same_symbol : {A : Type 0} (f : ℕ) (d : Dec (f ≡ f)) (x y : A) → (elim d as (λ z. A) [ yes e ↦ x | no n ↦ y ]) ≡ x
  same_symbol f (yes d) x y = refl
  same_symbol f (no d) x y = absurd (d refl)

  deeper : (θ θ' : Bindings) (p q : ℕ) → ((i : ℕ) → rank n m p ≤ i → unify fuel view (suc i) θ p q ≡ some θ') → (j : ℕ) → rank n m p < j → unify fuel view j θ p q ≡ some θ'
  deeper θ θ' p q h zero l = absurd (omega arith)
  deeper θ θ' p q h (suc i) l = h i (omega arith)

  mutual
    unfolding unify unify_nodes unify_each

    unify_finds : {θ θ' : Bindings} {p q : ℕ} → Unified view θ p q θ' → Proper view vars n θ → p < n → q < n → Measure view θ' m → (j : ℕ) → rank n m p ≤ j
        → unify fuel view (suc j) θ p q ≡ some θ'
    unify_finds (equal_variables {r = r} {s = s} {v = v} a b x y e) pr i k me j l =
        rw (reach_is lay suf pr a, reach_is lay suf pr b, x, y, e) (same_variables pr v r s (ℕ_discrete v v) (dec_lt v v))
    unify_finds (bound_left {r = r} {s = s} {v = v} a b x h e) pr i k me j l =
        rw (reach_is lay suf pr a, reach_is lay suf pr b, x, e) (left_found pr (unify fuel view j) v r s h (view s) refl)
    unify_finds (bound_right {r = r} {s = s} {w = w} a b x h e) pr i k me j l =
        rw (reach_is lay suf pr a, reach_is lay suf pr b, x, e) (right_found pr (unify fuel view j) w r s h (view r) refl)
    unify_finds (symbols {r = r} {s = s} {f = f} {ps = ps} {qs = qs} a b x y us) pr i k me j l =
        let mθ = measure_back (each_extends us) me in
        let d = each_finds us pr (λ c z. lay.argument_within r f c ps x z) (λ c z. lay.argument_within s f c qs y z) me j (λ c z. omega (arith, rank_down mθ lay f c ps a x z)) in
        rw (reach_is lay suf pr a, reach_is lay suf pr b, x, y) (same_symbol f (ℕ_discrete f f) _ _ ∙ d)

    each_finds : {θ θ' : Bindings} {ps qs : List ℕ} → EachUnified view θ ps qs θ' → Proper view vars n θ → ((c : ℕ) → In c ps → c < n) → ((c : ℕ) → In c qs → c < n)
        → Measure view θ' m → (j : ℕ) → ((c : ℕ) → In c ps → rank n m c < j) → unify_each (unify fuel view j) θ ps qs ≡ some θ'
    each_finds (no_more e) pr i k me j l = rw e
    each_finds (one_more {θ = θ} {η = η} {p = p} {q = q} u us) pr i k me j l =
        let x = deeper θ η p q (λ a b. unify_finds u pr (i p head) (k q head) (measure_back (each_extends us) me) a b) j (l p head) in
        rw (x, unify_each) (each_finds us (unified_proper lay u pr (i p head) (k q head)) (λ c z. i c (tail z)) (λ c z. k c (tail z)) me j (λ c z. l c (tail z)))

pub unify_found : {fuel : Fuel} {view : ℕ → Node} {vars n : ℕ} → Layout view vars n → Sufficient vars n fuel → {θ θ' : Bindings} {p q : ℕ} → Proper view vars n θ → p < n → q < n → Unified view θ p q θ'
    → unify fuel view fuel.unify_depth θ p q ≡ some θ'
unify_found {fuel} {n = n} lay suf {θ} {θ'} {p} {q} pr i k u =
    let pr' = unified_proper lay u pr i k in
    let m = pr'.height in
    deeper lay suf m θ θ' p q (unify_finds lay suf m u pr i k pr'.falls) fuel.unify_depth (omega (arith, suf.unify_suffices, rank_le n m p))

-- Two fuels that suffice.
module _ {fuel₁ fuel₂ : Fuel} {view : ℕ → Node} {vars n : ℕ} (lay : Layout view vars n) (suf₁ : Sufficient vars n fuel₁) (suf₂ : Sufficient vars n fuel₂) where
  module _ {θ : Bindings} (pr : Proper view vars n θ) where
    reach_fuel : (p : ℕ) → reach fuel₁ view θ p ≡ reach fuel₂ view θ p
    reach_fuel p = reach_is lay suf₁ pr (reach_reaches lay suf₂ pr p)

    occurs_fuel : (v p : ℕ) → occurs fuel₁ view fuel₁.occurs_depth θ v p ≡ occurs fuel₂ view fuel₂.occurs_depth θ v p
    occurs_fuel v p = go (occurs fuel₁ view fuel₁.occurs_depth θ v p) (occurs fuel₂ view fuel₂.occurs_depth θ v p) refl refl
      where
        go : (b c : Bool) → occurs fuel₁ view fuel₁.occurs_depth θ v p ≡ b → occurs fuel₂ view fuel₂.occurs_depth θ v p ≡ c → b ≡ c
        go true c x y = cc (occurs_finds lay suf₂ pr (occurs_found lay suf₁ pr fuel₁.occurs_depth v p x))
        go false true x y = cc (occurs_finds lay suf₁ pr (occurs_found lay suf₂ pr fuel₂.occurs_depth v p y))
        go false false x y = refl

    unify_fuel : (p q : ℕ) → p < n → q < n → unify fuel₁ view fuel₁.unify_depth θ p q ≡ unify fuel₂ view fuel₂.unify_depth θ p q
    unify_fuel p q i j = go (unify fuel₁ view fuel₁.unify_depth θ p q) (unify fuel₂ view fuel₂.unify_depth θ p q) refl refl
      where
        go : (x y : Option Bindings) → unify fuel₁ view fuel₁.unify_depth θ p q ≡ x → unify fuel₂ view fuel₂.unify_depth θ p q ≡ y → x ≡ y
        go none none d e = refl
        go (some θ') y d e = cc (unify_found lay suf₂ pr i j (unify_gives lay suf₁ fuel₁.unify_depth θ θ' p q pr i j d))
        go none (some θ') d e = cc (unify_found lay suf₁ pr i j (unify_gives lay suf₂ fuel₂.unify_depth θ θ' p q pr i j e))

    greater_fuel : (p q : ℕ) (x y : Node) → treat_greater fuel₁ view θ p q x y ≡ treat_greater fuel₂ view θ p q x y
    unfolding treat_greater
    greater_fuel p q (var_node v) y = rw (occurs_fuel v q, treat_greater)
    greater_fuel p q (app_node f ps) (var_node w) = rw (occurs_fuel w p, treat_greater)
    greater_fuel p q (app_node f ps) (app_node g qs) = refl

    pub treat_fuel : (e : Element) → Within n e → treat fuel₁ view θ e ≡ treat fuel₂ view θ e
    unfolding treat
    treat_fuel (equal p q) h = rw (unify_fuel p q h.0 h.1)
    treat_fuel (greater p q) h = rw (reach_fuel p, reach_fuel q) (greater_fuel p q (view (reach fuel₂ view θ p)) (view (reach fuel₂ view θ q)))

    leftmost_fuel : (es : List Element) → AllWithin n es → treat_leftmost fuel₁ view θ es ≡ treat_leftmost fuel₂ view θ es
    unfolding treat_leftmost
    leftmost_fuel [] h = refl
    leftmost_fuel (e ∷ es) h = ap₂ placed (treat_fuel e h.0) (leftmost_fuel es h.1)
      where
        placed : Treatment → Option (List Line) → Option (List Line)
        placed t rest = elim t [ becomes ls ↦ some (map (behind es) ls) | fully_reduced ↦ Option.map (map (in_front e)) rest ]

  pub turn_fuel : (table : List Line) → ProperTable view vars n table → turn fuel₁ view table ≡ turn fuel₂ view table
  unfolding turn treat_line
  turn_fuel [] h = refl
  turn_fuel (line θ es ∷ ls) h = ap₂ replaced (leftmost_fuel h.0.0 es h.0.1) (turn_fuel ls h.1)
    where
      replaced : Option (List Line) → Option (List Line) → Option (List Line)
      replaced o rest = elim o [ some new ↦ some (new ++ ls) | none ↦ Option.map (line θ es ∷◌) rest ]

  module _ (over : List Line → Option Refusal) (stop : List Line → Bool) where
    pub walk_until_fuel : (left taken : ℕ) (table : List Line) → ProperTable view vars n table → walk_until fuel₁ view over stop left taken table ≡ walk_until fuel₂ view over stop left taken table
    unfolding walk_until
    walk_until_fuel zero taken table h = rw (turn_fuel table h, walk_until)
    walk_until_fuel (suc left) taken table h = rw (turn_fuel table h, walk_until) (go (walk_until_fuel left (suc taken)) (turn fuel₂ view table) refl)
      where
        IH : Type 0
        IH = (new : List Line) → ProperTable view vars n new → walk_until fuel₁ view over stop left (suc taken) new ≡ walk_until fuel₂ view over stop left (suc taken) new

        limited : List Line → Walked → Walked
        limited new w = elim (over new) [ some r ↦ refused r | none ↦ elim (stop new) [ true ↦ solved new (suc taken) | false ↦ w ] ]

        next : (List Line → Walked) → Option (List Line) → Walked
        next k o = elim o [ none ↦ solved table taken | some new ↦ limited new (k new) ]

        go : IH → (o : Option (List Line)) → turn fuel₂ view table ≡ o
            → next (walk_until fuel₁ view over stop left (suc taken)) o ≡ next (walk_until fuel₂ view over stop left (suc taken)) o
        go ih none e = refl
        go ih (some new) e = ap (limited new) (ih new (turn_proper lay suf₂ table new h e))
