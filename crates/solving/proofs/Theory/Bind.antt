-- A new binding of a free variable that does not occur in its term keeps the bindings proper.
use Rattle.std.specs.Prelude.{ℕ, suc, ◌+◌, ◌≤◌, ◌<◌, ◌≡◌, refl, Bool, true, false, length}
use Rattle.std.proofs.Common.{sym, ◌∙◌, length-set, get_or-set_same, get_or-set_other, arith}
use Rattle.std.proofs.Math.Option.{none, some}
use Rattle.std.proofs.Math.Decide.{ℕ_discrete}
use Rattle.terms.specs.Position.{Node, var_node}
use Rattle.terms.specs.Theory.View.{Layout}
use Rattle.solving.specs.Line.{Bindings, lookup, bind}
use Rattle.solving.specs.Walk.{Fuel, bound_to, occurs}
use Rattle.solving.specs.Theory.Seen.{bound_variable, variable_bound, occurs_up, occurs_back}
use Rattle.solving.specs.ForContracts.Seen.{stays, Occurs, here}
use Rattle.solving.specs.ForContracts.Bindings.{Measure, Proper}
use Rattle.solving.proofs.Theory.Reach.{Sufficient, occurs_found, occurs_finds}

-- What a binding adds, and what it leaves.
module _ (θ : Bindings) (v p : ℕ) (slot : v < length θ) where
  pub bind_same : lookup (bind θ v p) v ≡ some p
  bind_same = get_or-set_same θ v (some p) none slot

  -- A binding after `v` was bound to `p`: that one, or one of before.
  pub bind_cases : {P : Type 0} (w q : ℕ) → lookup (bind θ v p) w ≡ some q → (w ≡ v → q ≡ p → P) → (lookup θ w ≡ some q → P) → P
  bind_cases {P} w q e new old = go (ℕ_discrete w v)
    where
      go : Dec (w ≡ v) → P
      go (yes x) = new x (cc bind_same)
      go (no x) = old (sym (get_or-set_other θ v w (some p) none x) ∙ e)

  pub bind_keeps : (w q : ℕ) → lookup θ v ≡ none → lookup θ w ≡ some q → lookup (bind θ v p) w ≡ some q
  bind_keeps w q free e = get_or-set_other θ v w (some p) none (λ x. let z : ◌≡◌ {A = ℕ} 0 1 = cc in omega arith) ∙ e

-- The least fuel for `vars` variables and `n` positions: it decides occurrence.
abbrev pub fuel_for : (vars n : ℕ) → Fuel
fuel_for vars n = record { hops = vars; occurs_depth = suc n; unify_depth = suc n }

pub fuel_for_suffices : (vars n : ℕ) → Sufficient vars n (fuel_for vars n)
fuel_for_suffices vars n = record { hops_suffice = omega arith; occurs_suffices = omega arith; unify_suffices = omega arith }

module _ {view : ℕ → Node} {vars n : ℕ} (lay : Layout view vars n) {θ : Bindings} (pr : Proper view vars n θ) (v q : ℕ)
    (slot : v < length θ) (free : lookup θ v ≡ none) (up : (w : ℕ) → view q ≡ var_node w → v < w) (inner : q < n) (away : Occurs view θ v q → ⊥) where
  occurs_at : ℕ → Bool
  occurs_at p = occurs (fuel_for vars n) view (suc n) θ v p

  at_found : (p : ℕ) → occurs_at p ≡ true → Occurs view θ v p
  unfolding occurs_at
  at_found p = occurs_found lay (fuel_for_suffices vars n) pr (suc n) v p

  at_finds : {p : ℕ} → Occurs view θ v p → occurs_at p ≡ true
  unfolding occurs_at
  at_finds = occurs_finds lay (fuel_for_suffices vars n) pr

  -- Where the variable occurs, the height of what it stands for is added.
  abbrev added : Bool → ℕ
  added true = pr.height q
  added false = 0

  raised : ℕ → ℕ
  raised p = pr.height p + added (occurs_at p)

  added_mono : (b c : Bool) → (b ≡ true → c ≡ true) → added b ≤ added c
  added_mono true c h = rw (h refl) (omega arith)
  added_mono false c h = omega arith

  added_none : (b : Bool) → (b ≡ true → ⊥) → added b ≡ 0
  added_none true h = absurd (h refl)
  added_none false h = refl

  bind_falls : Measure view (bind θ v q) raised
  unfolding raised
  bind_falls = record {
    down = λ p f c ps e i. omega (arith, pr.falls.down p f c ps e i, added_mono (occurs_at c) (occurs_at p) (λ o. at_finds (occurs_up e i (at_found c o))));
    along = λ p r e.
        let (u, d, x) = bound_variable (bind θ v q) (view p) r e in
        bind_cases θ v q slot u r x (λ a b. new p u r d a b) (λ y. old p r (variable_bound θ d ∙ y));
  }
    where
      old : (p r : ℕ) → bound_to θ (view p) ≡ some r → pr.height r + added (occurs_at r) ≤ pr.height p + added (occurs_at p)
      old p r e = omega (arith, pr.falls.along p r e, added_mono (occurs_at r) (occurs_at p) (λ o. at_finds (occurs_back e (at_found r o))))

      new : (p u r : ℕ) → view p ≡ var_node u → u ≡ v → r ≡ q → pr.height r + added (occurs_at r) ≤ pr.height p + added (occurs_at p)
      new p u r d a b =
          let d' : view p ≡ var_node v = cc in
          let x : occurs_at p ≡ true = at_finds (here (stays (variable_bound θ d' ∙ free)) d') in
          let y : added (occurs_at q) ≡ 0 = added_none (occurs_at q) (λ o. away (at_found q o)) in
          rw (b, x, y) (omega arith)

  pub bind_proper : Proper view vars n (bind θ v q)
  bind_proper = record {
    slots = length-set θ v (some q) ∙ pr.slots;
    rising = λ u p w e d. bind_cases θ v q slot u p e (λ a b. let x : view q ≡ var_node w = cc in omega (arith, up w x)) (λ y. pr.rising u p w y d);
    within = λ u p e. bind_cases θ v q slot u p e (λ a b. omega arith) (λ y. pr.within u p y);
    height = raised;
    falls = bind_falls;
  }
