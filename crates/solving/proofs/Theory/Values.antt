-- What bindings, occurrence and unification say of the values of the variables.
use Rattle.std.specs.Prelude.{ℕ, zero, suc, ◌+◌, ◌≤◌, ◌<◌, ◌≡◌, refl, ◌⊎◌, List, [], ◌∷◌, length}
use Rattle.std.proofs.Common.{sym, ap, ◌∙◌, inl, inr, arith}
use Rattle.std.proofs.Math.Option.{none, some}
use Rattle.terms.specs.Term.{Term, Terms, app, Values, size, sizes}
use Rattle.terms.specs.Position.{Node, var_node, app_node}
use Rattle.terms.specs.Theory.Induction.{Member, first, later}
use Rattle.terms.specs.Theory.View.{In, head, tail, values_at, Model}
use Rattle.path_order.specs.Order.{◌≻◌}
use Rattle.path_order.proofs.Theory.Subterm.{exceeds_argument}
use Rattle.path_order.proofs.Theory.Laws.{≻_trans}
use Rattle.solving.specs.Line.{Bindings, lookup, bind}
use Rattle.solving.specs.Holds.{BindingsHold}
use Rattle.solving.specs.Theory.Seen.{bound_variable, reaches_unique}
use Rattle.solving.specs.ForContracts.Seen.{Reaches, stays, goes, Occurs, here, inside}
use Rattle.solving.specs.ForContracts.Bindings.{Measure}
use Rattle.solving.proofs.Theory.Bind.{bind_same, bind_cases}
use Rattle.solving.proofs.Theory.Unified.{Extends, unified_extends, each_extends}
use Rattle.solving.specs.ForContracts.Unified.{Unified, EachUnified, equal_variables, bound_left, bound_right, symbols, no_more, one_more}

-- "each binding is an equality there, of identical terms", for every variable.
pub record Satisfied (ρ : Values) (value : ℕ → Term) (θ : Bindings) : Type 0 where
  pub meets : (v p : ℕ) → lookup θ v ≡ some p → ρ v ≡ value p

module _ (ρ : Values) (value : ℕ → Term) where
  hold_meets : (b : ℕ) (θ : Bindings) → BindingsHold ρ value b θ → (v p : ℕ) → lookup θ v ≡ some p → ρ (b + v) ≡ value p
  hold_meets b [] h v p e = let z : ◌≡◌ {A = ℕ} 0 1 = cc in absurd (omega arith)
  hold_meets b (none ∷ θ) h zero p e = let z : ◌≡◌ {A = ℕ} 0 1 = cc in absurd (omega arith)
  hold_meets b (some q ∷ θ) h zero p e = let x : b + 0 ≡ b = omega arith in let y : q ≡ p = cc in rw (x, ← y) h.0
  hold_meets b (none ∷ θ) h (suc v) p e = let x : b + suc v ≡ suc b + v = omega arith in rw x (hold_meets (suc b) θ h v p e)
  hold_meets b (some q ∷ θ) h (suc v) p e = let x : b + suc v ≡ suc b + v = omega arith in rw x (hold_meets (suc b) θ h.1 v p e)

  meet_holds : (b : ℕ) (θ : Bindings) → ((v p : ℕ) → lookup θ v ≡ some p → ρ (b + v) ≡ value p) → BindingsHold ρ value b θ
  meet_holds b [] h = tt
  meet_holds b (none ∷ θ) h = meet_holds (suc b) θ (λ v p e. let x : suc b + v ≡ b + suc v = omega arith in rw x (h (suc v) p e))
  meet_holds b (some q ∷ θ) h = (
    let x : b ≡ b + 0 = omega arith in ap ρ x ∙ h zero q refl,
    meet_holds (suc b) θ (λ v p e. let x : suc b + v ≡ b + suc v = omega arith in rw x (h (suc v) p e)),
  )

  pub satisfied : (θ : Bindings) → BindingsHold ρ value 0 θ → Satisfied ρ value θ
  satisfied θ h = record { meets = λ v p e. let x : v ≡ 0 + v = omega arith in ap ρ x ∙ hold_meets 0 θ h v p e }

  pub bindings_hold : (θ : Bindings) → Satisfied ρ value θ → BindingsHold ρ value 0 θ
  bindings_hold θ s = meet_holds 0 θ (λ v p e. let x : 0 + v ≡ v = omega arith in ap ρ x ∙ s.meets v p e)

module _ {ρ : Values} {value : ℕ → Term} where
  pub satisfied_back : {θ θ' : Bindings} → Extends θ θ' → Satisfied ρ value θ' → Satisfied ρ value θ
  satisfied_back x s = record { meets = λ v p e. s.meets v p (x.stay v p e) }

  pub satisfied_bind : (θ : Bindings) (v p : ℕ) → v < length θ → Satisfied ρ value θ → ρ v ≡ value p → Satisfied ρ value (bind θ v p)
  satisfied_bind θ v p slot s h = record { meets = λ w q e. bind_cases θ v p slot w q e (λ a b. cc) (λ y. s.meets w q y) }

member_at : (value : ℕ → Term) {c : ℕ} {ps : List ℕ} → In c ps → Member (value c) (values_at value ps)
unfolding values_at
member_at value head = first
member_at value (tail i) = later (member_at value i)

module _ {view : ℕ → Node} {ρ : Values} {value : ℕ → Term} (m : Model view ρ value) where
  module _ {θ : Bindings} (s : Satisfied ρ value θ) where
    -- What is reached has the value.
    pub reaches_value : {p r : ℕ} → Reaches view θ p r → value r ≡ value p
    reaches_value (stays e) = refl
    reaches_value (goes {p = p} {q = q} e k) = let (v, d, x) = bound_variable θ (view p) q e in cc (reaches_value k, s.meets v q x, m.at_variable p v d)

    pub variable_value : {p r : ℕ} (v : ℕ) → Reaches view θ p r → view r ≡ var_node v → value p ≡ ρ v
    variable_value {p} {r} v k e = cc (reaches_value k, m.at_variable r v e)

    pub symbol_value : {p r : ℕ} (f : ℕ) (ps : List ℕ) → Reaches view θ p r → view r ≡ app_node f ps → value p ≡ app f (values_at value ps)
    symbol_value {p} {r} f ps k e = sym (reaches_value k) ∙ m.at_symbol r f ps e

    argument_exceeded : {p r f c : ℕ} {ps : List ℕ} → Reaches view θ p r → view r ≡ app_node f ps → In c ps → value p ≻ value c
    argument_exceeded {f = f} {ps = ps} k e i = rw (symbol_value f ps k e) (exceeds_argument (member_at value i))

    -- What occurs is the term or a subterm: it is equalled or exceeded.
    pub occurs_reached : {v p : ℕ} → Occurs view θ v p → (value p ≡ ρ v) ⊎ (value p ≻ ρ v)
    occurs_reached {v} (here k e) = inl (variable_value v k e)
    occurs_reached {v} (inside k e i o) = inr (elim (occurs_reached o) [ inl x ↦ rw (← x) (argument_exceeded k e i) | inr g ↦ ≻_trans (argument_exceeded k e i) g ])

    pub occurs_exceeded : {v p r f : ℕ} {ps : List ℕ} → Reaches view θ p r → view r ≡ app_node f ps → Occurs view θ v p → value p ≻ ρ v
    occurs_exceeded k e (here l d) = let x = reaches_unique k l in let z : ◌≡◌ {A = ℕ} 0 1 = cc in absurd (omega arith)
    occurs_exceeded k e (inside l d i o) = elim (occurs_reached o) [ inl x ↦ rw (← x) (argument_exceeded l d i) | inr g ↦ ≻_trans (argument_exceeded l d i) g ]

  -- Where the bindings that unification comes to hold, the two values are identical.
  mutual
    unfolding values_at

    pub unified_equal : {θ θ' : Bindings} {p q : ℕ} → Unified view θ p q θ' → Satisfied ρ value θ' → value p ≡ value q
    unified_equal (equal_variables {v = v} a b x y e) s = let s' = rw e at s in cc (variable_value s' v a x, variable_value s' v b y)
    unified_equal (bound_left {θ = θ} {s = t} {v = v} a b x h e) s =
        let s' = rw e at s in
        let s'' = satisfied_back (unified_extends (bound_left a b x h e)) s in
        cc (variable_value s'' v a x, reaches_value s'' b, s'.meets v t (bind_same θ v t h.slot))
    unified_equal (bound_right {θ = θ} {r = r} {w = w} a b x h e) s =
        let s' = rw e at s in
        let s'' = satisfied_back (unified_extends (bound_right a b x h e)) s in
        cc (variable_value s'' w b x, reaches_value s'' a, s'.meets w r (bind_same θ w r h.slot))
    unified_equal (symbols {f = f} {ps = ps} {qs = qs} a b x y us) s =
        let s'' = satisfied_back (each_extends us) s in
        cc (symbol_value s'' f ps a x, symbol_value s'' f qs b y, each_equal us s)

    pub each_equal : {θ θ' : Bindings} {ps qs : List ℕ} → EachUnified view θ ps qs θ' → Satisfied ρ value θ' → values_at value ps ≡ values_at value qs
    each_equal (no_more e) s = refl
    each_equal (one_more u us) s = cc (unified_equal u (satisfied_back (each_extends us) s), each_equal us s)

-- Where the bindings hold, the size of the value falls along every descent.
member_size : {s : Term} {ss : Terms} → Member s ss → size s ≤ sizes ss
unfolding size
member_size (first {ts = ts}) = omega arith
member_size (later {s = t} i) = omega (arith, member_size i)

argument_smaller : {s : Term} (f : ℕ) {ss : Terms} → Member s ss → size s < size (app f ss)
unfolding size
argument_smaller f i = omega (arith, member_size i)

pub size_measure : {view : ℕ → Node} {ρ : Values} {value : ℕ → Term} → Model view ρ value → {θ : Bindings} → Satisfied ρ value θ → Measure view θ (λ p. size (value p))
size_measure {view} {ρ} {value} m {θ} s = record {
  down = λ p f c ps e i. rw (m.at_symbol p f ps e) (argument_smaller f (member_at value i));
  along = λ p q e.
      let (v, d, x) = bound_variable θ (view p) q e in
      let y : size (value q) ≡ size (value p) = cc (m.at_variable p v d, s.meets v q x) in omega arith;
}
