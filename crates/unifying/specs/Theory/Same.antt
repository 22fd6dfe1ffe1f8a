-- That terms are the same, seen through the bindings, is an equivalence; more bindings keep it; unification makes terms the same, and of the same terms it changes nothing.
use Rattle.std.specs.Prelude.{ℕ, ◌≡◌, refl, List}
use Rattle.std.proofs.Common.{◌∙◌, arith}
use Rattle.std.proofs.Math.Option.{Option, none, some}
use Rattle.terms.specs.Position.{Node, var_node, app_node}
use Rattle.solving.specs.Line.{Bindings, lookup}
use Rattle.solving.specs.ForContracts.Seen.{Reaches, stays, goes}
use Rattle.solving.specs.ForContracts.Unified.{Unified as Unification, EachUnified, equal_variables, bound_left, bound_right, symbols, no_more, one_more}
use Rattle.solving.specs.Theory.Seen.{bound_variable, symbol_unbound, variable_bound, reaches_unique}
use Rattle.solving.proofs.Theory.Bind.{bind_same}
use Rattle.solving.proofs.Theory.Unified.{Extends, each_extends}
use Rattle.bindings.specs.ForContracts.PrefixForm.{view_of}
use Rattle.bindings.specs.ForContracts.Bindings.{bindings_of, Readable}
use Rattle.unifying.specs.ForContracts.Links.{Same, EachSame, one_position, one_variable, one_symbol, none_left, and_then}
use Rattle.unifying.specs.Theory.Unify.{same_unified}

module _ {view : ℕ → Node} {θ : Bindings} where
  mutual
    pub same_sym : {p q : ℕ} → Same view θ p q → Same view θ q p
    same_sym (one_position a b) = one_position b a
    same_sym (one_variable a b x y) = one_variable b a y x
    same_sym (one_symbol a b x y es) = one_symbol b a y x (each_sym es)

    each_sym : {ps qs : List ℕ} → EachSame view θ ps qs → EachSame view θ qs ps
    each_sym none_left = none_left
    each_sym (and_then e es) = and_then (same_sym e) (each_sym es)

  mutual
    pub same_trans : {p q r : ℕ} → Same view θ p q → Same view θ q r → Same view θ p r
    same_trans (one_position a b) (one_position c d) = one_position a (rw (reaches_unique c b) at d)
    same_trans (one_position a b) (one_variable c d x y) = one_variable (rw (reaches_unique b c) at a) d x y
    same_trans (one_position a b) (one_symbol c d x y es) = one_symbol (rw (reaches_unique b c) at a) d x y es
    same_trans (one_variable a b x y) (one_position c d) = one_variable a (rw (reaches_unique c b) at d) x y
    same_trans (one_variable a b x y) (one_variable c d u w) = let e = reaches_unique c b in one_variable a d x (cc)
    same_trans (one_variable a b x y) (one_symbol c d u w es) = let e = reaches_unique c b in let z : ◌≡◌ {A = ℕ} 0 1 = cc in absurd (omega arith)
    same_trans (one_symbol a b x y es) (one_position c d) = one_symbol a (rw (reaches_unique c b) at d) x y es
    same_trans (one_symbol a b x y es) (one_variable c d u w) = let e = reaches_unique c b in let z : ◌≡◌ {A = ℕ} 0 1 = cc in absurd (omega arith)
    same_trans (one_symbol {f = f} {qs = qs} a b x y es) (one_symbol {f = g} {ps = ps} c d u w fs) =
        let e = reaches_unique c b in
        let i : g ≡ f = cc in
        let j : ps ≡ qs = cc in
        one_symbol a d x (rw i at w) (each_trans es (rw j at fs))

    each_trans : {ps qs rs : List ℕ} → EachSame view θ ps qs → EachSame view θ qs rs → EachSame view θ ps rs
    each_trans none_left none_left = none_left
    each_trans (and_then e es) (and_then f fs) = and_then (same_trans e f) (each_trans es fs)

-- Under more bindings, with which every position still reaches one.
module _ {view : ℕ → Node} {θ'' : Bindings} (reached : ℕ → ℕ) (reaches : (p : ℕ) → Reaches view θ'' p (reached p)) where
  further : {θ : Bindings} {p r u : ℕ} → Extends θ θ'' → Reaches view θ p r → Reaches view θ'' r u → Reaches view θ'' p u
  further x (stays e) k = k
  further {θ} x (goes {p = p} {q = q} e a) k = let (v, d, y) = bound_variable θ (view p) q e in goes (variable_bound θ'' d ∙ x.stay v q y) (further x a k)

  -- Two occurrences of a variable.
  variable_later : {θ : Bindings} {p q r s v : ℕ} → Extends θ θ'' → Reaches view θ p r → Reaches view θ q s → view r ≡ var_node v → view s ≡ var_node v → Same view θ'' p q
  variable_later {p = p} {q = q} {v = v} x a b d e = go (lookup θ'' v) refl
    where
      go : (o : Option ℕ) → lookup θ'' v ≡ o → Same view θ'' p q
      go none f = one_variable (further x a (stays (variable_bound θ'' d ∙ f))) (further x b (stays (variable_bound θ'' e ∙ f))) d e
      go (some t) f = one_position (further x a (goes (variable_bound θ'' d ∙ f) (reaches t))) (further x b (goes (variable_bound θ'' e ∙ f) (reaches t)))

  symbol_later : {θ : Bindings} {p r f : ℕ} {ps : List ℕ} → Extends θ θ'' → Reaches view θ p r → view r ≡ app_node f ps → Reaches view θ'' p r
  symbol_later x a d = further x a (stays (symbol_unbound θ'' d))

  mutual
    pub same_later : {θ : Bindings} {p q : ℕ} → Extends θ θ'' → Same view θ p q → Same view θ'' p q
    same_later x (one_position {r = r} a b) = one_position (further x a (reaches r)) (further x b (reaches r))
    same_later x (one_variable a b d e) = variable_later x a b d e
    same_later x (one_symbol a b d e es) = one_symbol (symbol_later x a d) (symbol_later x b e) d e (each_later x es)

    each_later : {θ : Bindings} {ps qs : List ℕ} → Extends θ θ'' → EachSame view θ ps qs → EachSame view θ'' ps qs
    each_later x none_left = none_left
    each_later x (and_then e es) = and_then (same_later x e) (each_later x es)

  -- A variable that was bound to what the other position reached.
  bound_later : {θ : Bindings} {p r s v : ℕ} → Extends θ θ'' → Reaches view θ p r → view r ≡ var_node v → lookup θ'' v ≡ some s → Reaches view θ'' p (reached s)
  bound_later {s = s} x a d f = further x a (goes (variable_bound θ'' d ∙ f) (reaches s))

  after : {θ θ' : Bindings} → Extends θ θ' → Extends θ' θ'' → Extends θ θ''
  after a b = record { stay = λ v p e. b.stay v p (a.stay v p e) }

  mutual
    pub unified_same : {θ θ' : Bindings} {p q : ℕ} → Extends θ θ'' → Extends θ' θ'' → Unification view θ p q θ' → Same view θ'' p q
    unified_same y x (equal_variables a b d e h) = variable_later y a b d e
    unified_same y x (bound_left {θ = θ} {s = s} {v = v} a b d h e) =
        let f : lookup θ'' v ≡ some s = x.stay v s (rw e (bind_same θ v s h.slot)) in
        one_position (bound_later y a d f) (further y b (reaches s))
    unified_same y x (bound_right {θ = θ} {r = r} {w = w} a b d h e) =
        let f : lookup θ'' w ≡ some r = x.stay w r (rw e (bind_same θ w r h.slot)) in
        one_position (further y a (reaches r)) (bound_later y b d f)
    unified_same y x (symbols a b d e us) = one_symbol (symbol_later y a d) (symbol_later y b e) d e (each_unified_same y x us)

    each_unified_same : {θ θ' : Bindings} {ps qs : List ℕ} → Extends θ θ'' → Extends θ' θ'' → EachUnified view θ ps qs θ' → EachSame view θ'' ps qs
    each_unified_same y x (no_more e) = none_left
    each_unified_same y x (one_more u us) = let z = after (each_extends us) x in and_then (unified_same y z u) (each_unified_same z x us)

-- Unification of the same terms changes nothing.
module _ {nodes sizes bs : List ℕ} (read : Readable nodes sizes bs) where
  mutual
    pub same_unifies : {p q : ℕ} → Same (view_of nodes sizes) (bindings_of bs) p q → Unification (view_of nodes sizes) (bindings_of bs) p q (bindings_of bs)
    same_unifies (one_position {p = p} {q = q} {r = r} a b) = same_unified read p q r a b (view_of nodes sizes r) refl
    same_unifies (one_variable a b x y) = equal_variables a b x y refl
    same_unifies (one_symbol a b x y es) = symbols a b x y (each_unifies es)

    each_unifies : {ps qs : List ℕ} → EachSame (view_of nodes sizes) (bindings_of bs) ps qs → EachUnified (view_of nodes sizes) (bindings_of bs) ps qs (bindings_of bs)
    each_unifies none_left = no_more refl
    each_unifies (and_then e es) = one_more (same_unifies e) (each_unifies es)
