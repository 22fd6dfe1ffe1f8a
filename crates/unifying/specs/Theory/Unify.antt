-- Unification by cases, as the code goes through them.
use Rattle.std.specs.Prelude.{ℕ, zero, suc, ◌-◌, ◌≤◌, ◌<◌, Bool, true, false, List, [], ◌∷◌, length, set, IsSome, IsNone, ⊤}
use Rattle.std.proofs.Math.Path.{◌≡◌, refl, sym, ap}
use Rattle.std.proofs.Common.{subst, ◌∙◌, arith}
use Rattle.std.proofs.Math.Option.{Option, none, some}
use Rattle.std.proofs.Math.ListN.{get_or}
use Rattle.std.proofs.Math.Decide.{ℕ_discrete, dec_lt}
use Rattle.format.specs.Limits.{first_variable, variable_count, no_position}
use Rattle.terms.specs.declared.arguments.Arguments.{Arguments}
use Rattle.terms.specs.ForContracts.Arguments.{arguments_at, behind_first}
use Rattle.terms.specs.Position.{Node, var_node, app_node}
use Rattle.solving.specs.Line.{Bindings, lookup, bind}
use Rattle.solving.specs.Walk.{enough, reach, occurs, bind_unless, unify_variables, unify_each, unify_nodes, unify}
use Rattle.solving.specs.Theory.Seen.{variable_bound, reaches_unbound}
use Rattle.solving.specs.ForContracts.Seen.{Reaches}
use Rattle.solving.specs.Theory.Rank.{rank, rank_le, rank_down}
use Rattle.solving.proofs.Theory.Fuel.{unify_found}
use Rattle.terms.specs.Theory.View.{In, head, tail}
use Rattle.solving.proofs.Theory.Reach.{enough_suffices, reach_reaches}
use Rattle.solving.proofs.Theory.Unified.{unified_proper, unify_gives}
use Rattle.solving.specs.ForContracts.Unified.{Unified as Unification, EachUnified, equal_variables, symbols, no_more, one_more}
use Rattle.std.specs.Prelude.{Option as Answer, Some, None}
use Rattle.bindings.specs.ForContracts.PrefixForm.{view_of, arguments_of, InPrefixForm}
use Rattle.bindings.specs.ForContracts.Bindings.{bindings_of, Readable}
use Rattle.unifying.specs.ForContracts.Unify.{answered, FreeAt, HasRows, BindsTo, UnifiesSymbols, UnifiesTo, UnifiesRows}
use Rattle.bindings.specs.Theory.PrefixForm.{symbol_there, variable_there, arguments_there, form_layout, row_empty, row_next, row_first_some}
use Rattle.bindings.specs.Theory.Bindings.{bind_byte, length_bindings}

-- 1. Two variables.
module _ (bs : List ℕ) (v w p q : ℕ) where
  pub variables_same : v ≡ w → unify_variables (bindings_of bs) v w p q (ℕ_discrete v w) (dec_lt v w) ≡ some (bindings_of bs)
  unfolding unify_variables
  variables_same h = go (ℕ_discrete v w)
    where
      go : (d : Dec (v ≡ w)) → unify_variables (bindings_of bs) v w p q d (dec_lt v w) ≡ some (bindings_of bs)
      go (yes e) = refl
      go (no n) = absurd (n h)

  pub variables_less : (v ≡ w → ⊥) → v < w → q < no_position → unify_variables (bindings_of bs) v w p q (ℕ_discrete v w) (dec_lt v w) ≡ some (bindings_of (set bs v q))
  unfolding unify_variables
  variables_less h l b = go (ℕ_discrete v w) (dec_lt v w) ∙ ap some (sym (bind_byte bs v q b))
    where
      go : (d : Dec (v ≡ w)) (e : Dec (v < w)) → unify_variables (bindings_of bs) v w p q d e ≡ some (bind (bindings_of bs) v q)
      go (yes e) d = absurd (h e)
      go (no n) (yes d) = refl
      go (no n) (no d) = absurd (d l)

  pub variables_more : (v ≡ w → ⊥) → w ≤ v → p < no_position → unify_variables (bindings_of bs) v w p q (ℕ_discrete v w) (dec_lt v w) ≡ some (bindings_of (set bs w p))
  unfolding unify_variables
  variables_more h l b = go (ℕ_discrete v w) (dec_lt v w) ∙ ap some (sym (bind_byte bs w p b))
    where
      go : (d : Dec (v ≡ w)) (e : Dec (v < w)) → unify_variables (bindings_of bs) v w p q d e ≡ some (bind (bindings_of bs) w p)
      go (yes e) d = absurd (h e)
      go (no n) (yes d) = absurd (omega arith)
      go (no n) (no d) = refl

-- 2. A variable and a term.
pub term_fails : (bs : List ℕ) (v p : ℕ) (θ : Bindings) (o : Bool) → true ≡ o → bind_unless o (bindings_of bs) v p ≡ answered None θ
unfolding answered bind_unless
term_fails bs v p θ true e = refl
term_fails bs v p θ false e = let z : ◌≡◌ {A = ℕ} 0 1 = cc in absurd (omega arith)

pub term_binds : (bs : List ℕ) (v p : ℕ) (o : Bool) → false ≡ o → p < no_position → bind_unless o (bindings_of bs) v p ≡ answered (Some tt) (bindings_of (set bs v p))
unfolding answered bind_unless
term_binds bs v p false e l = ap some (sym (bind_byte bs v p l))
term_binds bs v p true e l = let z : ◌≡◌ {A = ℕ} 0 1 = cc in absurd (omega arith)

-- 3. Two terms, by what stands at the positions reached.
module _ (nodes sizes : List ℕ) (θ : Bindings) (s t : ℕ) (i : s < length nodes) (j : t < length nodes) (each : Bindings → ℕ → ℕ → Option Bindings) where
  abbrev by_nodes : Option Bindings
  by_nodes = unify_nodes enough (view_of nodes sizes) each θ s t (view_of nodes sizes s) (view_of nodes sizes t)

  pub nodes_symbols : get_or nodes s 0 < first_variable → get_or nodes t 0 < first_variable → get_or nodes s 0 ≡ get_or nodes t 0
      → by_nodes ≡ unify_each each θ (arguments_of sizes s) (arguments_of sizes t)
  unfolding unify_nodes
  nodes_symbols h k e = rw (symbol_there nodes sizes s i h, symbol_there nodes sizes t j k) (go (ℕ_discrete (get_or nodes s 0) (get_or nodes t 0)))
    where
      go : (x : Dec (get_or nodes s 0 ≡ get_or nodes t 0)) → (elim x as (λ z. Option Bindings) [ yes e ↦ unify_each each θ (arguments_of sizes s) (arguments_of sizes t) | no n ↦ none ])
          ≡ unify_each each θ (arguments_of sizes s) (arguments_of sizes t)
      go (yes x) = refl
      go (no x) = absurd (x e)

  pub nodes_other : get_or nodes s 0 < first_variable → get_or nodes t 0 < first_variable → (get_or nodes s 0 ≡ get_or nodes t 0 → ⊥) → by_nodes ≡ none
  unfolding unify_nodes
  nodes_other h k n = rw (symbol_there nodes sizes s i h, symbol_there nodes sizes t j k) (go (ℕ_discrete (get_or nodes s 0) (get_or nodes t 0)))
    where
      go : (x : Dec (get_or nodes s 0 ≡ get_or nodes t 0)) → ◌≡◌ {A = Option Bindings} (elim x [ yes e ↦ unify_each each θ (arguments_of sizes s) (arguments_of sizes t) | no n ↦ none ]) none
      go (yes x) = absurd (n x)
      go (no x) = refl

  pub nodes_right : get_or nodes s 0 < first_variable → first_variable ≤ get_or nodes t 0 → (w : ℕ) → w ≡ get_or nodes t 0 - first_variable
      → by_nodes ≡ bind_unless (occurs enough (view_of nodes sizes) enough.occurs_depth θ w s) θ w s
  unfolding unify_nodes
  nodes_right h k w x = rw (symbol_there nodes sizes s i h, variable_there nodes sizes t w j k x)

  pub nodes_left : first_variable ≤ get_or nodes s 0 → get_or nodes t 0 < first_variable → (v : ℕ) → v ≡ get_or nodes s 0 - first_variable
      → by_nodes ≡ bind_unless (occurs enough (view_of nodes sizes) enough.occurs_depth θ v t) θ v t
  unfolding unify_nodes
  nodes_left h k v x = rw (variable_there nodes sizes s v i h x, symbol_there nodes sizes t j k)

  pub nodes_both : first_variable ≤ get_or nodes s 0 → first_variable ≤ get_or nodes t 0 → (v w : ℕ) → v ≡ get_or nodes s 0 - first_variable → w ≡ get_or nodes t 0 - first_variable
      → by_nodes ≡ unify_variables θ v w s t (ℕ_discrete v w) (dec_lt v w)
  unfolding unify_nodes
  nodes_both h k v w x y = rw (variable_there nodes sizes s v i h x, variable_there nodes sizes t w j k y)

-- A variable that is reached is free.
pub reached_unbound : {nodes sizes bs : List ℕ} → Readable nodes sizes bs → (p s v : ℕ) → s ≡ reach enough (view_of nodes sizes) (bindings_of bs) p → view_of nodes sizes s ≡ var_node v
    → lookup (bindings_of bs) v ≡ none
reached_unbound {nodes} {sizes} {bs} r p s v e d =
    let k = reach_reaches (form_layout r.laid) (enough_suffices r.laid.few) r.proper p in
    let u = reaches_unbound k in
    let d' : view_of nodes sizes (reach enough (view_of nodes sizes) (bindings_of bs) p) ≡ var_node v = rw (sym e) d in
    sym (variable_bound (bindings_of bs) d') ∙ u

-- Bindings that unification gives can be seen through.
pub unification_readable : {nodes sizes bs : List ℕ} (bs' : List ℕ) → Readable nodes sizes bs → (p q : ℕ) → p < length nodes → q < length nodes
    → Unification (view_of nodes sizes) (bindings_of bs) p q (bindings_of bs') → Readable nodes sizes bs'
unification_readable bs' r p q i j u = record { laid = r.laid; proper = unified_proper (form_layout r.laid) u r.proper i j }

pub unified_readable : {nodes sizes bs : List ℕ} (bs' : List ℕ) → Readable nodes sizes bs → (p q depth : ℕ) → p < length nodes → q < length nodes
    → unify enough (view_of nodes sizes) depth (bindings_of bs) p q ≡ some (bindings_of bs') → Readable nodes sizes bs'
unified_readable {nodes} {sizes} {bs} bs' r p q depth i j e =
    unification_readable bs' r p q i j (unify_gives (form_layout r.laid) (enough_suffices r.laid.few) depth (bindings_of bs) (bindings_of bs') p q r.proper i j e)

-- The arguments of two symbols stand in rows.
pub arguments_rows : {nodes sizes : List ℕ} → InPrefixForm nodes sizes → (s t : ℕ) → s < length nodes → t < length nodes → get_or nodes s 0 < first_variable → get_or nodes t 0 < first_variable
    → HasRows nodes sizes (arguments_at sizes s) (arguments_at sizes t)
arguments_rows {nodes} {sizes} laid s t i j h k =
    record {
      left_starts = arguments_of sizes s;
      right_starts = arguments_of sizes t;
      left_row = arguments_there laid s i h;
      right_row = arguments_there laid t j k;
      left_within = laid.ends_within s i;
      right_within = laid.ends_within t j;
    }

-- A variable that is reached has a slot, and it is free.
pub reached_free_at : {nodes sizes bs : List ℕ} → Readable nodes sizes bs → (p s : ℕ) → s ≡ reach enough (view_of nodes sizes) (bindings_of bs) p → s < length nodes → FreeAt nodes sizes bs s
reached_free_at r p s e i = record { within = i; free = λ v d. reached_unbound r p s v e d }

pub free_variable : {nodes sizes bs : List ℕ} → Readable nodes sizes bs → (s v : ℕ) → FreeAt nodes sizes bs s → first_variable ≤ get_or nodes s 0 → v ≡ get_or nodes s 0 - first_variable
    → (v < variable_count) × (lookup (bindings_of bs) v ≡ none)
free_variable {nodes} {sizes} {bs} r s v a h x =
    let d = variable_there nodes sizes s v a.within h x in
    ((form_layout r.laid).variable_low s v d, a.free v d)

pub variable_free : {nodes sizes bs : List ℕ} → Readable nodes sizes bs → (p s v : ℕ) → s ≡ reach enough (view_of nodes sizes) (bindings_of bs) p → s < length nodes
    → first_variable ≤ get_or nodes s 0 → v ≡ get_or nodes s 0 - first_variable → (v < variable_count) × (lookup (bindings_of bs) v ≡ none)
variable_free r p s v e i h x = free_variable r s v (reached_free_at r p s e i) h x

pub variable_slot : {nodes sizes bs : List ℕ} → Readable nodes sizes bs → (s v : ℕ) → s < length nodes → first_variable ≤ get_or nodes s 0 → v ≡ get_or nodes s 0 - first_variable → v < length bs
variable_slot {nodes} {sizes} {bs} r s v i h x = omega (arith, (form_layout r.laid).variable_low s v (variable_there nodes sizes s v i h x), r.proper.slots, length_bindings bs)

pub one_less : (d : ℕ) → (d ≡ 0 → ⊥) → d ≡ suc (d - 1)
one_less zero h = absurd (h refl)
one_less (suc d) h = omega arith

-- What an answer tells.
pub not_failed : {A : Type 0} → true ≡ false → A
not_failed e = cc

pub not_unified : {A : Type 0} → false ≡ true → A
not_unified e = cc

pub some_told : {r : Answer ⊤} {u : ⊤} → r ≡ Some u → IsSome r
some_told e = rw e

pub none_told : {r : Answer ⊤} → r ≡ None → IsNone r
none_told e = rw e

pub answered_unified : {o : Option Bindings} (r : Answer ⊤) (θ : Bindings) → o ≡ answered r θ → IsSome r → o ≡ some θ
unfolding answered
answered_unified (Some u) θ e x = e
answered_unified None θ e x = not_unified x

pub answered_failed : {o : Option Bindings} (r : Answer ⊤) (θ : Bindings) → o ≡ answered r θ → IsNone r → o ≡ none
unfolding answered
answered_failed (Some u) θ e x = not_failed x
answered_failed None θ e x = e

-- What the definition tells, told by the code.
pub told : {nodes sizes bs : List ℕ} (θ' : Bindings) → Readable nodes sizes bs → (p q depth : ℕ) → p < length nodes → q < length nodes → (r : Answer ⊤)
    → unify enough (view_of nodes sizes) depth (bindings_of bs) p q ≡ answered r θ' → UnifiesTo nodes sizes depth (bindings_of bs) p q r θ'
told {nodes} {sizes} {bs} θ' read p q depth i j r e = record {
  found = λ z. unify_gives (form_layout read.laid) (enough_suffices read.laid.few) depth (bindings_of bs) θ' p q read.proper i j (answered_unified r θ' e z);
  none_found = λ z. answered_failed r θ' e z;
}

-- The cases of the code, with the answer of what it calls.
module _ {nodes sizes bs : List ℕ} (read : Readable nodes sizes bs) (p q s t depth : ℕ)
    (at_p : s ≡ reach enough (view_of nodes sizes) (bindings_of bs) p) (at_q : t ≡ reach enough (view_of nodes sizes) (bindings_of bs) q) (some_depth : depth ≡ 0 → ⊥) where
  unify_by_nodes : unify enough (view_of nodes sizes) depth (bindings_of bs) p q
      ≡ unify_nodes enough (view_of nodes sizes) (unify enough (view_of nodes sizes) (depth - 1)) (bindings_of bs) s t (view_of nodes sizes s) (view_of nodes sizes t)
  unfolding unify
  unify_by_nodes = ap (λ d. unify enough (view_of nodes sizes) d (bindings_of bs) p q) (one_less depth some_depth) ∙ rw (sym at_p, sym at_q)

  pub terms_bind : (θ' : Bindings) (r : Answer ⊤) → p < length nodes → q < length nodes → BindsTo nodes sizes (bindings_of bs) s t r θ'
      → UnifiesTo nodes sizes depth (bindings_of bs) p q r θ'
  terms_bind θ' r i j b = told θ' read p q depth i j r (unify_by_nodes ∙ b.tells (unify enough (view_of nodes sizes) (depth - 1)))

  pub terms_symbols : (θ' : Bindings) (r : Answer ⊤) → s < length nodes → t < length nodes → get_or nodes s 0 < first_variable → get_or nodes t 0 < first_variable
      → UnifiesSymbols nodes sizes (depth - 1) (bindings_of bs) s t r θ' → UnifiesTo nodes sizes depth (bindings_of bs) p q r θ'
  terms_symbols θ' r i j h k u =
      let lay = form_layout read.laid in
      let suf = enough_suffices read.laid.few in
      record {
        found = λ z.
            let (e, each) = u.found z in
            let vt : view_of nodes sizes t ≡ app_node (get_or nodes s 0) (arguments_of sizes t) = rw e (symbol_there nodes sizes t j k) in
            symbols (subst (Reaches (view_of nodes sizes) (bindings_of bs) p) (sym at_p) (reach_reaches lay suf read.proper p))
            (subst (Reaches (view_of nodes sizes) (bindings_of bs) q) (sym at_q) (reach_reaches lay suf read.proper q)) (symbol_there nodes sizes s i h) vt each;
        none_found = λ z. unify_by_nodes ∙ u.none_found z;
      }

-- Two terms that are no variables.
module _ {nodes sizes : List ℕ} {depth : ℕ} {θ : Bindings} (laid : InPrefixForm nodes sizes) (s t : ℕ)
    (i : s < length nodes) (j : t < length nodes) (h : get_or nodes s 0 < first_variable) (k : get_or nodes t 0 < first_variable) where
  pub symbols_differ : (θ' : Bindings) → (get_or nodes s 0 ≡ get_or nodes t 0 → ⊥) → UnifiesSymbols nodes sizes depth θ s t None θ'
  symbols_differ θ' n = record { found = λ z. not_unified z; none_found = λ z. nodes_other nodes sizes θ s t i j (unify enough (view_of nodes sizes) depth) h k n }

  pub symbols_same : {θ' : Bindings} {r : Answer ⊤} → get_or nodes s 0 ≡ get_or nodes t 0 → UnifiesRows nodes sizes depth θ (arguments_at sizes s) (arguments_at sizes t) r θ'
      → UnifiesSymbols nodes sizes depth θ s t r θ'
  symbols_same e u =
      let left = arguments_there laid s i h in
      let right = arguments_there laid t j k in
      record {
        found = λ z. (e, u.found (arguments_of sizes s) (arguments_of sizes t) left right z);
        none_found = λ z. nodes_symbols nodes sizes θ s t i j (unify enough (view_of nodes sizes) depth) h k e ∙ u.none_found (arguments_of sizes s) (arguments_of sizes t) left right z;
      }

pub terms_none : (nodes sizes bs : List ℕ) (θ : Bindings) (p q depth : ℕ) → depth ≡ 0 → unify enough (view_of nodes sizes) depth (bindings_of bs) p q ≡ answered None θ
unfolding answered unify
terms_none nodes sizes bs θ p q depth e = rw e

-- What the definition finds at some depth is what there is.
found_same : {nodes sizes bs : List ℕ} → Readable nodes sizes bs → (p q depth : ℕ) → p < length nodes → q < length nodes → {θ' η : Bindings}
    → Unification (view_of nodes sizes) (bindings_of bs) p q θ' → unify enough (view_of nodes sizes) depth (bindings_of bs) p q ≡ some η → η ≡ θ'
found_same {nodes} {sizes} {bs} r p q depth i j {θ'} {η} u e =
    let lay = form_layout r.laid in
    let suf = enough_suffices r.laid.few in
    let x = unify_found lay suf r.proper i j u in
    let y = unify_found lay suf r.proper i j (unify_gives lay suf depth (bindings_of bs) η p q r.proper i j e) in
    let z : ◌≡◌ {A = Option Bindings} (some η) (some θ') = sym y ∙ x in
    cc

each_none : {nodes sizes bs : List ℕ} {θ θ' : Bindings} {k l : ℕ} (depth : ℕ) → Readable nodes sizes bs → θ ≡ bindings_of bs → k < length nodes → l < length nodes
    → Unification (view_of nodes sizes) θ k l θ' → (xs ys : List ℕ) → unify_each (unify enough (view_of nodes sizes) depth) θ' xs ys ≡ none
    → unify_each (unify enough (view_of nodes sizes) depth) θ (k ∷ xs) (l ∷ ys) ≡ none
unfolding unify_each
each_none {nodes = nodes} {sizes = sizes} {bs = bs} {θ = θ} {θ' = θ'} {k = k} {l = l} depth r is i j u xs ys x = go (unify enough (view_of nodes sizes) depth θ k l) refl
  where
    go : (o : Option Bindings) → unify enough (view_of nodes sizes) depth θ k l ≡ o
        → ◌≡◌ {A = Option Bindings} (elim o [ none ↦ none | some η ↦ unify_each (unify enough (view_of nodes sizes) depth) η xs ys ]) none
    go none e = refl
    go (some η) e =
        let d : η ≡ θ' = found_same r k l depth i j (subst (λ a. Unification (view_of nodes sizes) a k l θ') is u) (ap (λ a. unify enough (view_of nodes sizes) depth a k l) (sym is) ∙ e) in
        rw d x

-- A term and itself: nothing is bound.
module _ {nodes sizes bs : List ℕ} (read : Readable nodes sizes bs) where
  pub at_reached : (p : ℕ) → Reaches (view_of nodes sizes) (bindings_of bs) p (reach enough (view_of nodes sizes) (bindings_of bs) p)
  at_reached p = reach_reaches (form_layout read.laid) (enough_suffices read.laid.few) read.proper p

  each_self : (ps : List ℕ) → ((c : ℕ) → In c ps → Unification (view_of nodes sizes) (bindings_of bs) c c (bindings_of bs)) → EachUnified (view_of nodes sizes) (bindings_of bs) ps ps (bindings_of bs)
  each_self [] h = no_more refl
  each_self (p ∷ ps) h = one_more (h p head) (each_self ps (λ c i. h c (tail i)))

  self_unified : (b p : ℕ) → rank (length nodes) read.proper.height p < b → (x : Node) → view_of nodes sizes (reach enough (view_of nodes sizes) (bindings_of bs) p) ≡ x
      → Unification (view_of nodes sizes) (bindings_of bs) p p (bindings_of bs)
  self_unified zero p l x e = absurd (omega arith)
  self_unified (suc b) p l (var_node v) e = equal_variables (at_reached p) (at_reached p) e e refl
  self_unified (suc b) p l (app_node f ps) e =
      symbols (at_reached p) (at_reached p) e e
      (each_self ps (λ c i. self_unified b c (omega (arith, rank_down read.proper.falls (form_layout read.laid) f c ps (at_reached p) e i)) (view_of nodes sizes (reach enough (view_of nodes sizes) (bindings_of bs) c)) refl))

  pub same_unified : (p q r : ℕ) → Reaches (view_of nodes sizes) (bindings_of bs) p r → Reaches (view_of nodes sizes) (bindings_of bs) q r → (x : Node) → view_of nodes sizes r ≡ x
      → Unification (view_of nodes sizes) (bindings_of bs) p q (bindings_of bs)
  same_unified p q r a b (var_node v) e = equal_variables a b e e refl
  same_unified p q r a b (app_node f ps) e = symbols a b e e (each_self ps (λ c i. self_unified (suc (length nodes)) c (omega (arith, rank_le (length nodes) read.proper.height c)) (view_of nodes sizes (reach enough (view_of nodes sizes) (bindings_of bs) c)) refl))

  pub same_reached : (p q s t depth : ℕ) → s ≡ reach enough (view_of nodes sizes) (bindings_of bs) p → t ≡ reach enough (view_of nodes sizes) (bindings_of bs) q → s ≡ t
      → UnifiesTo nodes sizes depth (bindings_of bs) p q (Some tt) (bindings_of bs)
  same_reached p q s t depth x y e = record {
    found = λ z. same_unified p q (reach enough (view_of nodes sizes) (bindings_of bs) p) (at_reached p)
        (subst (λ r. Reaches (view_of nodes sizes) (bindings_of bs) q r) (sym y ∙ (sym e ∙ x)) (at_reached q)) (view_of nodes sizes (reach enough (view_of nodes sizes) (bindings_of bs) p)) refl;
    none_found = λ z. not_failed z;
  }

pub told_enough : {nodes sizes bs : List ℕ} (θ' : Bindings) → Readable nodes sizes bs → (p q : ℕ) → p < length nodes → q < length nodes → (r : Answer ⊤)
    → UnifiesTo nodes sizes enough.unify_depth (bindings_of bs) p q r θ' → unify enough (view_of nodes sizes) enough.unify_depth (bindings_of bs) p q ≡ answered r θ'
unfolding answered
told_enough θ' read p q i j (Some z) u = unify_found (form_layout read.laid) (enough_suffices read.laid.few) read.proper i j (u.found refl)
told_enough θ' read p q i j None u = u.none_found refl

-- 4. Rows.
module _ {nodes sizes : List ℕ} {depth : ℕ} {θ : Bindings} {left right : Arguments} where
  pub rows_end : left.end ≤ left.from → right.end ≤ right.from → UnifiesRows nodes sizes depth θ left right (Some tt) θ
  rows_end h i = record { found = λ ps qs a b x. rw (row_empty a h, row_empty b i) (no_more refl); none_found = λ ps qs a b x. not_failed x }

  pub rows_left : (θ' : Bindings) → left.from < left.end → right.end ≤ right.from → UnifiesRows nodes sizes depth θ left right None θ'
  unfolding unify_each
  rows_left θ' h i = record { found = λ ps qs a b x. not_unified x; none_found = λ ps qs a b x. let (xs, e, c) = row_next a h in rw (e, row_empty b i, unify_each) }

  pub rows_right : (θ' : Bindings) → left.end ≤ left.from → right.from < right.end → UnifiesRows nodes sizes depth θ left right None θ'
  unfolding unify_each
  rows_right θ' h i = record { found = λ ps qs a b x. not_unified x; none_found = λ ps qs a b x. let (ys, e, c) = row_next b i in rw (row_empty a h, e, unify_each) }

  pub rows_fail : (θ' θ'' : Bindings) (r : Answer ⊤) → left.from < left.end → right.from < right.end → UnifiesTo nodes sizes depth θ left.from right.from r θ' → IsNone r → UnifiesRows nodes sizes depth θ left right None θ''
  unfolding unify_each
  rows_fail θ' θ'' r h i u z = record {
    found = λ ps qs a b x. not_unified x;
    none_found = λ ps qs a b x. let (xs, d, c) = row_next a h in let (ys, e, w) = row_next b i in rw (d, e, u.none_found z, unify_each);
  }

  pub rows_more : {others opposite : Arguments} {bs : List ℕ} → Readable nodes sizes bs → θ ≡ bindings_of bs → left.from < length nodes → right.from < length nodes
      → (θ' θ'' : Bindings) (r answer : Answer ⊤) → left.from < left.end → right.from < right.end
      → UnifiesTo nodes sizes depth θ left.from right.from r θ' → IsSome r → others ≡ behind_first sizes left → opposite ≡ behind_first sizes right
      → UnifiesRows nodes sizes depth θ' others opposite answer θ''
      → UnifiesRows nodes sizes depth θ left right answer θ''
  rows_more read is i j θ' θ'' r answer h g u z y w rest = record {
    found = λ ps qs a b x.
        let (xs, d, c) = row_next a h in
        let (ys, e, f) = row_next b g in
        rw (d, e) (one_more (u.found z) ((rw (y, w) at rest).found xs ys c f x));
    none_found = λ ps qs a b x.
        let (xs, d, c) = row_next a h in
        let (ys, e, f) = row_next b g in
        rw (d, e) (first_then read is i j (u.found z) xs ys ((rw (y, w) at rest).none_found xs ys c f x));
  }
    where
      first_then : {bs : List ℕ} → Readable nodes sizes bs → θ ≡ bindings_of bs → left.from < length nodes → right.from < length nodes → Unification (view_of nodes sizes) θ left.from right.from θ' → (xs ys : List ℕ)
          → unify_each (unify enough (view_of nodes sizes) depth) θ' xs ys ≡ none → unify_each (unify enough (view_of nodes sizes) depth) θ (left.from ∷ xs) (right.from ∷ ys) ≡ none
      first_then read is i j v xs ys x = each_none depth read is i j v xs ys x

module _ {nodes sizes : List ℕ} {left right : Arguments} (h : HasRows nodes sizes left right) (i : left.from < left.end) (j : right.from < right.end) where
  -- The first terms stand within the rows, and the others behind them.
  pub rows_first : (left.from < length nodes) × (right.from < length nodes)
  rows_first = (omega (arith, h.left_within), omega (arith, h.right_within))

  pub rows_rest : HasRows nodes sizes (behind_first sizes left) (behind_first sizes right)
  rows_rest =
      let (xs, d, u) = row_next h.left_row i in
      let (ys, e, w) = row_next h.right_row j in
      record { left_starts = xs; right_starts = ys; left_row = u; right_row = w; left_within = h.left_within; right_within = h.right_within }

  pub rows_first_some : 0 < get_or sizes left.from 0
  rows_first_some = row_first_some h.left_row i
