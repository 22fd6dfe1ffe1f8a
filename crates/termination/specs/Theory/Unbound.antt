-- Unification binds nothing, or leaves fewer variables unbound.
use Rattle.std.specs.Prelude.{ℕ, zero, suc, ◌<◌, ◌≡◌, refl, ◌⊎◌, List, [], ◌∷◌, length}
use Rattle.std.proofs.Common.{ap, inl, inr, arith}
use Rattle.std.proofs.Math.Option.{none, some}
use Rattle.terms.specs.Position.{Node}
use Rattle.solving.specs.Line.{Bindings, lookup, bind}
use Rattle.solving.specs.ForContracts.Unified.{Bindable, Unified, EachUnified, equal_variables, bound_left, bound_right, symbols, no_more, one_more}

-- The number of unbound variables.
pub unbound_count : Bindings → ℕ
unbound_count [] = 0
unbound_count (none ∷ θ) = suc (unbound_count θ)
unbound_count (some p ∷ θ) = unbound_count θ

bind_count : (θ : Bindings) (v r : ℕ) → lookup θ v ≡ none → v < length θ → suc (unbound_count (bind θ v r)) ≡ unbound_count θ
unfolding unbound_count
bind_count [] v r e l = absurd (omega arith)
bind_count (none ∷ θ) zero r e l = refl
bind_count (some p ∷ θ) zero r e l = let z : ◌≡◌ {A = ℕ} 0 1 = cc in absurd (omega arith)
bind_count (none ∷ θ) (suc v) r e l = ap suc (bind_count θ v r e (omega arith))
bind_count (some p ∷ θ) (suc v) r e l = bind_count θ v r e (omega arith)

abbrev pub Narrows : Bindings → Bindings → Type 0
Narrows θ θ' = (θ' ≡ θ) ⊎ (unbound_count θ' < unbound_count θ)

narrows_then : {θ η θ' : Bindings} → Narrows θ η → Narrows η θ' → Narrows θ θ'
narrows_then (inl x) (inl y) = inl (cc)
narrows_then {θ} {η} {θ'} (inl x) (inr y) = let z : unbound_count η ≡ unbound_count θ = ap unbound_count x in inr (omega arith)
narrows_then {θ} {η} {θ'} (inr x) (inl y) = let z : unbound_count θ' ≡ unbound_count η = ap unbound_count y in inr (omega arith)
narrows_then (inr x) (inr y) = inr (omega arith)

bind_narrows : {view : ℕ → Node} (θ θ' : Bindings) (v s : ℕ) → Bindable view θ v s → θ' ≡ bind θ v s → Narrows θ θ'
bind_narrows θ θ' v s b e = let z : unbound_count θ' ≡ unbound_count (bind θ v s) = ap unbound_count e in inr (omega (arith, bind_count θ v s b.free b.slot))

mutual
  pub unified_narrows : {view : ℕ → Node} {θ θ' : Bindings} {p q : ℕ} → Unified view θ p q θ' → Narrows θ θ'
  unified_narrows (equal_variables a b x y e) = inl e
  unified_narrows (bound_left {θ = θ} {θ' = θ'} {s = s} {v = v} a b x h e) = bind_narrows θ θ' v s h e
  unified_narrows (bound_right {θ = θ} {θ' = θ'} {r = r} {w = w} a b x h e) = bind_narrows θ θ' w r h e
  unified_narrows (symbols a b x y us) = each_narrows us

  each_narrows : {view : ℕ → Node} {θ θ' : Bindings} {ps qs : List ℕ} → EachUnified view θ ps qs θ' → Narrows θ θ'
  each_narrows (no_more e) = inl e
  each_narrows (one_more u us) = narrows_then (unified_narrows u) (each_narrows us)
