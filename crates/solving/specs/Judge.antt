-- Whether a line holds, and the first that does (document 01, 'The walk that solves s > t' and 'Calls and lent memory').
use Prim.Native.Nat.{ℕ, zero, suc}
use Rattle.std.proofs.Math.Option.{none, some}
use mathlib.Core.List.{List, [], ◌∷◌}
use Rattle.terms.specs.Term.{Term, Values, identical?}
use Rattle.ordering.specs.Theory.Decide.{exceeds?}
use Rattle.solving.specs.Line.{Bindings, Element, equal, greater, Line, line}
use Rattle.solving.specs.Holds.{BindingsHold, ElementHolds, ElementsHold, LineHolds}

-- Both of two statements that are decided.
unfoldable pub both? : {A B : Type 0} → Dec A → Dec B → Dec (A × B)
both? (yes a) (yes b) = yes (a, b)
both? (yes a) (no m) = no (λ h. m h.1)
both? (no n) d = no (λ h. n h.0)

module _ (ρ : Values) (value : ℕ → Term) where
  unfoldable pub bindings_hold? : (v : ℕ) (θ : Bindings) → Dec (BindingsHold ρ value v θ)
  unfolding both? identical?
  bindings_hold? v [] = yes tt
  bindings_hold? v (none ∷ θ) = bindings_hold? (suc v) θ
  bindings_hold? v (some p ∷ θ) = both? (identical? (ρ v) (value p)) (bindings_hold? (suc v) θ)

  unfoldable pub element_holds? : (e : Element) → Dec (ElementHolds ρ value e)
  unfolding identical? exceeds?
  element_holds? (equal p q) = identical? (value p) (value q)
  element_holds? (greater p q) = exceeds? (value p) (value q)

  unfoldable pub elements_hold? : (es : List Element) → Dec (ElementsHold ρ value es)
  unfolding both? element_holds?
  elements_hold? [] = yes tt
  elements_hold? (e ∷ es) = both? (element_holds? e) (elements_hold? es)

  unfoldable pub line_holds? : (l : Line) → Dec (LineHolds ρ value l)
  unfolding both? bindings_hold? elements_hold?
  line_holds? (line θ es) = both? (bindings_hold? 0 θ) (elements_hold? es)

  -- "first holding line counted from 1 or 0"
  unfoldable pub first_holding : List Line → ℕ
  unfolding line_holds?
  first_holding [] = 0
  first_holding (l ∷ ls) = elim (line_holds? l) [ yes h ↦ 1 | no n ↦ elim (first_holding ls) [ zero ↦ 0 | suc i ↦ suc (suc i) ] ]
