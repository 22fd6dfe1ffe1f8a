-- When a line holds (document 01, 'The walk that solves s > t'). `ρ` gives the variables' values, `value p` is the instance of the term at `p`.
use Rattle.std.specs.Prelude.{ℕ, suc, ◌≡◌, ◌⊎◌, List, [], ◌∷◌}
use Rattle.std.proofs.Math.Option.{none, some}
use Rattle.terms.specs.Term.{Term, Values}
use Rattle.path_order.specs.Order.{◌≻◌}
use Rattle.solving.specs.Line.{Bindings, Element, equal, greater, Line, line}

module _ (ρ : Values) (value : ℕ → Term) where
  -- "each binding is an equality there, of identical terms": the slots of the variables from `v` upward.
  abbrev pub BindingsHold : ℕ → Bindings → Type 0
  BindingsHold v [] = Unit {0}
  BindingsHold v (none ∷ θ) = BindingsHold (suc v) θ
  BindingsHold v (some p ∷ θ) = (ρ v ≡ value p) × BindingsHold (suc v) θ

  -- "each inequality is true by L1 to L3"; a line that is not finished may have equalities too.
  abbrev pub ElementHolds : Element → Type 0
  ElementHolds (equal p q) = value p ≡ value q
  ElementHolds (greater p q) = value p ≻ value q

  abbrev pub ElementsHold : List Element → Type 0
  ElementsHold [] = Unit {0}
  ElementsHold (e ∷ es) = ElementHolds e × ElementsHold es

  -- "A line holds at ground values exactly if each binding is an equality there, of identical terms, and each inequality is true by L1 to L3."
  abbrev pub LineHolds : Line → Type 0
  LineHolds (line θ es) = BindingsHold 0 θ × ElementsHold es

  -- "No lines means never; a line without bindings or elements means always."
  abbrev pub SomeLineHolds : List Line → Type 0
  SomeLineHolds [] = ⊥
  SomeLineHolds (l ∷ ls) = LineHolds l ⊎ SomeLineHolds ls
