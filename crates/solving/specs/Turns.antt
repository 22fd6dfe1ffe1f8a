-- The tables that the walk comes to, turn by turn: what is said of a walk under way.
use Prim.Native.Nat.{ℕ, zero, suc}
use Rattle.std.proofs.Math.Option.{Option, none, some}
use Rattle.std.specs.Prelude.{List}
use Rattle.format.specs.declared.refusal.Refusal.{Refusal}
use Rattle.terms.specs.Position.{Node}
use Rattle.solving.specs.Line.{Line}
use Rattle.solving.specs.Walk.{Fuel, opening, turn}

-- `over` says what a new table earns. The number of turns is not limited here.
module _ (fuel : Fuel) (view : ℕ → Node) (over : List Line → Option Refusal) where
  -- A turn whose new table earns nothing.
  unfoldable pub turn_within : List Line → Option (List Line)
  unfolding turn
  turn_within table = elim (turn fuel view table) [ none ↦ none | some new ↦ elim (over new) [ some r ↦ none | none ↦ some new ] ]

  -- The table after `n` such turns of the walk that solves s > t. None: it does not come so far. Each line has `vars` slots for bindings.
  unfoldable pub table_after : (vars s t n : ℕ) → Option (List Line)
  unfolding turn_within opening
  table_after vars s t zero = some (opening vars s t)
  table_after vars s t (suc n) = elim (table_after vars s t n) [ none ↦ none | some table ↦ turn_within table ]
