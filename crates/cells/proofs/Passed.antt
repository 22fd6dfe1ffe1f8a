-- Nodes passed over one after the other.
use Prim.Native.Nat.{ℕ, ◌+◌, ◌≤◌}
use mathlib.Core.Path.{◌≡◌}
use mathlib.Core.Logic.{◌↔◌}
use mathlib.Core.Bool.{Bool, true, ◌&&◌}
use mathlib.Core.List.{List}
use native.Mathlib.Omega.{arith}
use lib.Dec.{ltb}
use lib.ListN.{get_or}
use borrow.Author.Tests.{ltb-true, lt-ltb}
use Rattle.format.specs.Theory.Lists.{and_true}
use Rattle.cells.specs.ForContracts.Passing.{AllSmaller}
use Rattle.cells.specs.Theory.Passed.{smaller_both, smaller_one}

both_true : {a b : Bool} → a ≡ true → b ≡ true → (a && b) ≡ true
both_true e d = cc

module _ {nodes : List ℕ} {symbol : ℕ} where
  -- One node more is tested.
  pub smaller_more : {from at : ℕ} {all : Bool} → from ≤ at → (all ≡ true) ↔ AllSmaller nodes symbol from at
      → ((all && ltb (get_or nodes at 0) symbol) ≡ true) ↔ AllSmaller nodes symbol from (at + 1)
  smaller_more {from} {at} {all} f (x, y) = (
    λ e. let (a, b) = and_true all (ltb (get_or nodes at 0) symbol) e in smaller_both (x a) (smaller_one (ltb-true (get_or nodes at 0) symbol b)),
    λ p. both_true (y (record { each = λ k h l. p.each k h (omega arith) })) (lt-ltb (get_or nodes at 0) symbol (p.each at f (omega arith))),
  )
