-- What the contracts of the unifier's code cite.
use Rattle.std.specs.Prelude.{ℕ, ◌≤◌, ◌<◌, ◌≡◌, List, length, get_or, IsSome, IsNone, ⊤}
use Rattle.std.specs.Prelude.{Option as Answer, Some, None}
use Rattle.std.proofs.Math.Option.{Option, none, some}
use Rattle.terms.specs.declared.arguments.Arguments.{Arguments}
use Rattle.terms.specs.Position.{var_node}
use Rattle.solving.specs.Line.{Bindings, lookup}
use Rattle.solving.specs.Walk.{enough, unify_each, unify_nodes, unify}
use Rattle.solving.specs.ForContracts.Unified.{Unified as Unification, EachUnified}
use Rattle.bindings.specs.ForContracts.PrefixForm.{view_of, arguments_of, Row}
use Rattle.bindings.specs.ForContracts.Bindings.{bindings_of}

-- The answer, with the bindings beside it, as the walk's definition has it.
unfoldable pub answered : Answer ⊤ → Bindings → Option Bindings
answered (Some u) θ = some θ
answered None θ = none

-- A position of the equation, and if a variable stands there, it is free.
pub record FreeAt (nodes sizes bindings : List ℕ) (s : ℕ) : Type 0 where
  pub within : s < length nodes
  pub free : (v : ℕ) → view_of nodes sizes s ≡ var_node v → lookup (bindings_of bindings) v ≡ none

-- Terms stand in both rows.
pub record HasRows (nodes sizes : List ℕ) (left right : Arguments) : Type 0 where
  pub left_starts : List ℕ
  pub right_starts : List ℕ
  pub left_row : Row sizes left.from left.end left_starts
  pub right_row : Row sizes right.from right.end right_starts
  pub left_within : left.end ≤ length nodes
  pub right_within : right.end ≤ length nodes

-- Two positions of which one is a variable: whatever unifies arguments, the definition comes to this.
pub record BindsTo (nodes sizes : List ℕ) (θ : Bindings) (s t : ℕ) (r : Answer ⊤) (θ' : Bindings) : Type 0 where
  pub tells : (each : Bindings → ℕ → ℕ → Option Bindings) → unify_nodes enough (view_of nodes sizes) each θ s t (view_of nodes sizes s) (view_of nodes sizes t) ≡ answered r θ'

-- What unification at most `depth` deep tells: the bindings that it comes to, or that the definition finds none so deep.
pub record UnifiesTo (nodes sizes : List ℕ) (depth : ℕ) (θ : Bindings) (p q : ℕ) (r : Answer ⊤) (θ' : Bindings) : Type 0 where
  pub found : IsSome r → Unification (view_of nodes sizes) θ p q θ'
  pub none_found : IsNone r → unify enough (view_of nodes sizes) depth θ p q ≡ none

-- The same of two terms that are no variables, whose arguments are unified at most `depth` deep.
pub record UnifiesSymbols (nodes sizes : List ℕ) (depth : ℕ) (θ : Bindings) (s t : ℕ) (r : Answer ⊤) (θ' : Bindings) : Type 0 where
  pub found : IsSome r → (get_or nodes s 0 ≡ get_or nodes t 0) × EachUnified (view_of nodes sizes) θ (arguments_of sizes s) (arguments_of sizes t) θ'
  pub none_found : IsNone r
      → unify_nodes enough (view_of nodes sizes) (unify enough (view_of nodes sizes) depth) θ s t (view_of nodes sizes s) (view_of nodes sizes t) ≡ none

-- "left argument first", the bindings handed on.
pub record UnifiesRows (nodes sizes : List ℕ) (depth : ℕ) (θ : Bindings) (left right : Arguments) (r : Answer ⊤) (θ' : Bindings) : Type 0 where
  pub found : (ps qs : List ℕ) → Row sizes left.from left.end ps → Row sizes right.from right.end qs → IsSome r → EachUnified (view_of nodes sizes) θ ps qs θ'
  pub none_found : (ps qs : List ℕ) → Row sizes left.from left.end ps → Row sizes right.from right.end qs → IsNone r
      → unify_each (unify enough (view_of nodes sizes) depth) θ ps qs ≡ none
