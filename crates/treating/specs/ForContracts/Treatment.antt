-- What the code finds that an element asks for.
use Rattle.std.specs.Prelude.{ℕ, ◌<◌, ◌≡◌, List, [], ◌∷◌, length, get_or}
use Rattle.format.specs.Limits.{first_variable}
use Rattle.solving.specs.Line.{Element, equal, greater, line}
use Rattle.solving.specs.Walk.{enough, reach, fully_reduced, becomes, treat}
use Rattle.treating.specs.declared.treat.Sides.{Sides}
use Rattle.treating.specs.declared.treat.Treatment.{Treatment}
use Rattle.treating.specs.declared.treat.Treatment.TheVariants.{Reduced, DropLine, DropElement, Unify, Split}
use Rattle.bindings.specs.ForContracts.PrefixForm.{view_of}
use Rattle.bindings.specs.ForContracts.Bindings.{bindings_of}

-- "both non-variables": the positions of the element l > r, and those of the terms reached.
pub record BothSymbols (nodes sizes bindings : List ℕ) (e : Element) (sides terms : Sides) : Type 0 where
  pub element : e ≡ greater sides.left sides.right
  pub left_reached : terms.left ≡ reach enough (view_of nodes sizes) (bindings_of bindings) sides.left
  pub right_reached : terms.right ≡ reach enough (view_of nodes sizes) (bindings_of bindings) sides.right
  pub left_within : terms.left < length nodes
  pub right_within : terms.right < length nodes
  pub left_symbol : get_or nodes terms.left 0 < first_variable
  pub right_symbol : get_or nodes terms.right 0 < first_variable

module _ (nodes sizes bindings : List ℕ) (e : Element) where
  abbrev pub AsksFor : Treatment → Type 0
  AsksFor Reduced = treat enough (view_of nodes sizes) (bindings_of bindings) e ≡ fully_reduced
  -- "delete the line"
  AsksFor DropLine = treat enough (view_of nodes sizes) (bindings_of bindings) e ≡ becomes []
  -- "delete the element"
  AsksFor DropElement = treat enough (view_of nodes sizes) (bindings_of bindings) e ≡ becomes (line (bindings_of bindings) [] ∷ [])
  -- "Equality: unify"
  AsksFor (Unify sides) = e ≡ equal sides.left sides.right
  AsksFor (Split sides terms) = BothSymbols nodes sizes bindings e sides terms

  pub record Treated (r : Treatment) : Type 0 where
    pub asks : AsksFor r
