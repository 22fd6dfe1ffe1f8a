-- What the walk's code sees of a line's bindings: a byte for each variable.
use Rattle.std.specs.Prelude.{ℕ, true, false, List, map, length, ltb}
use Rattle.std.proofs.Math.Option.{Option, none, some}
use Rattle.format.specs.Limits.{variable_count, no_position}
use Rattle.solving.specs.Line.{Bindings}
use Rattle.solving.specs.ForContracts.Bindings.{Proper}
use Rattle.bindings.specs.ForContracts.PrefixForm.{view_of, InPrefixForm}

-- "12 binding positions" (document 02, W9), "(ff for none)"
unfoldable pub binding_of : ℕ → Option ℕ
binding_of b = elim (ltb b no_position) [ true ↦ some b | false ↦ none ]

unfoldable pub bindings_of : List ℕ → Bindings
unfolding binding_of
bindings_of bs = map binding_of bs

-- The equation's bytes are laid out, and the bindings are such as the walk makes: terms can be seen through them.
pub record Readable (nodes sizes bindings : List ℕ) : Type 0 where
  pub laid : InPrefixForm nodes sizes
  pub proper : Proper (view_of nodes sizes) variable_count (length nodes) (bindings_of bindings)
