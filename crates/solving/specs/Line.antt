-- Lines of a table (document 01, 'The walk that solves s > t').
use Rattle.std.specs.Prelude.{ℕ, ◌-◌, ◌*◌, List, [], ◌∷◌, ◌++◌, map, length, get_or, set, replicate}
use Rattle.std.proofs.Math.Option.{Option, none, some}
use Rattle.format.specs.Limits.{variable_count, max_elements, no_position}

-- "bindings (variable to position)": a slot for each variable.
abbrev pub Bindings : Type 0
Bindings = List (Option ℕ)

-- None of `vars` variables is bound.
abbrev pub unbound : (vars : ℕ) → Bindings
unbound vars = replicate vars none

unfoldable pub no_bindings : Bindings
no_bindings = unbound variable_count

abbrev pub lookup : Bindings → ℕ → Option ℕ
lookup θ v = get_or θ v none

abbrev pub bind : Bindings → ℕ → ℕ → Bindings
bind θ v p = set θ v (some p)

-- "An element is an equality or an inequality, each between two positions."
pub data Element : Type 0 where
  equal : ℕ → ℕ → Element
  greater : ℕ → ℕ → Element

-- "A line has bindings (variable to position) and up to 40 elements."
pub data Line : Type 0 where
  line : Bindings → List Element → Line

-- "records are 93 bytes with 12 binding positions" (document 02, W9), "(ff for none), element count, 40 pairs of positions (ff after the last)"
unfoldable pub binding_byte : Option ℕ → ℕ
binding_byte none = no_position
binding_byte (some p) = p

unfoldable pub element_bytes : List Element → List ℕ
element_bytes [] = []
element_bytes (equal p q ∷ es) = p ∷ q ∷ element_bytes es
element_bytes (greater p q ∷ es) = p ∷ q ∷ element_bytes es

unfoldable pub record_of : Line → List ℕ
unfolding binding_byte element_bytes
record_of (line θ es) = map binding_byte θ ++ length es ∷ element_bytes es ++ replicate (2 * (max_elements - length es)) no_position

-- "The table is written as records"
unfoldable pub records : List Line → List ℕ
unfolding record_of
records [] = []
records (l ∷ ls) = record_of l ++ records ls
