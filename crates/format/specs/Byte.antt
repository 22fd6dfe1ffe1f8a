-- The classes of node bytes (document 01, 'The sheet').
use Rattle.std.specs.Prelude.{ℕ, ◌+◌, ◌-◌, Bool, ◌&&◌, leb, ltb}
use Rattle.std.proofs.Math.Bool.{true, false}
pub use Rattle.format.specs.declared.byte.Class.{Class}
pub use Rattle.format.specs.declared.byte.Class.TheVariants.{Symbol as symbol, Variable as variable, Foreign as foreign}
use Rattle.format.specs.Limits.{max_symbols, variable_count, first_variable}

-- With any number of variables, so that what twelve print can be compared with what eight printed (document 02, W9; crate `variables`).
module _ (variables : ℕ) where
  unfoldable pub is_variable_with : ℕ → Bool
  is_variable_with b = leb first_variable b && ltb b (first_variable + variables)

  -- "00 to 0f symbols", from 80 on the variables, "all else foreign". A variable is numbered from 0.
  unfoldable pub class_of_with : ℕ → Class
  unfolding is_variable_with
  class_of_with b = elim (ltb b max_symbols) [ true ↦ symbol b | false ↦ elim (is_variable_with b) [ true ↦ variable (b - first_variable) | false ↦ foreign ] ]

-- With the sheet's number of variables: "Variables are 80 to 8b" (document 02, W9).
unfoldable pub class_of : ℕ → Class
unfolding class_of_with
class_of = class_of_with variable_count
