-- What holds before each piece: the memory is as the next one needs it.
use Prim.Native.Nat.{ℕ}
use mathlib.Core.Path.{◌≡◌}
use mathlib.Core.List.{List}
use lib.ListN.{length}
use Rattle.format.specs.Limits.{table_bytes, scratch_bytes}
use Rattle.rules.specs.ForContracts.Rows.{row_bytes, bound_count}
use Rattle.cursor.specs.declared.place.Cursor.{Cursor}
use Rattle.cursor.specs.declared.place.Place.TheVariants.{End}
use Rattle.cursor.specs.ForContracts.Stands.{StandsAt}

-- The bytes that the program prints at once.
abbrev pub out_bytes : ℕ
out_bytes = 65536

pub record Printing (input equations lengths bounds table scratch out : List ℕ) (cursor : Cursor) : Type 0 where
  pub more : cursor.place ≡ End → ⊥
  pub stands : StandsAt input cursor.opened.known cursor.opened.fits equations lengths bounds table scratch cursor.place
  pub equations_room : length equations ≡ row_bytes
  pub lengths_room : length lengths ≡ row_bytes
  pub bounds_room : length bounds ≡ bound_count
  pub table_room : length table ≡ table_bytes
  pub scratch_room : length scratch ≡ scratch_bytes
  pub out_room : length out ≡ out_bytes
