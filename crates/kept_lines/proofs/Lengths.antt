-- How many bytes a line has without filler: as many as its count of elements says.
use Prim.Native.Nat.{ℕ, ◌+◌, ◌*◌}
use mathlib.Core.List.{List}
use lib.ListN.{get_or}
use Rattle.line_bytes.specs.ForContracts.Layout.{count_place, first_element}

-- By the count that stands there.
abbrev pub counted_length : (bytes : List ℕ) (at : ℕ) → ℕ
counted_length bytes at = first_element + 2 * get_or bytes (at + count_place) 0
