-- How a line rests in the memory of the walk: its record, and behind it the count of elements that are known to be fully reduced.
use Rattle.std.specs.Prelude.{ℕ, ◌+◌, List, ◌++◌, length, take, drop}
use Rattle.format.specs.Limits.{variable_count, record_bytes}

-- Where the number of elements stands, the first element, and the count of those known to be fully reduced.
abbrev pub count_place : ℕ
count_place = variable_count

abbrev pub first_element : ℕ
first_element = variable_count + 1

abbrev pub reduced_place : ℕ
reduced_place = record_bytes

abbrev pub line_bytes : ℕ
line_bytes = record_bytes + 1

-- The buffer with `part` from `at` on.
unfoldable pub placed : (at : ℕ) (part buffer : List ℕ) → List ℕ
placed at part buffer = take at buffer ++ (part ++ drop (at + length part) buffer)
