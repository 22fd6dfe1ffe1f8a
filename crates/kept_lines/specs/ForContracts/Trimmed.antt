-- Lines that are kept without the filler of their records.
use Rattle.std.specs.Prelude.{ℕ, ◌+◌, ◌≤◌, ◌<◌, ◌≡◌, List, [], ◌∷◌, ◌++◌, map, length, drop, Option, Some, None}
use Rattle.format.specs.Limits.{table_bytes}
use Rattle.terms.specs.ForContracts.Stored.{PartAt}
use Rattle.solving.specs.Line.{Line, line, binding_byte, element_bytes, records}
use Rattle.solving.specs.ForContracts.Written.{WrittenLines}
use Rattle.line_bytes.specs.ForContracts.Layout.{placed}

-- A line's record without "ff after the last".
unfoldable pub trimmed : Line → List ℕ
unfolding binding_byte element_bytes
trimmed (line θ es) = map binding_byte θ ++ length es ∷ element_bytes es

unfoldable pub trimmed_lines : List Line → List ℕ
unfolding trimmed
trimmed_lines [] = []
trimmed_lines (l ∷ ls) = trimmed l ++ trimmed_lines ls

-- The records of these lines stand first.
pub record RecordsAre (bytes : List ℕ) (lines : ℕ) (ls : List Line) : Type 0 where
  pub counted : lines ≡ length ls
  pub first : PartAt bytes 0 (records ls)
  pub positions : ℕ
  pub written : WrittenLines positions ls

pub record HasRecords (bytes : List ℕ) (lines : ℕ) : Type 0 where
  pub kept : List Line
  pub are : RecordsAre bytes lines kept

-- The lines are kept from `start` on; or the table has no room for them, and then only bytes of its stated length change.
abbrev pub KeptAs : (ls : List Line) (start : ℕ) (before after : List ℕ) → Option ℕ → Type 0
KeptAs ls start before after None = (table_bytes < start + length (trimmed_lines ls)) × (drop table_bytes after ≡ drop table_bytes before)
KeptAs ls start before after (Some end) = (end ≡ start + length (trimmed_lines ls)) × (end ≤ table_bytes) × (after ≡ placed start (trimmed_lines ls) before)
