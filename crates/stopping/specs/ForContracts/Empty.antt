-- Lines without binding and element in the memory of the walk.
use Rattle.std.specs.Prelude.{ℕ, ◌+◌, ◌-◌, ◌*◌, ◌≡◌, Bool, List, map, length, take, drop}
use Rattle.std.proofs.Math.Seq.{slice}
use Rattle.format.specs.Limits.{variable_count}
use Rattle.format.specs.Lists.{any}
use Rattle.solving.specs.Always.{is_empty}
use Rattle.line_bytes.specs.ForContracts.Resting.{RestingLine, line_of, resting_bytes}
use Rattle.line_bytes.specs.ForContracts.Layout.{line_bytes}
use Rattle.line_bytes.specs.ForContracts.Room.{lines_bytes}
use Rattle.walking.specs.ForContracts.Walking.{AllWellFormed}

-- Whether the line that rests at `place` is empty.
pub record EmptyAt (memory : List ℕ) (place : ℕ) (r : Bool) : Type 0 where
  pub tells : (l : RestingLine) → length l.bindings ≡ variable_count → slice place (place + line_bytes) memory ≡ resting_bytes l → is_empty (line_of l) ≡ r

-- Whether one of the lines that rest from place `first` on, before place `end`, is empty.
pub record AnyEmpty (memory : List ℕ) (first end : ℕ) (r : Bool) : Type 0 where
  pub tells : (nodes sizes : List ℕ) (ls : List RestingLine) → AllWellFormed nodes sizes ls → drop (first * line_bytes) memory ≡ lines_bytes ls
      → any is_empty (map line_of (take (end - first) ls)) ≡ r
