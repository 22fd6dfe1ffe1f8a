-- What stands in the lent memory at a place.
use Rattle.std.specs.Prelude.{ℕ, ◌*◌, ◌≤◌, ◌<◌, ◌≡◌, Bool, List, length, take}
use Rattle.std.proofs.Math.Option.{some}
use Rattle.format.specs.Limits.{max_lines, max_steps, record_bytes}
use Rattle.format.specs.Lists.{entry}
use Rattle.terms.specs.Equation.{Equation}
use Rattle.terms.specs.declared.direction.Direction.{Direction}
use Rattle.sheet.specs.Sheet.{Sheet}
use Rattle.sheet.specs.Reading.{accepted, read}
use Rattle.scanning.specs.declared.known.Known.{Known}
use Rattle.scanning.specs.ForContracts.Scan.{known_arities}
use Rattle.scanning.specs.ForContracts.Known.{KnowsSheet}
use Rattle.solving.specs.Line.{Line, records}
use Rattle.solving.specs.Walk.{solved, solve}
use Rattle.reducing.specs.Test.{EverySolves}
use Rattle.reducing.specs.ForContracts.Rules.{rule_number}
use Rattle.rules.specs.ForContracts.Rows.{RowsAre, bound_count}
use Rattle.rules.specs.ForContracts.Walks.{LinesReady}
use Rattle.cursor.specs.declared.place.Place.{Place}
use Rattle.cursor.specs.declared.place.Cursor.{Cursor}
use Rattle.cursor.specs.declared.place.Listed.{Listed}
use Rattle.cursor.specs.declared.place.Place.TheVariants.{Start, Table, Line as LinePlace, Task, End}
use Rattle.cursor.specs.ForContracts.Rest.{Gives}

-- The sheet is accepted and every direction solves; its equations are in their rows, and the lines of all rules are kept where they fit the table together.
pub record Ready (input : List ℕ) (known : Known) (fits : Bool) (equations lengths bounds table : List ℕ) (s : Sheet) : Type 0 where
  pub reads : read input ≡ accepted s
  pub knows : KnowsSheet known s
  pub every : EverySolves s.equations
  pub rows : RowsAre equations lengths (known_arities known) s.equations
  pub bounds_length : length bounds ≡ bound_count
  pub lines : LinesReady fits bounds table s.equations

-- The records of a rule's lines stand first in scratch.
pub record LinesThere (es : List Equation) (rule lines : ℕ) (scratch : List ℕ) : Type 0 where
  pub low : rule < 2 * length es
  pub few : lines ≤ max_lines
  pub there : (i : ℕ) (e : Equation) (d : Direction) → entry es i ≡ some e → rule ≡ rule_number i d
      → (ls : List Line) × (turns : ℕ) × (solve e d ≡ solved ls turns) × (lines ≡ length ls) × (take (lines * record_bytes) scratch ≡ records ls)

abbrev pub AtPlace : Sheet → (scratch : List ℕ) → Place → Type 0
AtPlace s scratch Start = ⊥
AtPlace s scratch (Table rule) = rule ≤ 2 * length s.equations
AtPlace s scratch (LinePlace rule line lines) = LinesThere s.equations rule lines scratch × (line ≤ lines)
AtPlace s scratch (Task task steps) = (task ≤ length s.tasks) × (steps ≤ max_steps * task)
AtPlace s scratch End = Unit {0}

-- Nothing is known at the start, and nothing is needed at the end.
pub data StandsAt (input : List ℕ) (known : Known) (fits : Bool) (equations lengths bounds table scratch : List ℕ) : Place → Type 0 where
  at_start : StandsAt input known fits equations lengths bounds table scratch Start
  under_way : {place : Place} (s : Sheet) → Ready input known fits equations lengths bounds table s → AtPlace s scratch place → StandsAt input known fits equations lengths bounds table scratch place
  at_end : StandsAt input known fits equations lengths bounds table scratch End

-- A piece is given, and what the next one needs stands in the memory.
pub record Progress (input : List ℕ) (place : Place) (equations lengths bounds table scratch out : List ℕ) (r : Listed Cursor) : Type 0 where
  pub gives : Gives input place out r.bytes r.next.place
  pub stands : StandsAt input r.next.opened.known r.next.opened.fits equations lengths bounds table scratch r.next.place
