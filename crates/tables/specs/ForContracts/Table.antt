-- A rule's table as it is printed.
use Rattle.std.specs.Prelude.{ℕ, suc, ◌-◌, ◌≤◌, ◌<◌, ◌≡◌, List, [], ◌∷◌, length, take, drop}
use Rattle.terms.specs.Equation.{Equation}
use Rattle.rules.specs.ForContracts.Rows.{RowsAre}
use Rattle.listing.specs.Listing.{printed}
use Rattle.listing.specs.ForContracts.Appended.{Appended}
use Rattle.cursor.specs.declared.place.Place.{Place}
use Rattle.cursor.specs.declared.place.Listed.{Listed}
use Rattle.cursor.specs.declared.place.Place.TheVariants.{Line}
use Rattle.cursor.specs.ForContracts.Rest.{rule_frames}
use Rattle.cursor.specs.ForContracts.Stands.{LinesThere}

-- The first frame of the rule's table is printed, and its lines come next.
pub record TableGiven (es : List Equation) (rule : ℕ) (scratch before after : List ℕ) (p : Listed Place) : Type 0 where
  pub lines : ℕ
  pub next : p.next ≡ Line rule 0 lines
  pub records_there : LinesThere es rule lines scratch
  pub first : List ℕ
  pub others : List (List ℕ)
  pub frames_are : rule_frames 0 es rule ≡ first ∷ others
  pub appended : Appended before 0 (printed (first ∷ [])) after p.bytes
  pub within : p.bytes ≤ length after

-- Line `line` of a rule whose records stand first in scratch.
pub record HasLine (equations lengths : List ℕ) (rule line : ℕ) (scratch : List ℕ) : Type 0 where
  pub arities : List ℕ
  pub those : List Equation
  pub lines : ℕ
  pub rows : RowsAre equations lengths arities those
  pub records_there : LinesThere those rule lines scratch
  pub low : line < lines

-- The lines of a rule whose records stand first in scratch.
pub record HasLines (equations lengths : List ℕ) (rule lines : ℕ) (scratch : List ℕ) : Type 0 where
  pub arities : List ℕ
  pub those : List Equation
  pub rows : RowsAre equations lengths arities those
  pub records_there : LinesThere those rule lines scratch

-- The frames of the lines from `first` to the next one are printed: the first frame of a table stands before its lines.
pub record LinesGiven (es : List Equation) (rule first lines : ℕ) (before after : List ℕ) (r : Listed ℕ) : Type 0 where
  pub some : first < r.next
  pub not_more : r.next ≤ lines
  pub appended : Appended before 0 (printed (take (r.next - first) (drop (suc first) (rule_frames 0 es rule)))) after r.bytes
  pub within : r.bytes ≤ length after
