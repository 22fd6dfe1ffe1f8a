-- What stands in the lent memory at each place.
use Rattle.std.specs.Prelude.{ℕ, ◌≡◌, Bool, List}
use Rattle.std.proofs.Common.{sym, subst}
use Rattle.sheet.specs.Sheet.{Sheet}
use Rattle.scanning.specs.declared.known.Known.{Known}
use Rattle.cursor.specs.declared.place.Place.{Place}
use Rattle.cursor.specs.declared.place.Place.TheVariants.{Table, Line as LinePlace, Task as TaskPlace}
use Rattle.cursor.specs.declared.place.Cursor.{Cursor}
use Rattle.cursor.specs.declared.place.Listed.{Listed}
use Rattle.cursor.specs.ForContracts.Stands.{Ready, AtPlace, StandsAt, under_way, Progress}
use Rattle.places.specs.ForContracts.Step.{HasPlace}

module _ {input : List ℕ} {known : Known} {fits : Bool} {equations lengths bounds table scratch : List ℕ} where
  under_way_place : {place : Place} (s : Sheet) → Ready input known fits equations lengths bounds table s → AtPlace s scratch place → HasPlace input known fits equations lengths scratch place
  under_way_place s r a = record { bounds = bounds; table = table; content = s; ready = r; at = a }

  pub table_stands : {rule : ℕ} → StandsAt input known fits equations lengths bounds table scratch (Table rule) → HasPlace input known fits equations lengths scratch (Table rule)
  table_stands (under_way s r a) = under_way_place s r a

  pub line_stands : {rule line lines : ℕ} → StandsAt input known fits equations lengths bounds table scratch (LinePlace rule line lines) → HasPlace input known fits equations lengths scratch (LinePlace rule line lines)
  line_stands (under_way s r a) = under_way_place s r a

  pub task_stands : {task steps : ℕ} → StandsAt input known fits equations lengths bounds table scratch (TaskPlace task steps)
      → (s : Sheet) × Ready input known fits equations lengths bounds table s × AtPlace s scratch (TaskPlace task steps)
  task_stands (under_way s r a) = (s, r, a)

  module _ {scratch' out : List ℕ} {x : Listed Cursor} where
    pub from_the_table : {rule : ℕ} → StandsAt input known fits equations lengths bounds table scratch (Table rule)
        → ((bounds table : List ℕ) (s : Sheet) → Ready input known fits equations lengths bounds table s → AtPlace s scratch (Table rule) → Progress input (Table rule) equations lengths bounds table scratch' out x)
        → Progress input (Table rule) equations lengths bounds table scratch' out x
    from_the_table (under_way s r a) p = p bounds table s r a

    pub from_the_line : {rule line lines : ℕ} → StandsAt input known fits equations lengths bounds table scratch (LinePlace rule line lines)
        → ((bounds table : List ℕ) (s : Sheet) → Ready input known fits equations lengths bounds table s → AtPlace s scratch (LinePlace rule line lines)
        → Progress input (LinePlace rule line lines) equations lengths bounds table scratch' out x)
        → Progress input (LinePlace rule line lines) equations lengths bounds table scratch' out x
    from_the_line (under_way s r a) p = p bounds table s r a

pub at_place : {input : List ℕ} {place place' : Place} {equations lengths bounds table scratch out : List ℕ} {x : Listed Cursor} → place ≡ place' → Progress input place' equations lengths bounds table scratch out x
    → Progress input place equations lengths bounds table scratch out x
at_place {input} {equations = equations} {lengths} {bounds} {table} {scratch} {out} {x} e p = subst (λ q. Progress input q equations lengths bounds table scratch out x) (sym e) p

pub stands_at : {input : List ℕ} {known : Known} {fits : Bool} {equations lengths bounds table scratch : List ℕ} {place place' : Place} → place ≡ place' → StandsAt input known fits equations lengths bounds table scratch place
    → StandsAt input known fits equations lengths bounds table scratch place'
stands_at {input} {known} {fits} {equations} {lengths} {bounds} {table} {scratch} e p = subst (StandsAt input known fits equations lengths bounds table scratch) e p
