-- What is known of the sheet as far as it is read: what the contracts of the reading code cite.
use Rattle.std.specs.Prelude.{◌≡◌, map, length}
use Rattle.format.specs.Limits.{max_symbols, max_equations}
use Rattle.scanning.specs.declared.known.Known.{Known}
use Rattle.sheet.specs.Sheet.{Sheet, equation_width}
use Rattle.scanning.specs.ForContracts.Scan.{listed, known_arities}
use Rattle.sheet.specs.ForContracts.Valid.{Valid}

-- There is room for each symbol's arity and each equation's width.
pub record Roomy (k : Known) : Type 0 where
  pub arities_room : length k.arities ≡ max_symbols
  pub widths_room : length k.widths ≡ max_equations

abbrev pub none_known : Known → Type 0
none_known k = (k.symbols ≡ 0) × (k.equations ≡ 0) × (k.tasks ≡ 0) × Roomy k

-- What is known of a sheet as far as it is read.
pub record KnowsSheet (k : Known) (s : Sheet) : Type 0 where
  pub arities_are : known_arities k ≡ s.arities
  pub equations_are : k.equations ≡ length s.equations
  pub widths_are : listed k.equations k.widths ≡ map equation_width s.equations
  pub tasks_are : k.tasks ≡ length s.tasks
  pub valid : Valid s
  pub roomy : Roomy k
