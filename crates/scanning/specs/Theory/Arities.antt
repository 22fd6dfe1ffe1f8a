-- The arities that are known of a sheet stand first in their array.
use Rattle.std.specs.Prelude.{◌≡◌, ◌≤◌, length, take}
use Rattle.std.proofs.Common.{sym, length-take-le, arith}
use Rattle.format.specs.Limits.{max_symbols}
use Rattle.scanning.specs.declared.known.Known.{Known}
use Rattle.scanning.specs.ForContracts.Scan.{known_arities}
use Rattle.scanning.specs.ForContracts.Known.{Roomy}
use Rattle.scanning.specs.Theory.Listed.{length_listed, listed_taken}

module _ {known : Known} (roomy : Roomy known) (few : length (known_arities known) ≤ max_symbols) where
  pub symbols_room : known.symbols ≤ length known.arities
  symbols_room = omega (arith, few, length_listed known.symbols known.arities, roomy.arities_room)

  pub symbols_taken : known.symbols ≡ length (take known.symbols known.arities)
  symbols_taken = sym (length-take-le known.symbols known.arities symbols_room)

  pub arities_taken : known_arities known ≡ take known.symbols known.arities
  arities_taken = listed_taken known.symbols known.arities symbols_room
