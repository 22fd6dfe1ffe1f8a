-- A place of a sheet that is listed.
use Rattle.std.specs.Prelude.{ℕ, Bool, List}
use Rattle.sheet.specs.Sheet.{Sheet}
use Rattle.scanning.specs.declared.known.Known.{Known}
use Rattle.cursor.specs.declared.place.Place.{Place}
use Rattle.cursor.specs.ForContracts.Stands.{Ready, AtPlace}

pub record HasPlace (input : List ℕ) (known : Known) (fits : Bool) (equations lengths scratch : List ℕ) (place : Place) : Type 0 where
  pub bounds : List ℕ
  pub table : List ℕ
  pub content : Sheet
  pub ready : Ready input known fits equations lengths bounds table content
  pub at : AtPlace content scratch place
