-- A line as its frame is printed from it: its record, and the bytes of its equation.
use Rattle.std.specs.Prelude.{ℕ, ◌<◌, ◌≡◌, List}
use Rattle.terms.specs.Equation.{Equation}
use Rattle.terms.specs.ForContracts.Limits.{positions}
use Rattle.solving.specs.Line.{Bindings, Element, line, record_of}
use Rattle.solving.specs.ForContracts.Written.{WrittenLine}
use Rattle.solve_equation.specs.ForContracts.Equation.{SidesAre}

-- A position of an equation that these are the bytes of.
pub record HasTerm (nodes sizes : List ℕ) (p : ℕ) : Type 0 where
  pub equation : Equation
  pub are : SidesAre nodes sizes equation
  pub inside : p < positions equation

module _ (bytes nodes sizes : List ℕ) where
  pub record LineRecord (e : Equation) (θ : Bindings) (es : List Element) : Type 0 where
    pub sides : SidesAre nodes sizes e
    pub written : WrittenLine (positions e) θ es
    pub is : bytes ≡ record_of (line θ es)

  pub record HasLineRecord : Type 0 where
    pub equation : Equation
    pub bindings : Bindings
    pub elements : List Element
    pub this : LineRecord equation bindings elements
