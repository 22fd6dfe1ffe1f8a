-- What the code of solve cites: an equation's bytes.
use Rattle.std.specs.Prelude.{ℕ, ◌≤◌, ◌≡◌, List, length}
use Rattle.format.specs.Limits.{max_symbols}
use Rattle.terms.specs.Equation.{Equation, source_position, target_position}
use Rattle.terms.specs.declared.direction.Direction.{Direction}
use Rattle.terms.specs.Prefix.{equation_bytes}
use Rattle.terms.specs.ForContracts.Limits.{WithinLimits}
use Rattle.terms.specs.ForContracts.Fits.{Fits}
use Rattle.bindings.specs.ForContracts.Equation.{equation_sizes}
use Rattle.solve_equation.specs.declared.solve.Ends.{Ends}

module _ (bytes arities : List ℕ) where
  -- These are the bytes of this equation, which is over symbols with these arities and within the limits.
  pub record EquationIs (e : Equation) : Type 0 where
    pub spelled : bytes ≡ equation_bytes e
    pub limits : WithinLimits e
    pub left_fits : Fits arities e.left
    pub right_fits : Fits arities e.right
    pub few_symbols : length arities ≤ max_symbols

  pub record HasEquation : Type 0 where
    pub equation : Equation
    pub is : EquationIs equation

-- These are the bytes of this equation, and beside each the number of nodes of the term that starts there.
pub record SidesAre (nodes sizes : List ℕ) (e : Equation) : Type 0 where
  pub arities : List ℕ
  pub is : EquationIs nodes arities e
  pub measured : sizes ≡ equation_sizes e

pub record HasSides (nodes sizes : List ℕ) : Type 0 where
  pub equation : Equation
  pub are : SidesAre nodes sizes equation

-- The positions at which the sides of a direction start.
pub record EndsAre (e : Equation) (d : Direction) (ends : Ends) : Type 0 where
  pub source_is : ends.source ≡ source_position e d
  pub target_is : ends.target ≡ target_position e d
