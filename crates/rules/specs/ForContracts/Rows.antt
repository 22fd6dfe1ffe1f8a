-- The equations of a sheet in rows, and the rules: each equation in each direction.
use Rattle.std.specs.Prelude.{ℕ, ◌+◌, ◌*◌, ◌≤◌, ◌<◌, ◌≡◌, List, length}
use Rattle.std.proofs.Math.Option.{some}
use Rattle.format.specs.Limits.{max_symbols, max_equations, max_side_nodes, position_count}
use Rattle.format.specs.Lists.{entry}
use Rattle.terms.specs.Term.{Term, size}
use Rattle.terms.specs.Equation.{Equation}
use Rattle.terms.specs.declared.direction.Direction.{Direction}
use Rattle.terms.specs.Prefix.{equation_bytes}
use Rattle.terms.specs.ForContracts.Limits.{WithinLimits}
use Rattle.terms.specs.ForContracts.Fits.{Fits}
use Rattle.terms.specs.ForContracts.Stored.{PartAt, StoredAt}
use Rattle.terms.specs.declared.arguments.Arguments.{Arguments}
use Rattle.bindings.specs.ForContracts.Equation.{equation_sizes}
use Rattle.reducing.specs.ForContracts.Rules.{rule_number}

-- A row has a byte for each position of an equation, and there is one for each equation.
abbrev pub row_bytes : ℕ
row_bytes = max_equations * position_count

module _ (equations lengths arities : List ℕ) where
  -- Equation `e`, over symbols with these arities and within the limits, is stored in row `i`.
  pub record RowIs (i : ℕ) (e : Equation) : Type 0 where
    pub few_symbols : length arities ≤ max_symbols
    pub limits : WithinLimits e
    pub left_fits : Fits arities e.left
    pub right_fits : Fits arities e.right
    pub inside : i < max_equations
    pub equations_length : length equations ≡ row_bytes
    pub lengths_length : length lengths ≡ row_bytes
    pub bytes : PartAt equations (i * position_count) (equation_bytes e)
    pub measured : PartAt lengths (i * position_count) (equation_sizes e)

  -- Row `i` has the equation number `i`.
  pub record RowsAre (es : List Equation) : Type 0 where
    pub few : length es ≤ max_equations
    pub row : (i : ℕ) (e : Equation) → entry es i ≡ some e → RowIs i e

  -- The rule with this number is equation `e`, which is in row `i`, in direction `d`.
  pub record RuleIs (rule i : ℕ) (e : Equation) (d : Direction) : Type 0 where
    pub row : RowIs i e
    pub number : rule ≡ rule_number i d

  -- A side of an equation, stored in its row.
  pub record SideIs (side : Arguments) (t : Term) : Type 0 where
    pub few_symbols : length arities ≤ max_symbols
    pub fits : Fits arities t
    pub small : size t ≤ max_side_nodes
    pub stored : StoredAt equations lengths side.from t
    pub ends : side.end ≡ side.from + size t

pub record HasRule (lengths : List ℕ) (rule : ℕ) : Type 0 where
  pub equations : List ℕ
  pub arities : List ℕ
  pub number : ℕ
  pub equation : Equation
  pub direction : Direction
  pub is : RuleIs equations lengths arities rule number equation direction

pub record HasRuleIn (equations lengths : List ℕ) (rule : ℕ) : Type 0 where
  pub arities : List ℕ
  pub number : ℕ
  pub equation : Equation
  pub direction : Direction
  pub is : RuleIs equations lengths arities rule number equation direction

-- The rows have the equations of a sheet, which are `count`.
pub record HasRows (equations lengths : List ℕ) (count : ℕ) : Type 0 where
  pub arities : List ℕ
  pub those : List Equation
  pub are : RowsAre equations lengths arities those
  pub counted : count ≡ length those

abbrev pub bound_count : ℕ
bound_count = 2 * max_equations + 1
