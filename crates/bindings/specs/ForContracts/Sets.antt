-- Sets of variables, each a number, and those that stand beside an equation's bytes.
use Rattle.std.specs.Prelude.{ℕ, ◌+◌, ◌/◌, ◌%◌, ◌^◌, ◌≤◌, ◌<◌, ◌≡◌, List, ◌⊎◌, length, get_or}
use Rattle.format.specs.Limits.{first_variable}

-- The variable `w` is in the set: bit `w` is 1.
pub record Has (set w : ℕ) : Type 0 where
  pub bit : set / 2 ^ w % 2 ≡ 1

-- The set has `w` alone.
pub record Singleton (w set : ℕ) : Type 0 where
  pub own : Has set w
  pub alone : (u : ℕ) → Has set u → u ≡ w

-- The set has what is in `a` or in `b`.
pub record Joined (a b set : ℕ) : Type 0 where
  pub left : (w : ℕ) → Has a w → Has set w
  pub right : (w : ℕ) → Has b w → Has set w
  pub either : (w : ℕ) → Has set w → Has a w ⊎ Has b w
  pub above : a ≤ set

-- What is in `part` is in `set`.
pub record Within (part set : ℕ) : Type 0 where
  pub each : (w : ℕ) → Has part w → Has set w

-- The variable `w` stands among the positions from `from` to `end`.
pub record OccursAmong (nodes : List ℕ) (from end w : ℕ) : Type 0 where
  pub position : ℕ
  pub behind : from ≤ position
  pub ahead : position < end
  pub byte : get_or nodes position 0 ≡ first_variable + w

-- The set has the variables that stand among the positions from `from` to `end`.
pub record SetOf (nodes : List ℕ) (from end set : ℕ) : Type 0 where
  pub stands : (w : ℕ) → Has set w → OccursAmong nodes from end w
  pub has : (w : ℕ) → OccursAmong nodes from end w → Has set w

-- Beside each node from `from` on stands the set of the variables of the term that starts there.
pub record VariablesFrom (nodes sizes variables : List ℕ) (from : ℕ) : Type 0 where
  pub same_length : length variables ≡ length nodes
  pub each : (p : ℕ) → from ≤ p → p < length nodes → SetOf nodes p (p + get_or sizes p 0) (get_or variables p 0)

abbrev pub HasVariables : (nodes sizes variables : List ℕ) → Type 0
HasVariables nodes sizes variables = VariablesFrom nodes sizes variables 0
