-- Nodes that are passed over because their symbols are smaller than a given one.
use Rattle.std.specs.Prelude.{ℕ, ◌≤◌, ◌<◌, List, get_or}

-- The symbols from node `from` to node `end`, the last one not among them, are smaller.
pub record AllSmaller (nodes : List ℕ) (symbol from end : ℕ) : Type 0 where
  pub each : (k : ℕ) → from ≤ k → k < end → get_or nodes k 0 < symbol

-- `r` lies from `from` to `end`, and the symbols before it are smaller.
pub record BehindSmaller (nodes : List ℕ) (symbol from end r : ℕ) : Type 0 where
  pub forward : from ≤ r
  pub inside : r ≤ end
  pub smaller_symbols : AllSmaller nodes symbol from r

-- `r` is the first node from `from` on whose symbol is not smaller, or `end`.
pub record FirstNotSmaller (nodes : List ℕ) (symbol from end r : ℕ) : Type 0 where
  pub behind : BehindSmaller nodes symbol from end r
  pub stops : r < end → symbol ≤ get_or nodes r 0
