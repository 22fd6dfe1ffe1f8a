-- The number of terms in a row.
use Rattle.std.specs.Prelude.{ℕ, ◌+◌, ◌≤◌, ◌≡◌, List, length}
use Rattle.bindings.specs.ForContracts.PrefixForm.{Row}

-- Terms stand in the row from `k` to `end`.
pub record HasRow (sizes : List ℕ) (k end : ℕ) : Type 0 where
  pub starts : List ℕ
  pub row : Row sizes k end starts
  pub within : end ≤ length sizes

-- There are `r` of them.
pub record CountsRow (sizes : List ℕ) (k end r : ℕ) : Type 0 where
  pub counts : (ps : List ℕ) → Row sizes k end ps → r ≡ length ps
  pub fits : r + k ≤ end
