-- The cells of a comparison, with the verdicts that are settled. A row has the cells of the pairs with one first node.
-- Document 01, 'Ground comparison': "verdicts for all pairs among 224 nodes (64 and 160) are 50,176 cells". With the filling's node (document 02, W5) they are 225.
use Rattle.std.specs.Prelude.{ℕ, ◌+◌, ◌*◌, ◌/◌, ◌%◌, ◌≤◌, ◌<◌, ◌≡◌, ◌⊎◌, List, length, get_or}
use Rattle.format.specs.Limits.{position_count, node_count, row_cells, cell_count, first_variable, variable_count}
use Rattle.terms.specs.Term.{Term, Ground}
use Rattle.ordering.specs.declared.verdict.Verdict.{Verdict}
use Rattle.ordering.specs.Verdict.{verdict, verdict_number}
use Rattle.ordering.specs.Decision.{decision, clause_number_of}
use Rattle.cells.specs.ForContracts.Nodes.{TermAt}

-- Two ground terms over the same symbols. Of such terms one exceeds the other, or they are identical.
pub record BothGround (s t : Term) : Type 0 where
  pub arities : List ℕ
  pub first : Ground arities s
  pub second : Ground arities t

-- A settled cell holds the verdict, one more than its number, in its remainder by 4. Its quotient is 0, or the number of the clause that decided, where that was asked for.
abbrev pub clause_unit : ℕ
clause_unit = 4

pub record Settles (cell : ℕ) (s t : Term) : Type 0 where
  pub verdict_is : cell % clause_unit ≡ verdict_number (verdict s t) + 1
  pub clause_is : clause_unit ≤ cell → BothGround s t → cell / clause_unit ≡ clause_number_of (decision s t)

-- The verdict that a cell holds.
pub record CellHolds (cell : ℕ) (r : Verdict) : Type 0 where
  pub only : (v : Verdict) → cell % clause_unit ≡ verdict_number v + 1 → r ≡ v

-- A cell is 0 until the verdict of its two nodes is settled. That is so of the rows that are ready, and of the cells with a second node of the subject's.
-- No variable stands among the subject's nodes.
pub record SettledCells (nodes sizes values ready cells : List ℕ) : Type 0 where
  pub nodes_length : length nodes ≡ node_count
  pub sizes_length : length sizes ≡ node_count
  pub values_length : length values ≡ variable_count
  pub ready_length : length ready ≡ node_count
  pub cells_length : length cells ≡ cell_count
  pub symbols : (i : ℕ) → position_count ≤ i → get_or nodes i 0 < first_variable
  pub settled : (i j : ℕ) (s t : Term) → 0 < get_or ready i 0 → position_count ≤ j → TermAt nodes sizes values i s → TermAt nodes sizes values j t
      → (get_or cells (i * row_cells + j) 0 ≡ 0) ⊎ Settles (get_or cells (i * row_cells + j) 0) s t

-- The elements from `from` to `end` are 0, the others as before.
pub record Cleared (before : List ℕ) (from end : ℕ) (after : List ℕ) : Type 0 where
  pub same_length : length after ≡ length before
  pub inside : (k : ℕ) → from ≤ k → k < end → get_or after k 0 ≡ 0
  pub below : (k : ℕ) → k < from → get_or after k 0 ≡ get_or before k 0
  pub above : (k : ℕ) → end ≤ k → get_or after k 0 ≡ get_or before k 0

-- The row of `s` is ready; each cell of a row that is ready, with a second node of the subject's, is 0, or is as before in a row that was ready before.
pub record MadeReady (ready cells : List ℕ) (s : ℕ) (ready_after cells_after : List ℕ) : Type 0 where
  pub ready_length : length ready_after ≡ length ready
  pub cells_length : length cells_after ≡ length cells
  pub is_ready : 0 < get_or ready_after s 0
  pub kept : (i j : ℕ) → position_count ≤ j → j < node_count → 0 < get_or ready_after i 0
      → (get_or cells_after (i * row_cells + j) 0 ≡ 0) ⊎ ((0 < get_or ready i 0) × (get_or cells_after (i * row_cells + j) 0 ≡ get_or cells (i * row_cells + j) 0))
