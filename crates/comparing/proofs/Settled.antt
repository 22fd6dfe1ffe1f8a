-- The cells: a verdict that is read from its cell, and one that is put there.
use Prim.Native.Nat.{ℕ, ◌+◌, ◌*◌, ◌%◌, ◌≤◌, ◌<◌}
use mathlib.Core.Path.{◌≡◌, ap, ◌∙◌}
use mathlib.Core.List.{List}
use native.Mathlib.Omega.{arith}
use lib.ListN.{get_or, set}
use Rattle.format.specs.Limits.{position_count, node_count, row_cells}
use Rattle.terms.specs.Term.{Term}
use Rattle.ordering.specs.declared.verdict.Verdict.{Verdict}
use Rattle.ordering.specs.Theory.Verdict.{number_few}
use Rattle.ordering.specs.Verdict.{verdict, verdict_number}
use Rattle.cells.specs.ForContracts.Nodes.{TermAt, resolved}
use Rattle.cells.specs.ForContracts.Cells.{clause_unit, Settles, SettledCells, CellHolds}
use Rattle.comparing.specs.ForContracts.Comparing.{Compares}
use Rattle.cells.specs.Theory.Nodes.{term_unique}
use Rattle.cells.specs.Theory.Resolved.{resolved_node}
use Rattle.cells.specs.Theory.Cells.{cell_put, cell_settles}

-- The verdict alone.
verdict_settles : {r : Verdict} {s t : Term} → r ≡ verdict s t → Settles (verdict_number r + 1) s t
verdict_settles {r} {s} {t} e =
    let d : (verdict_number r + 1) % clause_unit ≡ verdict_number r + 1 = omega (arith, number_few r) in
    record { verdict_is = d ∙ ap (λ v. verdict_number v + 1) e; clause_is = λ h g. absurd (omega (arith, number_few r)) }

module _ {nodes sizes values ready cells : List ℕ} (x : SettledCells nodes sizes values ready cells) where
  pub cell_known : {i j : ℕ} {r : Verdict} → 0 < get_or ready i 0 → position_count ≤ j → 0 < get_or cells (i * row_cells + j) 0
      → CellHolds (get_or cells (i * row_cells + j) 0) r → Compares nodes sizes values i j r
  cell_known {i} {j} {r} o l h c = record { is = λ s t a b. c.only (verdict s t) (cell_settles x o l h a b).verdict_is }

  pub cell_set : {i j : ℕ} {r : Verdict} → i < node_count → j < node_count → Compares nodes sizes values i j r
      → SettledCells nodes sizes values ready (set cells (i * row_cells + j) (verdict_number r + 1))
  cell_set h k c = cell_put x h k (λ s t a b. verdict_settles (c.is s t a b))

-- The verdict of two nodes is that of the node that the first gives way to.
pub compares_resolved : {nodes sizes values : List ℕ} {i j : ℕ} {r : Verdict} → Compares nodes sizes values (resolved nodes values i) j r → Compares nodes sizes values i j r
compares_resolved c = record { is = λ s t a b. c.is s t (resolved_node a).denotes b }

-- A node stands for one term at most, so that one verdict is every verdict.
pub compares : {nodes sizes values : List ℕ} {i j : ℕ} {r : Verdict} {s t : Term} → TermAt nodes sizes values i s → TermAt nodes sizes values j t → r ≡ verdict s t
    → Compares nodes sizes values i j r
compares a b e = record { is = λ s t x y. rw (term_unique x a, term_unique y b) e }
