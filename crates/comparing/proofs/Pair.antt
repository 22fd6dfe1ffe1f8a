-- Two nodes to compare, and the nodes of symbols that they give way to: their places, their arguments, their weights.
use Prim.Native.Nat.{ℕ, ◌+◌, ◌*◌, ◌≤◌, ◌<◌}
use mathlib.Core.Path.{◌≡◌, ap, ◌∙◌}
use mathlib.Core.List.{List}
use native.Mathlib.Omega.{arith}
use lib.ListN.{get_or, set}
use Rattle.format.specs.Limits.{position_count, row_cells}
use Rattle.terms.specs.Term.{app, nil}
use Rattle.terms.specs.ForContracts.Arguments.{arguments_at}
use Rattle.terms.specs.Theory.Append.{append}
use Rattle.ordering.specs.declared.verdict.Verdict.{Verdict}
use Rattle.ordering.specs.Verdict.{verdict_number}
use Rattle.cells.specs.ForContracts.Cells.{SettledCells, CellHolds}
use Rattle.comparing.specs.ForContracts.Comparing.{Compares}
use Rattle.comparing.proofs.Arguments.{ComparingArguments}
use Rattle.comparing.proofs.Settled.{cell_known, cell_set, compares_resolved}
use Rattle.comparing.specs.Theory.Resolves.{Resolves}

module _ {nodes sizes values : List ℕ} {i j : ℕ} (x : Resolves nodes sizes values i i) (y : Resolves nodes sizes values j j) where
  -- Two symbols that are the same, before their first arguments.
  pub comparing_start : {ready cells : List ℕ} → SettledCells nodes sizes values ready cells → position_count ≤ j → get_or nodes j 0 ≡ get_or nodes i 0
      → ComparingArguments nodes sizes values i j ready cells (arguments_at sizes i) (arguments_at sizes j)
  unfolding append
  comparing_start m l e =
      let d : y.here.term ≡ app (get_or nodes i 0) y.arguments.terms = y.term_is ∙ ap (λ f. app f y.arguments.terms) e in
      record {
        settled = m;
        lists = record {
          symbol = get_or nodes i 0;
          same = nil;
          left = x.arguments.terms;
          right = y.arguments.terms;
          left_term = rw x.term_is at x.here.denotes;
          left_row = x.arguments.denote;
          right_term = rw d at y.here.denotes;
          right_row = y.arguments.denote;
        };
        low = omega arith;
      }

module _ {nodes sizes values : List ℕ} {i j a : ℕ} (x : Resolves nodes sizes values i a) where
  -- The verdict of the node that `i` gives way to, with the cells as they are.
  pub told : {ready cells : List ℕ} {r : Verdict} → SettledCells nodes sizes values ready cells → Compares nodes sizes values a j r
      → Compares nodes sizes values i j r × SettledCells nodes sizes values ready cells
  told m c = (compares_resolved (rw (← x.is) c), m)

module _ {nodes sizes values : List ℕ} {i j a : ℕ} (x : Resolves nodes sizes values i a) (y : Resolves nodes sizes values j j) {r : Verdict} where
  -- The verdict of the two nodes, with the cells in which it is settled.
  pub settled : {ready cells after : List ℕ} {q : Verdict} → SettledCells nodes sizes values ready cells → Compares nodes sizes values a j q → r ≡ q
      → after ≡ set cells (a * row_cells + j) (verdict_number q + 1) → Compares nodes sizes values i j r × SettledCells nodes sizes values ready after
  settled m c e d = (compares_resolved (rw (← x.is, e) c), rw d (cell_set m x.below y.below c))

  -- The verdict that stands in its cell.
  pub known : {ready cells : List ℕ} → SettledCells nodes sizes values ready cells → 0 < get_or ready a 0 → position_count ≤ j → 0 < get_or cells (a * row_cells + j) 0
      → CellHolds (get_or cells (a * row_cells + j) 0) r → Compares nodes sizes values i j r × SettledCells nodes sizes values ready cells
  known m o l h c = told x m (cell_known m o l h c)
