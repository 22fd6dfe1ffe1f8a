-- Laws for the call compare: the terms that are stored are those of the task, and the cells that it works with.
use Prim.Native.Nat.{ℕ, ◌+◌, ◌≤◌}
use mathlib.Core.Path.{◌≡◌, sym, subst, ◌∙◌}
use mathlib.Core.List.{List, ◌++◌}
use lib.ListN.{length, get_or, take, drop, replicate, length-replicate}
use lib.Seq.{drop_at}
use native.Mathlib.Omega.{arith}
use Rattle.format.specs.Limits.{position_count, variable_count, scratch_bytes, node_count, cell_count}
use Rattle.format.specs.Theory.Behind.{cells_there}
use Rattle.terms.specs.Term.{Term, nil, cons}
use Rattle.terms.specs.ForContracts.Stored.{AllSymbols}
use Rattle.cells.specs.ForContracts.Nodes.{TermAt, RowDenotes, more}
use Rattle.cells.specs.ForContracts.Cells.{BothGround, SettledCells}
use Rattle.cells.specs.Theory.Nodes.{ground_denotes}
use Rattle.cells.specs.Theory.Stored.{ground_row_denotes}
use Rattle.cells.specs.Theory.Cells.{none_ready, zero_bytes}
use Rattle.reading.specs.ForContracts.Loading.{Loaded}
use Rattle.outcomes.specs.Buffer.{filled, cleared}
use Rattle.outcomes.specs.Theory.Fill.{cleared_behind}
use Rattle.compare_task.specs.ForContracts.Comparison.{PairLoaded}

-- Two terms stand, the first at the subject's first node and the second at `second`, whatever the variables stand for.
pub record TwoAt (nodes sizes : List ℕ) (s t : Term) (second : ℕ) : Type 0 where
  pub first_stands : (values : List ℕ) → TermAt nodes sizes values position_count s
  pub second_stands : (values : List ℕ) → TermAt nodes sizes values second t
  pub second_low : position_count ≤ second

module _ {nodes sizes : List ℕ} {s t : Term} (p : PairLoaded nodes sizes s t) where
  two_at : {end : ℕ} (second : ℕ) → second ≡ position_count + get_or sizes position_count 0 → RowDenotes nodes sizes (λ v u. ⊥) position_count end (cons s (cons t nil)) → TwoAt nodes sizes s t second
  two_at second e (more a (more b r)) =
      record {
        first_stands = λ values. ground_denotes a;
        second_stands = λ values. subst (λ i. TermAt nodes sizes values i t) (sym e) (ground_denotes b);
        second_low = omega arith;
      }

  pub pair_stands : (second : ℕ) → second ≡ position_count + get_or sizes position_count 0 → TwoAt nodes sizes s t second
  pair_stands second e =
      let l = p.loaded in
      two_at second e (ground_row_denotes p.arities l.few_symbols (cons s (cons t nil)) l.is_ground l.bytes l.sizes_there (omega (arith, l.few_nodes)))

  pub pair_ground : BothGround s t
  pair_ground = let (x, y) = p.loaded.is_ground in record { arities = p.arities; first = x; second = y.0 }

  pub no_row_ready : (values scratch : List ℕ) → length values ≡ variable_count → scratch_bytes ≤ length scratch → SettledCells nodes sizes values (replicate node_count 0) (take cell_count scratch)
  unfolding AllSymbols
  no_row_ready values scratch v h =
      none_ready p.loaded.nodes_length p.loaded.sizes_length v (length-replicate {A = ℕ} node_count 0) (cells_there scratch h) (λ i l. p.loaded.symbols i) (zero_bytes node_count)

pub scratch_cleared : (scratch front last : List ℕ) → scratch_bytes ≤ length scratch → length front ≡ length (take cell_count scratch) → last ≡ filled scratch_bytes 0 (front ++ drop cell_count scratch) → last ≡ cleared scratch
scratch_cleared scratch front last h l =
    cleared_behind cell_count scratch (front ++ drop cell_count scratch) last (omega arith) (drop_at front (drop cell_count scratch) cell_count (l ∙ cells_there scratch h))

pub pair_loaded : {arities nodes sizes : List ℕ} {s t : Term} {n : ℕ} → Loaded arities nodes sizes (cons s (cons t nil)) n → PairLoaded nodes sizes s t
pair_loaded {arities} l = record { arities = arities; size_of = _; loaded = l }
