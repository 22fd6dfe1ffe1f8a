-- `compare_stored` gives the decision on the two terms that stand in the nodes.
use Prim.Native.Nat.{◌+◌}
use mathlib.Core.Path.{refl, sym, ap}
use native.Mathlib.Omega.{arith}
use Rattle.format.specs.Limits.{position_count}
use Rattle.format.specs.Theory.Behind.{cells_there}
use Rattle.compare_task.proofs.Stored.{pair_stands, pair_ground, no_row_ready, scratch_cleared}
use Rattle.compare_task.proofs.compare.compare_stored.Goals as goal

pub slice_bounds-compare-end-2 : goal.slice_bounds-compare-end-2
slice_bounds-compare-end-2 c = sym (cells_there c.args.scratch.now c.requires.scratch_bytes_in_bounds)

pub compare-decision-requires : goal.compare-decision-requires
compare-decision-requires c =
    let (s, t, p) = c.requires.pair_loaded in
    let two = pair_stands p _ (ap (position_count +◌) c.from-second.ensures) in
    let none = no_row_ready p _ c.args.scratch.now refl c.requires.scratch_bytes_in_bounds in record { settled_cells = none; has_term = (record { term = s; denotes = two.first_stands _ }, none.symbols position_count (omega arith)); has_term_2 = (record { term = t; denotes = two.second_stands _ }, two.second_low) }

pub returns : goal.returns
returns c =
    record { value = λ s t p. let two = pair_stands p _ (ap (position_count +◌) c.from-second.ensures) in c.compare-decision.ensures.decision_of.is s t (two.first_stands _) (two.second_stands _) (pair_ground p); scratch_after = scratch_cleared c.args.scratch.now c.compare-decision.new.cells _ c.requires.scratch_bytes_in_bounds c.compare-decision.auto.cells c.fill.ensures }
