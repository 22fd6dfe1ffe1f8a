-- The laws of `solve`: what its table says at values of the variables, that fuel is no limit, and what its table looks like.
use Rattle.std.specs.Prelude.{ℕ, ◌*◌, ◌≤◌, ◌≡◌, refl, ◌↔◌, false, List, length}
use Rattle.std.proofs.Common.{arith}
use Rattle.format.specs.Limits.{variable_count, max_lines, max_turns, record_bytes, table_bytes}
use Rattle.terms.specs.Term.{Values, inst}
use Rattle.terms.specs.Equation.{Equation, source, target, source_position, target_position, view, value}
use Rattle.terms.specs.declared.direction.Direction.{Direction}
use Rattle.terms.specs.ForContracts.Limits.{WithinLimits, positions}
use Rattle.terms.specs.Theory.Limits.{positions_few}
use Rattle.terms.specs.Theory.Positions.{source_at, target_at, source_within, target_within}
use Rattle.terms.specs.Theory.View.{layout, model}
use Rattle.path_order.specs.Order.{◌≻◌}
use Rattle.solving.specs.Line.{Line, records}
use Rattle.solving.specs.Walk.{Fuel, AtLeast, enough, solved, over_limit, turn, walk, solve}
use Rattle.solving.specs.Holds.{SomeLineHolds}
use Rattle.solving.proofs.Theory.Reach.{Sufficient, enough_suffices, more_suffices}
use Rattle.solving.proofs.Theory.Table.{ProperTable}
use Rattle.solving.proofs.Theory.Fuel.{turn_fuel}
use Rattle.solving.specs.Theory.Invariant.{Ended}
use Rattle.solving.proofs.Theory.Reduced.{Finished, turn_none}
use Rattle.solving.specs.ForContracts.Written.{WrittenLines}
use Rattle.solving.proofs.Theory.Written.{written_lines}
use Rattle.solving.specs.Theory.Records.{length_records, records_fit, AllBelow, records_are_bytes}
use Rattle.solving.proofs.Theory.Whole.{Kept, walk_kept, walk_exact, walk_fuel}

module _ (e : Equation) (w : WithinLimits e) where
  enough_here : Sufficient variable_count (positions e) enough
  enough_here = enough_suffices (positions_few w)

  -- More fuel changes no turn, and not the walk.
  pub more_fuel_turn : (fuel : Fuel) → AtLeast enough fuel → (table : List Line) → ProperTable (view e) variable_count (positions e) table → turn fuel (view e) table ≡ turn enough (view e) table
  more_fuel_turn fuel a table h = turn_fuel (layout e w) (more_suffices enough_here a) enough_here table h

  module _ (d : Direction) where
    pub solve_fuel : (fuel : Fuel) → AtLeast enough fuel → walk fuel (view e) (source_position e d) (target_position e d) ≡ solve e d
    unfolding solve walk
    solve_fuel fuel a = walk_fuel (layout e w) (more_suffices enough_here a) enough_here over_limit (λ table. false) max_turns (source_position e d) (target_position e d) (source_within e d) (target_within e d)

    module _ (table : List Line) (n : ℕ) (done : solve e d ≡ solved table n) where
      -- The source's instance exceeds the target's exactly if some line of the table holds.
      pub solve_exact : (ρ : Values) → (inst ρ (source e d) ≻ inst ρ (target e d)) ↔ SomeLineHolds ρ (value e ρ) table
      unfolding solve walk value
      solve_exact ρ = rw (source_at e d, target_at e d) at
          (walk_exact (layout e w) enough_here (source_position e d) (target_position e d) (source_within e d) (target_within e d) (λ table. false) (model e ρ) table n done)

      ended : Ended enough (view e) (λ table. false) (λ k. Kept (layout e w) enough_here (source_position e d) (target_position e d) (source_within e d) (target_within e d) (λ table. false)) table n 0 max_turns
      unfolding solve walk
      ended = walk_kept (layout e w) enough_here (source_position e d) (target_position e d) (source_within e d) (target_within e d) (λ table. false) table n done

      -- Every line is finished: its elements are fully reduced inequalities, seen through its bindings.
      pub solved_reduced : Finished (view e) table
      solved_reduced = turn_none (layout e w) enough_here table ended.has.proper (ended.finished refl)

      -- "up to 40 elements", "at most 255 lines", "At most 10,000 turns."
      pub solved_lines : WrittenLines (positions e) table
      solved_lines = written_lines (view e) (positions e) table ended.has.proper solved_reduced ended.has.limits.short_lines

      pub solved_line_count : length table ≤ max_lines
      solved_line_count = ended.has.limits.few_lines

      pub solved_turn_count : n ≤ max_turns
      solved_turn_count = ended.turns_within

      -- The records: their length, and that they are bytes.
      pub solved_records_length : length (records table) ≡ length table * record_bytes
      solved_records_length = length_records (positions e) table solved_lines

      pub solved_records_fit : length (records table) ≤ table_bytes
      solved_records_fit = records_fit (positions e) table solved_lines solved_line_count

      pub solved_records_bytes : AllBelow 256 (records table)
      solved_records_bytes = records_are_bytes (omega (arith, positions_few w)) table solved_lines
