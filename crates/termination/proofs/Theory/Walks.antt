-- The walk without its limits ends for every two terms, and on a direction that solves with that direction's table and turns (document 02, W10).
use Rattle.std.specs.Prelude.{ℕ, ◌+◌, ◌≤◌, ◌≡◌, false, List, length}
use Rattle.std.proofs.Math.Path.{sym}
use Rattle.std.proofs.Common.{ap, ◌∙◌}
use native.Mathlib.Omega.{arith}
use Rattle.format.specs.Limits.{variable_count, max_turns}
use Rattle.terms.specs.Term.{count}
use Rattle.terms.specs.Position.{app_node}
use Rattle.terms.specs.Equation.{Equation, view, source_position, target_position}
use Rattle.terms.specs.declared.direction.Direction.{Direction}
use Rattle.terms.specs.ForContracts.Limits.{WithinLimits, positions}
use Rattle.terms.specs.Theory.Limits.{positions_few}
use Rattle.terms.specs.Theory.Position.{count_few, count_starts}
use Rattle.terms.specs.Theory.Positions.{arguments_at, segment_within, source_within, target_within}
use Rattle.terms.specs.Theory.View.{Layout, layout_below, symbol_at}
use Rattle.sheet.specs.Theory.Width.{equation_width_low, equation_below}
use Rattle.solving.specs.Line.{Line}
use Rattle.solving.specs.Walk.{Fuel, AtLeast, enough, solved, over_limit, opening, walk_within, walk, solve, Solves}
use Rattle.solving.proofs.Theory.Reach.{Sufficient, enough_suffices, more_suffices}
use Rattle.solving.proofs.Theory.Table.{ProperTable}
use Rattle.solving.proofs.Theory.Whole.{opening_proper, walk_fuel}
use Rattle.termination.specs.Walk.{slots, enough_for, no_limit, walk_allowed, WalkEnds}
use Rattle.termination.specs.Theory.Lower.{table_halts}
use Rattle.termination.proofs.Theory.Limits.{freed, halts_ends}

module _ (e : Equation) where
  -- A symbol has no more arguments than the equation has positions.
  few_arguments : (p f : ℕ) (ps : List ℕ) → view e p ≡ app_node f ps → length ps ≤ positions e
  few_arguments p f ps x =
      let (ts, y, z) = symbol_at e p f ps x in
      let l : length ps ≡ count ts = ap length z ∙ count_starts ts (p + 1) in
      omega (arith, count_few ts, segment_within e ts (arguments_at e p f ts y))

  layout_of : Layout (view e) (slots e) (positions e)
  unfolding slots
  layout_of = let (l, r) = equation_below e (slots e) (omega arith) in layout_below e (slots e) (omega arith) l r

  own_suffices : Sufficient (slots e) (positions e) (enough_for e)
  unfolding enough_for
  own_suffices = record { hops_suffice = omega arith; occurs_suffices = omega arith; unify_suffices = omega arith }

  module _ (d : Direction) where
    first_table : List Line
    first_table = opening (slots e) (source_position e d) (target_position e d)

    first_proper : ProperTable (view e) (slots e) (positions e) first_table
    unfolding first_table
    first_proper = opening_proper layout_of (source_position e d) (target_position e d) (source_within e d) (target_within e d)

    -- "the walk, written without its three limits, ends for every pair of terms": a total function to its last table and its turns.
    pub walk_unlimited : WalkEnds e d
    unfolding walk_allowed first_table
    walk_unlimited =
        let (table, turns, ends) = halts_ends (enough_for e) (view e) (λ table. false) (table_halts layout_of own_suffices (positions e) few_arguments first_table first_proper) in
        record { table = table; turns = turns; ends = ends }

    -- "and on a direction that solves with that direction's table and turns": `solve` and the walk without limits are compared where both are allowed enough turns.
    module _ (w : WithinLimits e) where
      slots_are : slots e ≡ variable_count
      unfolding slots
      slots_are = omega (arith, equation_width_low e w)

      solved_allowed : (table : List Line) (turns : ℕ) → solve e d ≡ solved table turns → (most : ℕ) → max_turns ≤ most → walk_allowed e d most ≡ solved table turns
      unfolding solve walk walk_allowed
      solved_allowed table turns x most l =
          let suf : Sufficient (slots e) (positions e) enough = rw slots_are (enough_suffices (positions_few w)) in
          let a : walk_within enough (view e) no_limit (λ table. false) most (slots e) (source_position e d) (target_position e d) ≡ solved table turns =
          rw slots_are (freed enough (view e) over_limit (λ new. false) max_turns most l 0 (opening variable_count (source_position e d) (target_position e d)) table turns x) in
          sym (walk_fuel layout_of suf own_suffices no_limit (λ table. false) most (source_position e d) (target_position e d) (source_within e d) (target_within e d)) ∙ a

      pub ends_as_solved : (s : Solves e d) (u : WalkEnds e d) → (u.table ≡ s.table) × (u.turns ≡ s.turns)
      ends_as_solved s u =
          let most = u.turns + max_turns in
          let x : solved u.table u.turns ≡ solved s.table s.turns = sym (u.ends most (omega arith)) ∙ solved_allowed s.table s.turns s.walked most (omega arith) in
          (cc x, cc x)

    -- It has one end.
    pub walk_ends_once : (u v : WalkEnds e d) → (u.table ≡ v.table) × (u.turns ≡ v.turns)
    walk_ends_once u v =
        let most = u.turns + v.turns in
        let x : solved u.table u.turns ≡ solved v.table v.turns = sym (u.ends most (omega arith)) ∙ v.ends most (omega arith) in
        (cc x, cc x)

    -- No larger fuel changes it.
    pub deeper_walk : (fuel : Fuel) → AtLeast (enough_for e) fuel → (most : ℕ)
        → walk_within fuel (view e) no_limit (λ table. false) most (slots e) (source_position e d) (target_position e d) ≡ walk_allowed e d most
    unfolding walk_allowed
    deeper_walk fuel a most = walk_fuel layout_of (more_suffices own_suffices a) own_suffices no_limit (λ table. false) most (source_position e d) (target_position e d) (source_within e d) (target_within e d)
