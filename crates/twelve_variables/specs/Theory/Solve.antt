-- With more variables than an equation has, `solve` gives the same table with more slots, in as many turns.
use Rattle.std.specs.Prelude.{ℕ, ◌+◌, ◌≤◌, ◌<◌, ◌≡◌, refl, false, [], ◌∷◌}
use Rattle.std.proofs.Math.Path.{ap}
use Rattle.std.proofs.Common.{◌∙◌, arith}
use Rattle.format.specs.Limits.{max_turns}
use Rattle.terms.specs.Equation.{Equation, view, source_position, target_position}
use Rattle.terms.specs.declared.direction.Direction.{Direction}
use Rattle.terms.specs.ForContracts.Limits.{positions}
use Rattle.terms.specs.Theory.Positions.{source_within, target_within}
use Rattle.terms.specs.Theory.View.{Layout, layout_below}
use Rattle.solving.specs.Line.{Bindings, greater, line}
use Rattle.solving.specs.Walk.{enough_with, over_limit, opening, walk_until, solve_with}
use Rattle.solving.proofs.Theory.Reach.{Sufficient}
use Rattle.solving.proofs.Theory.Fuel.{walk_until_fuel}
use Rattle.solving.proofs.Theory.Whole.{opening_proper}
use Rattle.twelve_variables.specs.Theory.Padded.{padded_walk}
use Rattle.twelve_variables.specs.Theory.Few.{Few}
use Rattle.twelve_variables.specs.Theory.Slots.{padded_free}
use Rattle.twelve_variables.specs.Theory.Walk.{padded_over, padded_until}

module _ (few extra : ℕ) (positive : 0 < few) (e : Equation) (w : Few few e) where
  lay : Layout (view e) few (positions e)
  lay = layout_below e few positive w.left_variables w.right_variables

  suffices : (vars : ℕ) → few ≤ vars → Sufficient few (positions e) (enough_with vars)
  suffices vars l = record { hops_suffice = l; occurs_suffices = omega (arith, w.left_size, w.right_size); unify_suffices = omega (arith, w.left_size, w.right_size) }

  -- The two fuels differ too: a larger one changes no walk.
  pub solve_padded : (d : Direction) → solve_with (few + extra) e d ≡ padded_walk extra (solve_with few e d)
  unfolding solve_with
  solve_padded d =
      let s = source_position e d in
      let t = target_position e d in
      let more = enough_with (few + extra) in
      let proper = opening_proper lay s t (source_within e d) (target_within e d) in
      ap (λ (θ : Bindings). walk_until more (view e) over_limit (λ table. false) max_turns 0 (line θ (greater s t ∷ []) ∷ [])) (padded_free few extra)
      ∙ (padded_until extra lay (suffices (few + extra) (omega arith)) over_limit (λ table. false) (padded_over extra) (λ table. refl) max_turns 0 (opening few s t) proper
      ∙ ap (padded_walk extra) (walk_until_fuel lay (suffices (few + extra) (omega arith)) (suffices few (omega arith)) over_limit (λ table. false) max_turns 0 (opening few s t) proper))
