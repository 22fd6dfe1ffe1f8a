-- Laws for the call solve: the walk over an equation's bytes is that of the equation.
use Prim.Native.Nat.{ℕ, ◌≤◌, ◌<◌}
use mathlib.Core.Path.{◌≡◌, refl, sym, ap, subst, ◌∙◌}
use mathlib.Core.Bool.{Bool, false}
use mathlib.Core.List.{List, ◌++◌}
use lib.ListN.{length, get_or, take, drop}
use lib.Seq.{slice, take_all, take_at, length-take-le}
use native.Mathlib.Omega.{arith}
use Rattle.format.specs.Limits.{variable_count, position_count, max_turns}
use Rattle.terms.specs.Term.{size}
use Rattle.terms.specs.Equation.{Equation, source_position, target_position, view}
use Rattle.terms.specs.declared.direction.Direction.{Direction}
use Rattle.terms.specs.declared.direction.Direction.TheVariants.{LeftRight as left_right, RightLeft as right_left}
use Rattle.terms.specs.Prefix.{equation_bytes}
use Rattle.terms.specs.ForContracts.Limits.{positions}
use Rattle.terms.specs.Theory.Limits.{positions_few}
use Rattle.terms.specs.Theory.Position.{size_pos}
use Rattle.terms.specs.Theory.Positions.{left_at, source_within, target_within}
use Rattle.terms.specs.ForContracts.Sizes.{Whole, Measurable, node_sizes}
use Rattle.solving.specs.Line.{Line}
use Rattle.solving.specs.Walk.{enough, over_limit, walk_within, walk, solve}
use Rattle.bindings.specs.ForContracts.PrefixForm.{view_of, InPrefixForm}
use Rattle.bindings.specs.ForContracts.Equation.{equation_sizes}
use Rattle.bindings.specs.Theory.Equation.{length_nodes, length_sizes, size_at, equation_view, equation_form}
use Rattle.std.specs.Prelude.{Result}
use Rattle.format.specs.declared.refusal.Refusal.{Refusal}
use Rattle.solve_equation.specs.declared.positions.Solved.{Solved}
use Rattle.solve_equation.specs.ForContracts.Reports.{Leaves, LeavesWalk}
use Rattle.solve_equation.specs.ForContracts.Equation.{EquationIs, SidesAre, EndsAre}
use Rattle.solve_equation.specs.declared.solve.Ends.{Ends}
use Rattle.solve_equation.specs.Theory.Equation.{equation_whole, equation_measured}

-- The walk over an equation's bytes and sizes is that of the equation.
module _ {nodes stored_sizes : List ℕ} {e : Equation} (are : SidesAre nodes stored_sizes e) where
  abbrev spelled : nodes ≡ equation_bytes e
  spelled = are.is.spelled

  nodes_count : length nodes ≡ positions e
  nodes_count = ap length spelled ∙ length_nodes e

  pub sizes_some : 0 < length stored_sizes
  sizes_some = omega (arith, ap length are.measured ∙ length_sizes e, size_pos e.left)

  right_start : get_or stored_sizes 0 0 ≡ size e.left
  right_start = ap (λ l. get_or l 0 0) are.measured ∙ size_at e 0 (omega (arith, length_sizes e, size_pos e.left)) ∙ ap size (left_at e)

  pub sides_laid : InPrefixForm nodes stored_sizes
  sides_laid = rw (are.measured, spelled) (equation_form e are.arities are.is.few_symbols are.is.left_fits are.is.right_fits are.is.limits)

  pub ends_left : (right : ℕ) → right ≡ get_or stored_sizes 0 0 → EndsAre e left_right (record { source = 0; target = right })
  unfolding source_position target_position
  ends_left right r = record { source_is = refl; target_is = r ∙ right_start }

  pub ends_right : (right : ℕ) → right ≡ get_or stored_sizes 0 0 → EndsAre e right_left (record { source = right; target = 0 })
  unfolding source_position target_position
  ends_right right r = record { source_is = r ∙ right_start; target_is = refl }

  module _ (d : Direction) (ends : Ends) (at : EndsAre e d ends) where
    -- They are positions of the equation.
    pub ends_within : (ends.source < length nodes) × (ends.target < length nodes)
    ends_within = (omega (arith, at.source_is, nodes_count, source_within e d), omega (arith, at.target_is, nodes_count, target_within e d))

    -- The walk between them is that of the equation's direction, whatever stops it.
    pub walk_is : (stop : List Line → Bool) → walk_within enough (view_of nodes stored_sizes) over_limit stop max_turns variable_count ends.source ends.target
        ≡ walk_within enough (view e) over_limit stop max_turns variable_count (source_position e d) (target_position e d)
    walk_is stop =
        rw (at.source_is, at.target_is, are.measured, spelled)
        (ap (λ v. walk_within enough v over_limit stop max_turns variable_count (source_position e d) (target_position e d)) (equation_view e are.arities are.is.few_symbols are.is.left_fits are.is.right_fits))

    pub leaves_direction : (memory : List ℕ) (told : Result Solved Refusal) → LeavesWalk nodes stored_sizes ends.source ends.target memory told → Leaves (solve e d) memory told
    unfolding solve walk
    leaves_direction memory told t = subst (λ w. Leaves w memory told) (walk_is (λ table. false)) t

module _ {bytes arities : List ℕ} {e : Equation} (is : EquationIs bytes arities e) where
  bytes_count : length bytes ≡ positions e
  bytes_count = ap length is.spelled ∙ length_nodes e

  pub bytes_few : length bytes ≤ position_count
  bytes_few = omega (arith, bytes_count, positions_few is.limits)

  bytes_slice : slice 0 (length bytes) bytes ≡ bytes
  bytes_slice = take_all (length bytes) bytes (omega arith)

  pub bytes_measurable : (sizes : List ℕ) → length sizes ≡ position_count → Measurable arities bytes sizes 0 (length bytes)
  bytes_measurable sizes l = record {
    ordered = omega arith;
    few = omega (arith, bytes_few);
    nodes_room = omega arith;
    sizes_room = omega (arith, bytes_few);
    terms = subst (Whole arities) (sym (bytes_slice ∙ is.spelled)) (equation_whole arities is.few_symbols e is.left_fits is.right_fits);
  }

  pub sizes_room : (sizes : List ℕ) → length sizes ≡ position_count → length bytes ≡ length (take (length bytes) sizes)
  sizes_room sizes l = sym (length-take-le (length bytes) sizes (omega (arith, bytes_few)))

  -- What `measure` leaves: the equation's sizes stand first.
  pub sides_are : (before after : List ℕ) → after ≡ take 0 before ++ (node_sizes arities (slice 0 (length bytes) bytes) ++ drop (length bytes) before)
      → SidesAre bytes (take (length bytes) after) e
  sides_are before after fills =
      let first : after ≡ equation_sizes e ++ drop (length bytes) before =
      fills
      ∙ ap (λ bs. node_sizes arities bs ++ drop (length bytes) before) (bytes_slice ∙ is.spelled)
      ∙ ap (◌++ drop (length bytes) before) (equation_measured arities is.few_symbols e is.left_fits is.right_fits) in
      record {
        arities = arities;
        is = is;
        measured = ap (take (length bytes)) first ∙ take_at (equation_sizes e) (drop (length bytes) before) (length bytes) (length_sizes e ∙ sym bytes_count);
      }
