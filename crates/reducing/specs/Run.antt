-- Runs (document 01, 'Runs'), over the test that a match has to pass and the filling of variables that it does not meet (document 02, W5).
use Prim.Native.Nat.{ℕ, zero, suc}
use Rattle.std.specs.Prelude.{Bool, ltb}
use Rattle.std.proofs.Math.Bool.{true, false}
use Rattle.std.proofs.Math.Option.{Option, none, some}
use mathlib.Core.List.{List, [], ◌∷◌}
use Rattle.format.specs.Limits.{variable_count, max_task_nodes}
use Rattle.terms.specs.Term.{Term, size, Values, inst}
use Rattle.terms.specs.Position.{subterms, replace}
use Rattle.terms.specs.Equation.{Equation, source, target}
use Rattle.terms.specs.declared.direction.Direction.{Direction}
use Rattle.terms.specs.declared.direction.Direction.TheVariants.{LeftRight as left_right, RightLeft as right_left}
use Rattle.path_order.specs.Order.{◌≻◌}
pub use Rattle.reducing.specs.declared.ending.Ending.{Ending}
pub use Rattle.reducing.specs.declared.ending.Ending.TheVariants.{NoneFound as none_found, LimitReached as limit_reached, ResultTooLarge as result_too_large}
use Rattle.reducing.specs.Match.{unmet, no_match, match, values_of}

-- "The steps (equation, direction, position)", each with the term that it gives.
pub record Step : Type 0 where
  pub equation : ℕ
  pub direction : Direction
  pub position : ℕ
  pub result : Term

-- "none found, ending 00; k steps done, ending 01; result above 160 nodes, ending 02"
unfoldable pub ending_number : Ending → ℕ
ending_number none_found = 0
ending_number limit_reached = 1
ending_number result_too_large = 2

pub record Run : Type 0 where
  pub steps : List Step
  pub ending : Ending

unfoldable pub after_step : Step → Run → Run
after_step s r = record { steps = s ∷ r.steps; ending = r.ending }

-- "result above 160 nodes"
unfoldable pub large_result : Term → Bool
unfolding size
large_result t = ltb max_task_nodes (size t)

-- With any number of variables.
module _ (variables : ℕ) (filling : Term) (test : Equation → Direction → Values → Bool) where
  -- One direction at one position of the subject: "whose source side matches (a repeated variable meets identical terms)" and whose match passes the test.
  -- "Every direction is usable, with that filling before the lines are judged" (document 02, W5). "The matched part becomes the target's instance."
  unfoldable pub try_with : (subject : Term) → (p : ℕ) → (part : Term) → (n : ℕ) → Equation → Direction → Option Step
  unfolding match values_of replace inst source target
  try_with subject p part n e d =
      elim (match (source e d) part (unmet variables)) [
        | none ↦ none
        | some m ↦ elim (test e d (values_of filling m)) [
          | false ↦ none
          | true ↦ some (record { equation = n; direction = d; position = p; result = replace subject p (inst (values_of filling m) (target e d)) })
        ]
      ]

  -- "equations ascending, direction 00 before 01", the first of them number `n`.
  unfoldable pub try_equations_with : Term → ℕ → Term → (n : ℕ) → List Equation → Option Step
  unfolding try_with
  try_equations_with subject p part n [] = none
  try_equations_with subject p part n (e ∷ es) =
      elim (try_with subject p part n e left_right) [
        | some s ↦ some s
        | none ↦ elim (try_with subject p part n e right_left) [ some s ↦ some s | none ↦ try_equations_with subject p part (suc n) es ]
      ]

  -- "positions of the subject ascending", the first of these parts at `p`.
  unfoldable pub try_positions_with : List Equation → Term → (p : ℕ) → (parts : List Term) → Option Step
  unfolding try_equations_with
  try_positions_with es subject p [] = none
  try_positions_with es subject p (part ∷ parts) = elim (try_equations_with subject p part 0 es) [ some s ↦ some s | none ↦ try_positions_with es subject (suc p) parts ]

  -- "One step"
  unfoldable pub step_with : List Equation → Term → Option Step
  unfolding try_positions_with subterms
  step_with es subject = try_positions_with es subject 0 (subterms subject)

  -- "Before each step: none found, ending 00; k steps done, ending 01; result above 160 nodes, ending 02; else the step." `large` tells which results are too large.
  unfoldable pub run_within_with : (large : Term → Bool) → List Equation → (k : ℕ) → (subject : Term) → Run
  unfolding step_with after_step
  run_within_with large es zero subject = elim (step_with es subject) [ none ↦ record { steps = []; ending = none_found } | some s ↦ record { steps = []; ending = limit_reached } ]
  run_within_with large es (suc k) subject =
      elim (step_with es subject) [
        | none ↦ record { steps = []; ending = none_found }
        | some s ↦ elim (large s.result) [
          | true ↦ record { steps = []; ending = result_too_large }
          | false ↦ after_step s (run_within_with large es k s.result)
        ]
      ]

  -- The run of document 01: within its limit on results.
  unfoldable pub run_with : List Equation → (k : ℕ) → (subject : Term) → Run
  unfolding run_within_with large_result
  run_with = run_within_with large_result

-- With the sheet's number of variables.
module _ (filling : Term) (test : Equation → Direction → Values → Bool) where
  unfoldable pub try : (subject : Term) → (p : ℕ) → (part : Term) → (n : ℕ) → Equation → Direction → Option Step
  unfolding try_with no_match
  try = try_with variable_count filling test

  unfoldable pub try_equations : Term → ℕ → Term → (n : ℕ) → List Equation → Option Step
  unfolding try_equations_with try
  try_equations = try_equations_with variable_count filling test

  unfoldable pub try_positions : List Equation → Term → (p : ℕ) → (parts : List Term) → Option Step
  unfolding try_positions_with try_equations
  try_positions = try_positions_with variable_count filling test

  unfoldable pub step : List Equation → Term → Option Step
  unfolding step_with try_positions
  step = step_with variable_count filling test

  unfoldable pub run_within : (large : Term → Bool) → List Equation → (k : ℕ) → (subject : Term) → Run
  unfolding run_within_with step
  run_within = run_within_with variable_count filling test

  unfoldable pub run : List Equation → (k : ℕ) → (subject : Term) → Run
  unfolding run_with run_within
  run = run_with variable_count filling test

-- "The terms of a run are its frame's term and then the result of each step." The last of them: "Ending 02 keeps the term before it."
unfoldable pub last_term : Term → List Step → Term
last_term subject [] = subject
last_term subject (s ∷ steps) = last_term s.result steps

-- "each term of the run exceeds the next": the subject the first step's result, that the second's, and so on.
abbrev pub Descending : Term → List Step → Type 0
Descending subject [] = Unit {0}
Descending subject (s ∷ steps) = (subject ≻ s.result) × Descending s.result steps
