-- The run with unlimited steps and without the limit of 160 nodes (document 02, W10).
use Rattle.std.specs.Prelude.{ℕ, ◌≤◌, ◌≡◌, false, List, length}
use Rattle.terms.specs.Term.{Term}
use Rattle.terms.specs.Equation.{Equation}
use Rattle.reducing.specs.declared.ending.Ending.TheVariants.{NoneFound as none_found}
use Rattle.reducing.specs.Run.{Step, Run, run_within}
use Rattle.reducing.specs.Test.{line_test}

-- The run without the limit of 160 nodes, allowed `k` steps: `run_within`, the text of document 01's run, where no result is too large.
unfoldable pub run_allowed : (filling : Term) → List Equation → (subject : Term) → (k : ℕ) → Run
unfolding run_within line_test
run_allowed filling es subject k = run_within filling line_test (λ result. false) es k subject

-- The run ends: allowed as many steps as these, or any greater number, it takes exactly these and then finds no step.
pub record RunEnds (filling : Term) (es : List Equation) (subject : Term) : Type 0 where
  pub steps : List Step
  pub ends : (k : ℕ) → length steps ≤ k → run_allowed filling es subject k ≡ record { steps = steps; ending = none_found }
