-- Outcomes written short, for proofs: a number, and the bytes of each buffer.
use Rattle.std.specs.Prelude.{ℕ, ◌*◌, List, [], ◌∷◌, true, ◌≡◌, refl, length}
use Rattle.std.proofs.Common.{arith}
use Rattle.reducing.specs.Run.{Step}
use Rattle.outcomes.specs.Outcome.{TableOutcome, CompareOutcome, RunOutcome, compare_answer, directed_answer, log_of}
use Rattle.outcomes.specs.Asked.{asked, comparison_task, Directed, direction_asked}

abbrev pub table_outcome : ℕ → (table scratch : List ℕ) → TableOutcome
table_outcome n table scratch = record { returned = n; table = table; scratch = scratch }

abbrev pub compare_outcome : ℕ → List ℕ → CompareOutcome
compare_outcome n scratch = record { returned = n; scratch = scratch }

abbrev pub run_outcome : ℕ → (table scratch term log : List ℕ) → RunOutcome
run_outcome n table scratch term log = record { returned = n; table = table; scratch = scratch; term = term; log = log }

module _ (sheet scratch : List ℕ) (task : ℕ) where
  abbrev pub compare_answered : CompareOutcome
  compare_answered = compare_answer scratch (asked true sheet (comparison_task task))

module _ (gives : Directed → TableOutcome) (sheet table scratch : List ℕ) (equation direction : ℕ) where
  abbrev pub directed_answered : TableOutcome
  directed_answered = directed_answer gives table scratch (asked true sheet (direction_asked equation direction))

-- Three bytes for each step.
pub length_log : (steps : List Step) → length (log_of steps) ≡ 3 * length steps
unfolding log_of
length_log [] = refl
length_log (s ∷ steps) = let x = length_log steps in omega arith
