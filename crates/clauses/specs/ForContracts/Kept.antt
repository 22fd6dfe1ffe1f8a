-- The decision that a cell holds, where the clause was asked for.
use Rattle.std.specs.Prelude.{ℕ, ◌+◌, ◌*◌, ◌≤◌, ◌≡◌}
use Rattle.terms.specs.Term.{Term}
use Rattle.ordering.specs.declared.decision.Clause.{Clause}
use Rattle.ordering.specs.declared.decision.Decision.{Decision}
use Rattle.ordering.specs.Verdict.{verdict, verdict_number}
use Rattle.ordering.specs.Decision.{decision, verdict_of, clause_number, clause_number_of}
use Rattle.cells.specs.ForContracts.Cells.{BothGround, clause_unit, Settles}

-- The cell of a decision.
unfoldable pub cell_of : Decision → ℕ
cell_of d = verdict_number (verdict_of d) + 1 + clause_unit * clause_number_of d

-- The clause with this number.
pub record ClauseNumbered (number : ℕ) (r : Clause) : Type 0 where
  pub only : (c : Clause) → number ≡ clause_number c → r ≡ c

-- The decision on terms of which the cell says the verdict and the clause.
pub record DecisionHeld (cell : ℕ) (r : Decision) : Type 0 where
  pub verdict_is : (s t : Term) → Settles cell s t → verdict_of r ≡ verdict s t
  pub is : (s t : Term) → Settles cell s t → clause_unit ≤ cell → BothGround s t → r ≡ decision s t
