-- What the functions that compare whole terms answer (document 02, W8), over the terms that the nodes stand for.
use Rattle.std.specs.Prelude.{ℕ, ◌≡◌, Bool, true, false, List}
use Rattle.terms.specs.Term.{Term}
use Rattle.ordering.specs.declared.decision.Clause.{Clause}
use Rattle.ordering.specs.declared.decision.Clause.TheVariants.{L1 as by_L1}
use Rattle.ordering.specs.declared.decision.Decision.{Decision}
use Rattle.ordering.specs.Decision.{decision, verdict_of}
use Rattle.cells.specs.ForContracts.Nodes.{TermAt}
use Rattle.cells.specs.ForContracts.Cells.{BothGround}
use Rattle.comparing.specs.ForContracts.Comparing.{Compares}

-- The first clause that applies, where `other` does: by whether L1 applies.
unfoldable pub first_of : (reached : Bool) → (other : Clause) → Clause
first_of true other = by_L1
first_of false other = other

module _ (nodes sizes values : List ℕ) where
  -- The verdict is that of any two terms; the clause is promised of ground terms only.
  pub record DecisionOf (i j : ℕ) (r : Decision) : Type 0 where
    pub verdict_is : Compares nodes sizes values i j (verdict_of r)
    pub is : (s t : Term) → TermAt nodes sizes values i s → TermAt nodes sizes values j t → BothGround s t → r ≡ decision s t
