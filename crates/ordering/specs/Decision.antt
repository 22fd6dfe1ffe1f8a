-- The comparison of two ground terms with the clause that decided it (document 02, W8).
use Rattle.std.specs.Prelude.{ℕ}
pub use Rattle.ordering.specs.declared.decision.Decision.{Decision}
pub use Rattle.ordering.specs.declared.decision.Decision.TheVariants.{Smaller as smaller_by, Equal as equal_terms, Greater as greater_by}
use Rattle.terms.specs.Term.{Term}
use Rattle.ordering.specs.Verdict.{Verdict, smaller, equal, greater, verdict}
use Rattle.ordering.specs.Clause.{Clause, by_L1, by_L2, by_L3}
use Rattle.ordering.specs.Theory.Decide.{applies?}

-- "the first of L1, L2, L3 that applies". Where s > t one of them does, and this is the first (`first_applies`, proofs/Theory/Decision); where s does not exceed t it means nothing.
unfoldable pub first_clause : Term → Term → Clause
unfolding applies?
first_clause s t = elim (applies? by_L1 s t) [ yes x ↦ by_L1 | no n ↦ elim (applies? by_L2 s t) [ yes x ↦ by_L2 | no m ↦ by_L3 ] ]

-- "with 'greater' the first of L1, L2, L3 that applies, and with 'smaller' the first that applies the other way round"
-- Of ground terms. Of others, where neither exceeds the other, the verdict "smaller" and its clause mean nothing.
unfoldable pub decision : Term → Term → Decision
unfolding verdict first_clause
decision s t = elim (verdict s t) [ smaller ↦ smaller_by (first_clause t s) | equal ↦ equal_terms | greater ↦ greater_by (first_clause s t) ]

-- The verdict of a decision. "The verdict alone is what demand 3 goes on."
unfoldable pub verdict_of : Decision → Verdict
verdict_of (smaller_by c) = smaller
verdict_of equal_terms = equal
verdict_of (greater_by c) = greater

-- "01, 02, 03"
unfoldable pub clause_number : Clause → ℕ
clause_number by_L1 = 1
clause_number by_L2 = 2
clause_number by_L3 = 3

-- "01, 02, 03, or 00 for equal"
unfoldable pub clause_number_of : Decision → ℕ
unfolding clause_number
clause_number_of (smaller_by c) = clause_number c
clause_number_of equal_terms = 0
clause_number_of (greater_by c) = clause_number c
