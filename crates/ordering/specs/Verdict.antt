-- The verdict of a comparison (document 01, 'Ground comparison' and 'Calls and lent memory').
use Rattle.std.specs.Prelude.{ℕ}
pub use Rattle.ordering.specs.declared.verdict.Verdict.{Verdict}
pub use Rattle.ordering.specs.declared.verdict.Verdict.TheVariants.{Smaller as smaller, Equal as equal, Greater as greater}
use Rattle.terms.specs.Term.{Term, identical?}
use Rattle.ordering.specs.Theory.Decide.{exceeds?}

-- "Compare: 0 smaller, 1 equal, 2 greater."
unfoldable pub verdict_number : Verdict → ℕ
verdict_number smaller = 0
verdict_number equal = 1
verdict_number greater = 2

-- Two ground terms are equal if they are identical; else the first is greater if "s > t" by L1 to L3; else it is smaller.
-- `verdict_smaller` of Theory/Total says that then "t > s".
unfoldable pub verdict : Term → Term → Verdict
unfolding identical? exceeds?
verdict s t = elim (identical? s t) [ yes e ↦ equal | no n ↦ elim (exceeds? s t) [ yes g ↦ greater | no m ↦ smaller ] ]
