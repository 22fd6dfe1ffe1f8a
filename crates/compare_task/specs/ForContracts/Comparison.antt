-- What the code of compare cites: two ground terms of a task, stored as nodes.
use Rattle.std.specs.Prelude.{ℕ, List}
use Rattle.terms.specs.Term.{Term, nil, cons}
use Rattle.reading.specs.ForContracts.Loading.{TermsIn, Loaded}

-- The digits from `from` to `end` write these two ground terms, one behind the other.
abbrev pub PairIn : (sheet arities : List ℕ) (from end : ℕ) (s t : Term) → Type 0
PairIn sheet arities from end s t = TermsIn sheet arities from end (cons s (cons t nil))

-- They stand from the subject's first node on.
pub record PairLoaded (nodes sizes : List ℕ) (s t : Term) : Type 0 where
  pub arities : List ℕ
  pub size_of : ℕ
  pub loaded : Loaded arities nodes sizes (cons s (cons t nil)) size_of
