-- What the bytes of terms tell of them: that one is another, or stands among others.
use Rattle.std.specs.Prelude.{ℕ, ◌≡◌, Bool, true, List}
use Rattle.terms.specs.Term.{Term, Terms}
use Rattle.terms.specs.Theory.Induction.{Member}
use Rattle.terms.specs.declared.arguments.Arguments.{Arguments}
use Rattle.cells.specs.ForContracts.Nodes.{TermAt, TermsAt}
use Rattle.comparing.specs.ForContracts.Comparing.{HasTerm, HasTerms}

module _ (nodes sizes : List ℕ) where
  -- Terms stand at both nodes; in the row and at the node.
  pub record HasTwoTerms (i j : ℕ) : Type 0 where
    pub values : List ℕ
    pub first : HasTerm nodes sizes values i
    pub second : HasTerm nodes sizes values j

  pub record HasRowAndTerm (row : Arguments) (j : ℕ) : Type 0 where
    pub values : List ℕ
    pub terms : HasTerms nodes sizes values row
    pub term : HasTerm nodes sizes values j

  -- Where the answer is yes, the terms are equal; the term is one of those in the row; whatever the values of the variables are. No tells nothing.
  pub record TellsEqual (i j : ℕ) (r : Bool) : Type 0 where
    pub is : r ≡ true → (values : List ℕ) (s t : Term) → TermAt nodes sizes values i s → TermAt nodes sizes values j t → s ≡ t

  pub record TellsAmong (row : Arguments) (j : ℕ) (r : Bool) : Type 0 where
    pub is : r ≡ true → (values : List ℕ) (ss : Terms) (t : Term) → TermsAt nodes sizes values row.from row.end ss → TermAt nodes sizes values j t → Member t ss
