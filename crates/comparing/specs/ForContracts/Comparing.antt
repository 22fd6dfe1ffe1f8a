-- What the functions of the comparison ask and answer, each in terms of the terms that its nodes stand for.
use Rattle.std.specs.Prelude.{ℕ, ◌≤◌, ◌<◌, ◌≡◌, ◌↔◌, Bool, true, false, List, Option, IfSome}
use Rattle.format.specs.Limits.{position_count}
use Rattle.terms.specs.Term.{Term, Terms, size, sizes}
use Rattle.terms.specs.declared.arguments.Arguments.{Arguments}
use Rattle.path_order.specs.Order.{◌≻◌, SomeReaches, ExceedsAll}
use Rattle.ordering.specs.declared.verdict.Verdict.{Verdict}
use Rattle.ordering.specs.declared.verdict.Verdict.TheVariants.{Smaller as smaller, Equal as equal, Greater as greater}
use Rattle.ordering.specs.Verdict.{verdict}
use Rattle.comparing.specs.declared.comparison.Difference.{Difference}
use Rattle.cells.specs.ForContracts.Nodes.{TermAt, TermsAt}

-- The verdict of two terms that are not equal, by whether the first is greater.
unfoldable pub greater_if : Bool → Verdict
greater_if true = greater
greater_if false = smaller

-- What is left to ask of s and t, whose symbols are the same, by the verdict of their first arguments that differ: `ss` and `ts` are the arguments behind those.
abbrev pub LeftToAsk : Verdict → (s t : Term) (ss ts : Terms) → Type 0
LeftToAsk smaller s t ss ts = (¬ (s ≡ t)) × ((s ≻ t) ↔ SomeReaches ss t)
LeftToAsk equal s t ss ts = s ≡ t
LeftToAsk greater s t ss ts = (¬ (s ≡ t)) × ((s ≻ t) ↔ ExceedsAll s ts)

module _ (nodes stored_sizes values : List ℕ) where
  -- Some term stands at node `i`; some terms stand in the row.
  pub record HasTerm (i : ℕ) : Type 0 where
    pub term : Term
    pub denotes : TermAt nodes stored_sizes values i term

  pub record HasTerms (row : Arguments) : Type 0 where
    pub terms : Terms
    pub denote : TermsAt nodes stored_sizes values row.from row.end terms

  -- Some of a term's arguments stand in the row.
  pub record HasArguments (i : ℕ) (row : Arguments) : Type 0 where
    pub here : HasTerm i
    pub those : HasTerms row
    pub fewer : sizes those.terms < size here.term

  pub record Compares (i j : ℕ) (r : Verdict) : Type 0 where
    pub is : (s t : Term) → TermAt nodes stored_sizes values i s → TermAt nodes stored_sizes values j t → r ≡ verdict s t

  -- L1: "some si > t or si = t"
  pub record FindsReaching (row : Arguments) (j : ℕ) (r : Bool) : Type 0 where
    pub tells : (ss : Terms) (t : Term) → TermsAt nodes stored_sizes values row.from row.end ss → TermAt nodes stored_sizes values j t → (r ≡ true) ↔ SomeReaches ss t

  -- L2: "s > tj for every j"
  pub record ComparesWithAll (i : ℕ) (row : Arguments) (r : Bool) : Type 0 where
    pub tells : (s : Term) (ts : Terms) → TermAt nodes stored_sizes values i s → TermsAt nodes stored_sizes values row.from row.end ts → (r ≡ true) ↔ ExceedsAll s ts

  -- L3: "f = g and for some k, si = ti for i < k"
  pub record FindsDifference (i j : ℕ) (d : Difference) : Type 0 where
    pub first : HasArguments i d.first
    pub second : HasArguments j d.second
    pub second_low : position_count ≤ d.second.from
    pub left : LeftToAsk d.verdict first.here.term second.here.term first.those.terms second.those.terms

-- What is told of the terms at two nodes is their verdict, whatever the values of the variables are.
abbrev pub TellsConstants : (nodes sizes : List ℕ) (i j : ℕ) → Option Verdict → Type 0
TellsConstants nodes sizes i j r = IfSome r (λ v. (values : List ℕ) → Compares nodes sizes values i j v)
