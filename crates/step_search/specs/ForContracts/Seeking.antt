-- What the search for a step goes by.
use Rattle.std.specs.Prelude.{ℕ, ◌*◌, ◌≡◌, Bool, true, List, length}
use Rattle.terms.specs.Term.{Term, size}
use Rattle.terms.specs.Equation.{Equation}
use Rattle.terms.specs.ForContracts.Stored.{SubjectIs}
use Rattle.rules.specs.ForContracts.Rows.{RowsAre, bound_count}
use Rattle.rules.specs.ForContracts.Walks.{LinesReady}
use Rattle.step_by_position.specs.ForContracts.Next.{NextIs}

-- All rules solve; where their lines fit the table together they are kept there, and the table of next rules goes by them.
pub record RulesReady (rules : ℕ) (bounds next : List ℕ) (fits : Bool) (table : List ℕ) (es : List Equation) : Type 0 where
  pub lines : LinesReady fits bounds table es
  pub bounds_length : length bounds ≡ bound_count
  pub next_is : fits ≡ true → NextIs next rules es

module _ (equations lengths : List ℕ) (rules : ℕ) (bounds next : List ℕ) (fits : Bool) (table nodes sizes : List ℕ) (n : ℕ) where
  pub record RunIs (arities : List ℕ) (es : List Equation) (subject : Term) : Type 0 where
    pub rows : RowsAre equations lengths arities es
    pub counted : rules ≡ 2 * length es
    pub ready : RulesReady rules bounds next fits table es
    pub subject_is : SubjectIs nodes sizes arities subject
    pub size_is : n ≡ size subject

  pub record HasRun : Type 0 where
    pub arities : List ℕ
    pub those : List Equation
    pub subject : Term
    pub is : RunIs arities those subject
