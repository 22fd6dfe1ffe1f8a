-- A rule tried at a node of the subject.
use Rattle.std.specs.Prelude.{ℕ, ◌+◌, ◌<◌, ◌≡◌, Bool, true, false, List}
use Rattle.std.proofs.Math.Option.{none, some}
use Rattle.format.specs.Limits.{position_count}
use Rattle.terms.specs.Term.{Term, size}
use Rattle.terms.specs.Equation.{Equation, source}
use Rattle.terms.specs.declared.direction.Direction.{Direction}
use Rattle.terms.specs.ForContracts.Stored.{SubjectIs}
use Rattle.solving.specs.Line.{Line}
use Rattle.reducing.specs.Match.{Match, no_match, match, values_of}
use Rattle.reducing.specs.Run.{Step, try}
use Rattle.reducing.specs.Test.{line_test}
use Rattle.reducing.specs.ForContracts.Part.{part_at}
use Rattle.cells.specs.ForContracts.Cells.{SettledCells}
use Rattle.step_match.specs.ForContracts.Matching.{MatchIs}
use Rattle.kept_lines.specs.declared.trimmed.KeptLines.{KeptLines}
use Rattle.rules.specs.ForContracts.Rows.{RuleIs}
use Rattle.rules.specs.ForContracts.Lines.{RuleLines, LinesAt}

-- The cells are settled for some values of the variables.
pub record Settled (nodes sizes ready cells : List ℕ) : Type 0 where
  pub values : List ℕ
  pub are : SettledCells nodes sizes values ready cells

-- The rule can step at position `p`, or cannot.
pub record Applies (filling subject : Term) (p i : ℕ) (e : Equation) (d : Direction) (r : Bool) : Type 0 where
  pub can : r ≡ true → (s : Step) × (try filling line_test subject p (part_at subject p) i e d ≡ some s)
  pub cannot : r ≡ false → try filling line_test subject p (part_at subject p) i e d ≡ none

-- A rule with its kept lines, and a node of the subject.
module _ (equations lengths : List ℕ) (rule : ℕ) (table : List ℕ) (lines : KeptLines) (nodes sizes : List ℕ) where
  pub record TryIs (node : ℕ) (arities : List ℕ) (i : ℕ) (e : Equation) (d : Direction) (subject : Term) (p : ℕ) : Type 0 where
    pub rule_is : RuleIs equations lengths arities rule i e d
    pub kept : List Line
    pub kept_are : RuleLines e d kept
    pub kept_there : LinesAt table lines kept
    pub subject_is : SubjectIs nodes sizes arities subject
    pub inside : p < size subject
    pub there : node ≡ position_count + p

  pub record HasTry (node : ℕ) : Type 0 where
    pub arities : List ℕ
    pub number : ℕ
    pub equation : Equation
    pub direction : Direction
    pub subject : Term
    pub position : ℕ
    pub is : TryIs node arities number equation direction subject position

  -- The rule's source matches some part of the subject, and `values` has what the variables met, and the filling for those that met nothing.
  pub record MatchedTry (values arities : List ℕ) (i : ℕ) (e : Equation) (d : Direction) (subject : Term) (m : Match) : Type 0 where
    pub rule_is : RuleIs equations lengths arities rule i e d
    pub kept : List Line
    pub kept_are : RuleLines e d kept
    pub kept_there : LinesAt table lines kept
    pub subject_is : SubjectIs nodes sizes arities subject
    pub part : Term
    pub matches : match (source e d) part no_match ≡ some m
    pub met : MatchIs nodes sizes arities m values

  pub record HasMatchedTry (values : List ℕ) : Type 0 where
    pub arities : List ℕ
    pub number : ℕ
    pub equation : Equation
    pub direction : Direction
    pub subject : Term
    pub found : Match
    pub is : MatchedTry values arities number equation direction subject found

-- Whether one of the rule's lines holds at the match, with the filling for variables that met nothing.
abbrev pub LinesTell : (filling : Term) → Equation → Direction → Match → Bool → Type 0
LinesTell filling e d m r = line_test e d (values_of filling m) ≡ r
