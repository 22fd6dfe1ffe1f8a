-- The search rule by rule.
use Rattle.std.specs.Prelude.{ℕ, ◌+◌, ◌*◌, ◌≤◌, ◌<◌, ◌≡◌, List, length, Option, Some, None}
use Rattle.std.proofs.Math.Option.{none, some}
use Rattle.format.specs.Limits.{position_count}
use Rattle.terms.specs.Term.{Term, size}
use Rattle.terms.specs.Filling.{filling}
use Rattle.terms.specs.Equation.{Equation}
use Rattle.terms.specs.declared.direction.Direction.{Direction}
use Rattle.terms.specs.ForContracts.Stored.{SubjectIs}
use Rattle.terms.specs.declared.arguments.Arguments.{Arguments}
use Rattle.solving.specs.Line.{Line}
use Rattle.solving.specs.Walk.{Solves}
use Rattle.reducing.specs.Match.{no_match, match}
use Rattle.reducing.specs.Run.{Step, try}
use Rattle.reducing.specs.Test.{line_test, EverySolves}
use Rattle.reducing.specs.ForContracts.Part.{part_at}
use Rattle.kept_lines.specs.declared.trimmed.KeptLines.{KeptLines}
use Rattle.rules.specs.ForContracts.Rows.{RuleIs, RowsAre, SideIs}
use Rattle.rules.specs.ForContracts.Lines.{RuleLines, LinesAt}

-- Before node `r` the side matches no part of the subject.
pub record MatchesFrom (s subject : Term) (end r : ℕ) : Type 0 where
  pub within : r ≤ end
  pub low : position_count ≤ r
  pub none_before : (p : ℕ) → position_count + p < r → match s (part_at subject p) no_match ≡ none

-- The first node before `end` at which the side matches.
abbrev pub FirstMatch : (s subject : Term) (end : ℕ) → Option ℕ → Type 0
FirstMatch s subject end None = MatchesFrom s subject end end
FirstMatch s subject end (Some node) = (node < end) × MatchesFrom s subject end node

-- A side and a subject; the nodes before `end` are the subject's.
module _ (equations : List ℕ) (side : Arguments) (nodes sizes : List ℕ) (end : ℕ) where
  pub record SourceIs (arities : List ℕ) (s subject : Term) : Type 0 where
    pub lengths : List ℕ
    pub side_is : SideIs equations lengths arities side s
    pub subject_is : SubjectIs nodes sizes arities subject
    pub low : position_count ≤ end
    pub inside : end ≤ position_count + size subject

  pub record HasSource : Type 0 where
    pub arities : List ℕ
    pub pattern : Term
    pub subject : Term
    pub is : SourceIs arities pattern subject

-- The first node before `end` at which a rule can step; `end` if there is none.
pub record FirstFor (arities : List ℕ) (subject : Term) (i : ℕ) (e : Equation) (d : Direction) (end r : ℕ) : Type 0 where
  pub within : r ≤ end
  pub none_before : (p : ℕ) → position_count + p < r → try (filling arities) line_test subject p (part_at subject p) i e d ≡ none
  pub can : r < end → (p : ℕ) × (s : Step) × (r ≡ position_count + p) × (try (filling arities) line_test subject p (part_at subject p) i e d ≡ some s)

abbrev pub FirstStep : (arities : List ℕ) (subject : Term) (i : ℕ) (e : Equation) (d : Direction) (end : ℕ) → Option ℕ → Type 0
FirstStep arities subject i e d end None = FirstFor arities subject i e d end end
FirstStep arities subject i e d end (Some node) = (node < end) × FirstFor arities subject i e d end node

-- A rule with its kept lines, which cannot step before `from`.
module _ (equations lengths : List ℕ) (rule : ℕ) (table : List ℕ) (lines : KeptLines) (nodes sizes : List ℕ) (from end : ℕ) where
  pub record KeptTry (arities : List ℕ) (i : ℕ) (e : Equation) (d : Direction) (subject : Term) : Type 0 where
    pub rule_is : RuleIs equations lengths arities rule i e d
    pub kept : List Line
    pub kept_are : RuleLines e d kept
    pub kept_there : LinesAt table lines kept
    pub subject_is : SubjectIs nodes sizes arities subject
    pub low : position_count ≤ from
    pub ordered : from ≤ end
    pub inside : end ≤ position_count + size subject
    pub none_before : (p : ℕ) → position_count + p < from → try (filling arities) line_test subject p (part_at subject p) i e d ≡ none

  pub record HasKeptTry : Type 0 where
    pub arities : List ℕ
    pub number : ℕ
    pub equation : Equation
    pub direction : Direction
    pub subject : Term
    pub is : KeptTry arities number equation direction subject

-- A rule whose walk solves.
module _ (equations lengths : List ℕ) (rule : ℕ) (nodes sizes : List ℕ) (end : ℕ) where
  pub record UnkeptTry (arities : List ℕ) (i : ℕ) (e : Equation) (d : Direction) (subject : Term) : Type 0 where
    pub rule_is : RuleIs equations lengths arities rule i e d
    pub solves : Solves e d
    pub subject_is : SubjectIs nodes sizes arities subject
    pub low : position_count ≤ end
    pub inside : end ≤ position_count + size subject

  pub record HasUnkeptTry : Type 0 where
    pub arities : List ℕ
    pub number : ℕ
    pub equation : Equation
    pub direction : Direction
    pub subject : Term
    pub is : UnkeptTry arities number equation direction subject

-- The rules of equations that all solve.
module _ (equations lengths : List ℕ) (rules : ℕ) (nodes sizes : List ℕ) (n : ℕ) where
  pub record AllSolve (arities : List ℕ) (es : List Equation) (subject : Term) : Type 0 where
    pub rows : RowsAre equations lengths arities es
    pub counted : rules ≡ 2 * length es
    pub solve : EverySolves es
    pub subject_is : SubjectIs nodes sizes arities subject
    pub size_is : n ≡ size subject

  pub record HasAllSolve : Type 0 where
    pub arities : List ℕ
    pub those : List Equation
    pub subject : Term
    pub are : AllSolve arities those subject
