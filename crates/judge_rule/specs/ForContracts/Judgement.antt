-- A judgement as the code has it: the values of a task, and the kept lines of its direction.
use Rattle.std.specs.Prelude.{Result, Ok, Err, ℕ, ◌+◌, ◌≤◌, ◌<◌, ◌≡◌, List, length, get_or}
use Rattle.std.proofs.Math.Option.{none, some}
use Rattle.format.specs.Limits.{variable_count, position_count}
use Rattle.format.specs.Lists.{entry}
use Rattle.terms.specs.Term.{Terms, count}
use Rattle.terms.specs.Equation.{Equation}
use Rattle.terms.specs.declared.direction.Direction.{Direction}
use Rattle.terms.specs.ForContracts.Stored.{GroundStored}
use Rattle.sheet.specs.Sheet.{equation_width}
use Rattle.solving.specs.Line.{Line}
use Rattle.solving.specs.Walk.{solved, solve}
use Rattle.reducing.specs.Test.{given_values}
use Rattle.reducing.specs.ForContracts.Rules.{rule_number}
use Rattle.reducing.specs.Walks.{equation_line, first_refusal}
use Rattle.kept_lines.specs.declared.trimmed.KeptLines.{KeptLines}
use Rattle.reading.specs.ForContracts.Loading.{Loaded}
use Rattle.rules.specs.ForContracts.Rows.{RuleIs}
use Rattle.rules.specs.ForContracts.Lines.{ProperLines, LinesAt}
use Rattle.rules.specs.declared.walks.RefusedWalk.{RefusedWalk}

-- Each variable up to the last that has a value has the node of its value; the others have none.
pub record ValuesAt (arities nodes sizes values : List ℕ) (ts : Terms) : Type 0 where
  pub slots : length values ≡ variable_count
  pub given : (v : ℕ) → v < count ts → GroundStored nodes sizes arities (get_or values v 0) (given_values ts v)
  pub absent : (v : ℕ) → count ts ≤ v → get_or values v 0 ≡ 0

-- Some values, at most one for each variable, stand from the subject's first node to `end`.
pub record HasLoaded (sizes : List ℕ) (end : ℕ) : Type 0 where
  pub arities : List ℕ
  pub nodes : List ℕ
  pub terms : Terms
  pub size_of : ℕ
  pub loaded : Loaded arities nodes sizes terms size_of
  pub few : count terms ≤ variable_count
  pub ends : end ≡ position_count + size_of

module _ (equations lengths : List ℕ) (rule : ℕ) (table : List ℕ) (lines : KeptLines) (nodes sizes : List ℕ) (n : ℕ) where
  pub record JudgeIs (arities : List ℕ) (i : ℕ) (e : Equation) (d : Direction) (ls : List Line) (ts : Terms) : Type 0 where
    pub rule_is : RuleIs equations lengths arities rule i e d
    pub proper : ProperLines e ls
    pub there : LinesAt table lines ls
    pub loaded : Loaded arities nodes sizes ts n
    pub one_each : count ts ≡ equation_width e

  pub record HasJudge : Type 0 where
    pub arities : List ℕ
    pub number : ℕ
    pub equation : Equation
    pub direction : Direction
    pub kept : List Line
    pub terms : Terms
    pub is : JudgeIs arities number equation direction kept terms

-- A walk is refused; or all solve, and the lines of the judged rule are kept from the front of the table.
abbrev pub JudgedAs : List Equation → (rule : ℕ) (table : List ℕ) → Result ℕ RefusedWalk → Type 0
JudgedAs es rule table (Err stopped) = first_refusal 0 es ≡ some (record { refusal = stopped.why; line = equation_line stopped.equation })
JudgedAs es rule table (Ok end) =
    (first_refusal 0 es ≡ none)
    × ((i : ℕ) (e : Equation) (d : Direction) → entry es i ≡ some e → rule ≡ rule_number i d
    → (ls : List Line) × (turns : ℕ) × (solve e d ≡ solved ls turns) × ProperLines e ls × LinesAt table (record { from = 0; end = end }) ls)
