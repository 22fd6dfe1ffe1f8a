-- The walks of all rules in order, and their kept lines.
use Rattle.std.specs.Prelude.{ℕ, suc, ◌+◌, ◌≤◌, ◌<◌, ◌≡◌, List, Bool, true, false, length, get_or, drop, Option, Some, None, Result, Ok, Err}
use Rattle.std.proofs.Math.Option.{none, some}
use Rattle.format.specs.declared.refusal.Refusal.{Refusal}
use Rattle.format.specs.Limits.{table_bytes}
use Rattle.format.specs.Lists.{entry}
use Rattle.terms.specs.Equation.{Equation}
use Rattle.terms.specs.declared.direction.Direction.{Direction}
use Rattle.solving.specs.Line.{Line}
use Rattle.solving.specs.Walk.{refused, solve, Solves}
use Rattle.line_bytes.specs.ForContracts.Layout.{placed}
use Rattle.reducing.specs.Test.{EverySolves}
use Rattle.reducing.specs.ForContracts.Rules.{rule_number}
use Rattle.reducing.specs.Walks.{equation_line, first_refusal}
use Rattle.kept_lines.specs.ForContracts.Trimmed.{trimmed_lines}
use Rattle.rules.specs.declared.walks.RefusedWalk.{RefusedWalk}
use Rattle.rules.specs.ForContracts.Lines.{RuleLines, LinesAt}

-- The lines of a rule are kept from `start` on. From the front of the table there is always room for the lines of one rule.
abbrev pub RuleKeptAs : Equation → Direction → (start : ℕ) (before after : List ℕ) → Result (Option ℕ) Refusal → Type 0
RuleKeptAs e d start before after (Err why) = (solve e d ≡ refused why) × (after ≡ before)
RuleKeptAs e d start before after (Ok None) = Solves e d × (0 < start) × (drop table_bytes after ≡ drop table_bytes before)
RuleKeptAs e d start before after (Ok (Some end)) =
    Solves e d × (ls : List Line) × RuleLines e d ls × (end ≡ start + length (trimmed_lines ls)) × (end ≤ table_bytes) × (after ≡ placed start (trimmed_lines ls) before)

-- The lines of rule `k` stand from bound `k` to bound `k` + 1.
pub record RuleAt (bounds table : List ℕ) (k : ℕ) (e : Equation) (d : Direction) : Type 0 where
  pub lines : List Line
  pub are : RuleLines e d lines
  pub there : LinesAt table (record { from = get_or bounds k 0; end = get_or bounds (suc k) 0 }) lines

abbrev pub RulesAt : (bounds table : List ℕ) → List Equation → Type 0
RulesAt bounds table es = (i : ℕ) (e : Equation) (d : Direction) → entry es i ≡ some e → RuleAt bounds table (rule_number i d) e d

-- A walk is refused; or all solve, and their lines are kept, or do not fit together.
abbrev pub WalksAs : List Equation → (bounds table : List ℕ) → Result Bool RefusedWalk → Type 0
WalksAs es bounds table (Err stopped) = first_refusal 0 es ≡ some (record { refusal = stopped.why; line = equation_line stopped.equation })
WalksAs es bounds table (Ok false) = (first_refusal 0 es ≡ none) × EverySolves es
WalksAs es bounds table (Ok true) = (first_refusal 0 es ≡ none) × EverySolves es × RulesAt bounds table es

-- All rules solve; where their lines fit the table together they are kept there.
abbrev pub LinesReady : Bool → (bounds table : List ℕ) → List Equation → Type 0
LinesReady true bounds table es = RulesAt bounds table es
LinesReady false bounds table es = EverySolves es
