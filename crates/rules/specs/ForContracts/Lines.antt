-- What is kept of a rule: lines that hold at a match exactly if the rule can step there.
use Rattle.std.specs.Prelude.{ℕ, ◌+◌, ◌≤◌, ◌≡◌, ◌⊎◌, List, [], ◌∷◌, length, ltb}
use Rattle.std.proofs.Math.Seq.{slice}
use Rattle.format.specs.Limits.{table_bytes}
use Rattle.terms.specs.Term.{Values}
use Rattle.terms.specs.Position.{Node, var_node}
use Rattle.terms.specs.Equation.{Equation, view, value}
use Rattle.terms.specs.declared.direction.Direction.{Direction}
use Rattle.terms.specs.ForContracts.Limits.{positions}
use Rattle.solving.specs.Line.{Element, equal, greater, Line, line}
use Rattle.solving.specs.Judge.{first_holding}
use Rattle.solving.specs.ForContracts.Written.{WrittenLines}
use Rattle.reducing.specs.Test.{line_test}
use Rattle.kept_lines.specs.declared.trimmed.KeptLines.{KeptLines}
use Rattle.kept_lines.specs.ForContracts.Trimmed.{trimmed_lines}

-- A variable stands at one of the two positions of each element.
abbrev pub VariableAt : (ℕ → Node) → ℕ → Type 0
VariableAt view p = (v : ℕ) × (view p ≡ var_node v)

abbrev pub HaveVariable : (ℕ → Node) → List Element → Type 0
HaveVariable view [] = Unit {0}
HaveVariable view (equal p q ∷ es) = ⊥
HaveVariable view (greater p q ∷ es) = (VariableAt view p ⊎ VariableAt view q) × HaveVariable view es

abbrev pub AllHaveVariable : (ℕ → Node) → List Line → Type 0
AllHaveVariable view [] = Unit {0}
AllHaveVariable view (line θ es ∷ ls) = HaveVariable view es × AllHaveVariable view ls

-- Lines that the test can go by: their positions are the equation's, and an irreducible inequality has a variable.
pub record ProperLines (e : Equation) (ls : List Line) : Type 0 where
  pub written : WrittenLines (positions e) ls
  pub irreducible : AllHaveVariable (view e) ls

-- The lines of a rule.
pub record RuleLines (e : Equation) (d : Direction) (ls : List Line) : Type 0 where
  pub proper : ProperLines e ls
  pub tests : (ρ : Values) → line_test e d ρ ≡ ltb 0 (first_holding ρ (value e ρ) ls)

-- These lines are kept here.
pub record LinesAt (table : List ℕ) (kept : KeptLines) (ls : List Line) : Type 0 where
  pub ends : kept.end ≡ kept.from + length (trimmed_lines ls)
  pub room : kept.end ≤ table_bytes
  pub table_room : table_bytes ≤ length table
  pub there : slice kept.from kept.end table ≡ trimmed_lines ls
