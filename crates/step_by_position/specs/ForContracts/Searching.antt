-- What the search for a step asks and answers.
use Rattle.std.specs.Prelude.{ℕ, ◌+◌, ◌<◌, ◌≡◌, List, Option, Some, None}
use Rattle.std.proofs.Math.Option.{none, some}
use Rattle.format.specs.Limits.{position_count}
use Rattle.format.specs.Lists.{entry}
use Rattle.terms.specs.Term.{Term, size}
use Rattle.terms.specs.Filling.{filling}
use Rattle.terms.specs.Equation.{Equation}
use Rattle.terms.specs.declared.direction.Direction.{Direction}
use Rattle.reducing.specs.Run.{Step, try, step}
use Rattle.reducing.specs.Test.{line_test}
use Rattle.reducing.specs.ForContracts.Rules.{rule_number}
use Rattle.reducing.specs.ForContracts.Part.{part_at}
use Rattle.step_by_position.specs.declared.positions.FoundStep.{FoundStep}

-- The step that a search finds is that of the definition.
pub record StepAt (arities : List ℕ) (es : List Equation) (subject : Term) (rule node : ℕ) : Type 0 where
  pub number : ℕ
  pub equation : Equation
  pub direction : Direction
  pub position : ℕ
  pub this : Step
  pub rule_is : rule ≡ rule_number number direction
  pub node_is : node ≡ position_count + position
  pub inside : position < size subject
  pub numbered : entry es number ≡ some equation
  pub possible : try (filling arities) line_test subject position (part_at subject position) number equation direction ≡ some this
  pub first : step (filling arities) line_test es subject ≡ some this

abbrev pub FoundIs : (arities : List ℕ) → List Equation → Term → Option FoundStep → Type 0
FoundIs arities es subject None = step (filling arities) line_test es subject ≡ none
FoundIs arities es subject (Some found) = StepAt arities es subject found.rule found.node
