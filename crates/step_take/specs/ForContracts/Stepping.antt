-- A step that is possible, as the code has it.
use Rattle.std.specs.Prelude.{ℕ, ◌+◌, ◌<◌, ◌≡◌, List}
use Rattle.std.proofs.Math.Option.{some}
use Rattle.format.specs.Limits.{position_count}
use Rattle.terms.specs.Term.{Term, size}
use Rattle.terms.specs.Filling.{filling}
use Rattle.terms.specs.Equation.{Equation}
use Rattle.terms.specs.declared.direction.Direction.{Direction}
use Rattle.terms.specs.ForContracts.Stored.{SubjectIs}
use Rattle.reducing.specs.Run.{Step, try}
use Rattle.reducing.specs.Test.{line_test}
use Rattle.reducing.specs.ForContracts.Part.{part_at}
use Rattle.rules.specs.ForContracts.Rows.{RuleIs}

-- A step that is possible: the rule at the node of position `p` of a subject of `n` nodes.
module _ (equations lengths : List ℕ) (rule : ℕ) (arities nodes sizes : List ℕ) (node n : ℕ) where
  pub record StepIs (i : ℕ) (e : Equation) (d : Direction) (subject : Term) (p : ℕ) (s : Step) : Type 0 where
    pub rule_is : RuleIs equations lengths arities rule i e d
    pub subject_is : SubjectIs nodes sizes arities subject
    pub counted : n ≡ size subject
    pub inside : p < size subject
    pub there : node ≡ position_count + p
    pub possible : try (filling arities) line_test subject p (part_at subject p) i e d ≡ some s

  pub record HasStep : Type 0 where
    pub number : ℕ
    pub equation : Equation
    pub direction : Direction
    pub subject : Term
    pub position : ℕ
    pub this : Step
    pub is : StepIs number equation direction subject position this
