-- The tasks of an accepted sheet that judge answers.
use Rattle.std.specs.Prelude.{ℕ, ◌≤◌, ◌≡◌, List, length, Result, Ok, Err}
use Rattle.std.proofs.Math.Option.{some}
use Rattle.format.specs.Limits.{max_equations}
use Rattle.format.specs.Lists.{entry}
use Rattle.terms.specs.Term.{Terms, count, Values}
use Rattle.terms.specs.Equation.{Equation}
use Rattle.terms.specs.declared.direction.Direction.{Direction}
use Rattle.sheet.specs.Sheet.{judgement, equation_width}
use Rattle.scanning.specs.declared.known.Known.{Known}
use Rattle.scanning.specs.ForContracts.Scan.{known_arities}
use Rattle.scanning.specs.ForContracts.Known.{Roomy}
use Rattle.reading.specs.ForContracts.Seek.{Accepts, TaskIn, Spans, task_terms}
use Rattle.reading.specs.ForContracts.Loading.{TermsIn}
use Rattle.solving.specs.Line.{Line}
use Rattle.solving.specs.Walk.{solved, solve}
use Rattle.reducing.specs.Test.{holding_line}
use Rattle.reducing.specs.ForContracts.Rules.{rule_number}
use Rattle.reducing.specs.Walks.{equation_line}
use Rattle.outcomes.specs.Buffer.{refusal_number}
use Rattle.outcomes.specs.Outcome.{judge_fields}
use Rattle.rules.specs.declared.walks.RefusedWalk.{RefusedWalk}
use Rattle.judge_rule.specs.ForContracts.Judgement.{JudgedAs}
use Rattle.rules.specs.ForContracts.Rows.{RuleIs}
use Rattle.rules.specs.ForContracts.Lines.{ProperLines, LinesAt}

-- The values of a judgement, and the kept lines of its rule.
module _ (sheet : List ℕ) (known : Known) (from end : ℕ) (equations lengths : List ℕ) (rule : ℕ) (table : List ℕ) (filled : ℕ) where
  pub record ValuesIn (i : ℕ) (e : Equation) (d : Direction) (ts : Terms) : Type 0 where
    pub rule_is : RuleIs equations lengths (known_arities known) rule i e d
    pub kept : List Line
    pub turns : ℕ
    pub solves : solve e d ≡ solved kept turns
    pub proper : ProperLines e kept
    pub there : LinesAt table (record { from = 0; end = filled }) kept
    pub terms_in : TermsIn sheet (known_arities known) from end ts
    pub one_each : count ts ≡ equation_width e
    pub roomy : Roomy known

  pub record HasValues : Type 0 where
    pub number : ℕ
    pub equation : Equation
    pub direction : Direction
    pub terms : Terms
    pub are : ValuesIn number equation direction terms

-- The values of a judgement, and what the walks of all rules gave.
module _ (sheet : List ℕ) (known : Known) (from end : ℕ) (equations lengths : List ℕ) (rule : ℕ) (judged : Result ℕ RefusedWalk) (table : List ℕ) where
  pub record JudgedIn (es : List Equation) (i : ℕ) (e : Equation) (d : Direction) (ts : Terms) : Type 0 where
    pub few : length es ≤ max_equations
    pub numbered : entry es i ≡ some e
    pub rule_is : RuleIs equations lengths (known_arities known) rule i e d
    pub walked : JudgedAs es rule table judged
    pub terms_in : TermsIn sheet (known_arities known) from end ts
    pub one_each : count ts ≡ equation_width e
    pub roomy : Roomy known

  pub record HasJudged : Type 0 where
    pub those : List Equation
    pub number : ℕ
    pub equation : Equation
    pub direction : Direction
    pub terms : Terms
    pub are : JudgedIn those number equation direction terms

-- The number that is returned: the refusal of a walk, or "1 or 0, first holding line counted from 1 or 0".
abbrev pub JudgedNumber : Result ℕ RefusedWalk → Equation → Direction → Values → (r : ℕ) → Type 0
JudgedNumber (Err stopped) e d ρ r = r ≡ refusal_number stopped.why (equation_line stopped.equation)
JudgedNumber (Ok filled) e d ρ r = r ≡ judge_fields (holding_line e d ρ)

-- Task `task` is a judgement of this rule, and the digits from `from` to `end` write its values.
module _ (sheet : List ℕ) (known : Known) (rule from end : ℕ) where
  pub record JudgementIn (task : ℕ) : Type 0 where
    pub accepts : Accepts sheet known
    pub number : ℕ
    pub direction : Direction
    pub terms : Terms
    pub is_task : TaskIn sheet task (judgement number direction terms)
    pub is_rule : rule ≡ rule_number number direction
    pub spans : Spans sheet from end (task_terms (judgement number direction terms))

  pub record HasJudgement : Type 0 where
    pub task : ℕ
    pub is : JudgementIn task
