-- The number of the line that holds at the values of a judgement.
use Rattle.solving.specs.ForContracts.Told.{LineTold}
use Rattle.std.specs.Prelude.{ℕ, ◌≤◌, ◌≡◌, refl, List, Option}
use Rattle.std.proofs.Math.Path.{sym}
use Rattle.std.proofs.Common.{subst, ap, ◌∙◌, arith}
use Rattle.format.specs.Limits.{max_lines}
use Rattle.terms.specs.Term.{Terms}
use Rattle.terms.specs.Equation.{Equation, value}
use Rattle.terms.specs.declared.direction.Direction.{Direction}
use Rattle.solving.specs.Judge.{first_holding}
use Rattle.solving.proofs.Theory.Solve.{solved_line_count}
use Rattle.solving.specs.Theory.Judge.{first_holding_low}
use Rattle.reducing.specs.Test.{holding_in, holding_line, given_values}
use Rattle.scanning.specs.declared.known.Known.{Known}
use Rattle.judge_task.specs.ForContracts.JudgeTask.{ValuesIn}

module _ {sheet : List ℕ} {known : Known} {from end : ℕ} {equations lengths : List ℕ} {rule : ℕ} {table : List ℕ} {filled i : ℕ} {e : Equation} {d : Direction} {ts : Terms}
    (v : ValuesIn sheet known from end equations lengths rule table filled i e d ts) where
  pub values_hold : {r : ℕ} → r ≡ first_holding (given_values ts) (value e (given_values ts)) v.kept → r ≡ holding_line e d (given_values ts)
  unfolding holding_line holding_in
  values_hold h = h ∙ sym (ap (holding_in e (given_values ts)) v.solves)

  pub holding_few : {r : ℕ} → r ≡ holding_line e d (given_values ts) → r ≤ max_lines
  holding_few h =
      let same = values_hold {r = first_holding (given_values ts) (value e (given_values ts)) v.kept} refl in
      omega (arith, h, same, first_holding_low (given_values ts) (value e (given_values ts)) v.kept, solved_line_count e v.rule_is.row.limits d v.kept v.turns v.solves)

  pub values_told : (told : Option ℕ) → LineTold told (first_holding (given_values ts) (value e (given_values ts)) v.kept) → LineTold told (holding_line e d (given_values ts))
  values_told told t = subst (LineTold told) (values_hold refl) t
