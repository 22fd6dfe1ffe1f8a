-- The walk of a judged rule, and its kept lines.
use Prim.Native.Nat.{ℕ, ◌≤◌}
use mathlib.Core.Path.{◌≡◌, sym, ◌∙◌}
use mathlib.Core.List.{List}
use native.Mathlib.Omega.{arith}
use lib.ListN.{length}
use Rattle.format.specs.Limits.{table_bytes}
use Rattle.format.specs.declared.refusal.Refusal.{Refusal}
use Rattle.terms.specs.Term.{Terms}
use Rattle.terms.specs.Equation.{Equation}
use Rattle.terms.specs.declared.direction.Direction.{Direction}
use Rattle.scanning.specs.declared.known.Known.{Known}
use Rattle.scanning.specs.ForContracts.Scan.{known_arities}
use Rattle.solving.specs.Line.{Line}
use Rattle.solving.specs.Walk.{solve}
use Rattle.std.specs.Prelude.{Option as Maybe, Some, None, Result, Ok, Err}
use Rattle.solve_equation.specs.declared.positions.Solved.{Solved}
use Rattle.solve_equation.specs.ForContracts.Reports.{Leaves}
use Rattle.kept_lines.specs.ForContracts.Trimmed.{RecordsAre, HasRecords, KeptAs}
use Rattle.rules.specs.ForContracts.Rows.{RuleIs, HasRuleIn}
use Rattle.rules.specs.Theory.Kept.{leaves_refused, records_there}
use Rattle.rules.specs.Theory.Front.{front_fits, front_kept}
use Rattle.judge_task.specs.ForContracts.JudgeTask.{ValuesIn, HasValues}
use Rattle.tasks.specs.ForContracts.Task.{JudgementAt}

module _ {sheet : List ℕ} {known : Known} {from end : ℕ} {equations lengths : List ℕ} {rule i : ℕ} {e : Equation} {d : Direction} {ts : Terms}
    (j : JudgementAt sheet known from end equations lengths rule i e d ts) where
  module _ {memory : List ℕ} {told : Result Solved Refusal} (leaves : (arities : List ℕ) (i : ℕ) (e : Equation) (d : Direction) → RuleIs equations lengths arities rule i e d → Leaves (solve e d) memory told) where
    its_walk : Leaves (solve e d) memory told
    its_walk = leaves (known_arities known) i e d j.rule_is

    pub never_refused : {why : Refusal} → told ≡ Err why → ⊥
    never_refused h = let x = sym (leaves_refused its_walk h) ∙ j.solves.walked in let z : ◌≡◌ {A = ℕ} 0 1 = cc in omega arith

    module _ {walked : Solved} (solved : told ≡ Ok walked) where
      pub records_has : HasRecords memory walked.lines
      records_has = record { kept = _; are = records_there j.rule_is.row.limits d its_walk solved }

      module _ (table : List ℕ) (room : table_bytes ≤ length table) (table' : List ℕ) (kept : Maybe ℕ) (keeps : (ls : List Line) → RecordsAre memory walked.lines ls → KeptAs ls 0 table table' kept) where
        pub never_full : kept ≡ None → ⊥
        never_full x = front_fits j.rule_is.row.limits d its_walk solved table room table' kept keeps x

        pub values_kept : {filled : ℕ} → kept ≡ Some filled → ValuesIn sheet known from end equations lengths rule table' filled i e d ts
        values_kept x =
            let (ls, turns, solves, proper, there) = front_kept j.rule_is.row.limits d its_walk solved table room table' kept keeps x in
            record {
              rule_is = j.rule_is;
              kept = ls;
              turns = turns;
              solves = solves;
              proper = proper;
              there = there;
              terms_in = j.terms_in;
              one_each = j.one_each;
              roomy = j.roomy;
            }

        pub values_has : {filled : ℕ} → kept ≡ Some filled → HasValues sheet known from end equations lengths rule table' filled
        values_has x = record { number = i; equation = e; direction = d; terms = ts; are = values_kept x }
