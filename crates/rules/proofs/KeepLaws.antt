-- The walk of a rule over its equation's row, and the lines that are kept of it.
use Prim.Native.Nat.{ℕ, ◌+◌, ◌*◌, ◌%◌, ◌≤◌}
use mathlib.Core.Path.{◌≡◌, refl, sym, ap, subst, ◌∙◌}
use mathlib.Core.Option.{some}
use mathlib.Core.List.{List, ◌++◌}
use native.Mathlib.Omega.{arith}
use lib.ListN.{length}
use lib.Seq.{take-append-le}
use lib.Dec.{ltb}
use Rattle.format.specs.Limits.{record_bytes, table_bytes}
use Rattle.terms.specs.Term.{Values}
use Rattle.terms.specs.Equation.{Equation, direction_number, direction_of, value}
use Rattle.terms.specs.declared.direction.Direction.{Direction}
use Rattle.terms.specs.declared.direction.Direction.TheVariants.{LeftRight as left_right, RightLeft as right_left}
use Rattle.terms.specs.ForContracts.Limits.{WithinLimits}
use Rattle.solving.specs.Line.{Line}
use Rattle.solving.specs.Walk.{Walked, solve, Solves, refused}
use Rattle.solving.specs.Judge.{first_holding}
use Rattle.walking.specs.ForContracts.Walking.{memory_bytes}
use Rattle.line_bytes.specs.ForContracts.Layout.{placed}
use Rattle.std.specs.Prelude.{Option as Maybe, Some, None, Result, Ok, Err, MatchResult}
use Rattle.solve_equation.specs.declared.positions.Solved.{Solved}
use Rattle.format.specs.declared.refusal.Refusal.{Refusal}
use Rattle.solve_equation.specs.ForContracts.Reports.{LeavesSolved, Leaves}
use Rattle.reducing.specs.Test.{holding_in, line_test}
use Rattle.kept_lines.specs.ForContracts.Trimmed.{trimmed_lines, RecordsAre, KeptAs}
use Rattle.rules.specs.ForContracts.Rows.{RuleIs}
use Rattle.rules.specs.ForContracts.Lines.{RuleLines}
use Rattle.rules.specs.Theory.Proper.{walked_proper}
use Rattle.rules.specs.Theory.Kept.{ends, full_kept, records_there, solves, walked_lines}
use Rattle.rules.specs.ForContracts.Walks.{RuleKeptAs}

-- 1. The walk is given the equation's bytes and sizes, and the rule's direction.
numbered_direction : (n i : ℕ) (d : Direction) → n ≡ 2 * i + direction_number d → direction_of (n % 2) ≡ some d
unfolding direction_number direction_of
numbered_direction n i left_right h = let x : n % 2 ≡ 0 = omega arith in ap direction_of x
numbered_direction n i right_left h = let x : n % 2 ≡ 1 = omega arith in ap direction_of x

module _ {equations lengths arities : List ℕ} {rule i : ℕ} {e : Equation} {d : Direction} (is : RuleIs equations lengths arities rule i e d) where
  pub rule_direction : {o : Direction} → direction_of (rule % 2) ≡ some o → o ≡ d
  rule_direction {o} x = let y : some o ≡ some d = sym x ∙ numbered_direction rule i d is.number in cc

-- The records stand first in a longer memory too.
pub leaves_longer : {w : Walked} {memory : List ℕ} {told : Result Solved Refusal} → Leaves w memory told → (behind : List ℕ) → length memory ≡ memory_bytes → Leaves w (memory ++ behind) told
leaves_longer {w} {memory} {told} l behind h = record { ends = go told l.ends }
  where
    go : (r : Result Solved Refusal) → MatchResult r (LeavesSolved w memory) (λ why. w ≡ refused why) → MatchResult r (LeavesSolved w (memory ++ behind)) (λ why. w ≡ refused why)
    go (Ok s) (ls, x, y, f, z) = (ls, x, y, f, take-append-le (s.lines * record_bytes) memory behind (omega arith) ∙ z)
    go (Err why) x = x

-- 2. The lines of a walk that solves.
module _ {e : Equation} (w : WithinLimits e) (d : Direction) {memory : List ℕ} {told : Result Solved Refusal} {this : Solved} (l : Leaves (solve e d) memory told) (x : told ≡ Ok this) where
  holds_there : (ρ : Values) → line_test e d ρ ≡ ltb 0 (first_holding ρ (value e ρ) (walked_lines w d l x))
  unfolding line_test
  holds_there ρ = ap (λ t. ltb 0 (holding_in e ρ t)) (ends w d l x).1

  rule_lines : RuleLines e d (walked_lines w d l x)
  rule_lines = record { proper = walked_proper w d (ends w d l x).1; tests = holds_there }

  module _ (start : ℕ) (before after : List ℕ) (kept : Maybe ℕ) (k : (ls : List Line) → RecordsAre memory this.lines ls → KeptAs ls start before after kept) where
    pub lines_kept : {end : ℕ} → kept ≡ Some end
        → Solves e d × (ls : List Line) × RuleLines e d ls × (end ≡ start + length (trimmed_lines ls)) × (end ≤ table_bytes) × (after ≡ placed start (trimmed_lines ls) before)
    lines_kept y = let (ends_there, room, there) = subst (KeptAs (walked_lines w d l x) start before after) y (k (walked_lines w d l x) (records_there w d l x)) in (solves w d l x, walked_lines w d l x, rule_lines, ends_there, room, there)

    pub rule_kept : RuleKeptAs e d start before after (Ok kept)
    rule_kept = go kept refl
      where
        go : (r : Maybe ℕ) → kept ≡ r → RuleKeptAs e d start before after (Ok r)
        go None y = full_kept w d l x start before after kept k y
        go (Some end) y = lines_kept y
