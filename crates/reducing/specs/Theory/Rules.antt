-- The rules by their numbers: equation and direction of each.
use Rattle.std.specs.Prelude.{ℕ, zero, suc, ◌*◌, ◌<◌, ◌/◌, ◌%◌, ◌≡◌, refl, List, [], ◌∷◌, length}
use Rattle.std.proofs.Math.Option.{some}
use Rattle.std.proofs.Common.{arith}
use Rattle.format.specs.Lists.{entry}
use Rattle.format.specs.Theory.Lists.{entry_length}
use Rattle.terms.specs.Equation.{Equation, direction_number}
use Rattle.terms.specs.declared.direction.Direction.{Direction}
use Rattle.terms.specs.declared.direction.Direction.TheVariants.{LeftRight as left_right, RightLeft as right_left}
use Rattle.reducing.specs.ForContracts.Rules.{rule_number}

-- The rule with a number.
pub record RuleOf (es : List Equation) (rule : ℕ) : Type 0 where
  pub number : ℕ
  pub equation : Equation
  pub direction : Direction
  pub numbered : entry es number ≡ some equation
  pub is : rule ≡ rule_number number direction

pub rule_of : (es : List Equation) (rule : ℕ) → rule < 2 * length es → RuleOf es rule
unfolding entry direction_number
rule_of [] rule h = absurd (omega arith)
rule_of (e ∷ es) zero h = record { number = 0; equation = e; direction = left_right; numbered = refl; is = refl }
rule_of (e ∷ es) (suc zero) h = record { number = 0; equation = e; direction = right_left; numbered = refl; is = refl }
rule_of (e ∷ es) (suc (suc rule)) h =
    let r = rule_of es rule (omega arith) in
    record { number = suc r.number; equation = r.equation; direction = r.direction; numbered = r.numbered; is = omega (arith, r.is) }

pub rule_low : (i : ℕ) (d : Direction) {n : ℕ} → i < n → rule_number i d < 2 * n
unfolding direction_number
rule_low i left_right h = omega arith
rule_low i right_left h = omega arith

-- The rules of a list of equations are two for each.
pub rule_below : (es : List Equation) (i : ℕ) {e : Equation} (d : Direction) → entry es i ≡ some e → rule_number i d < 2 * length es
unfolding direction_number
rule_below es i left_right x = omega (arith, entry_length es i x)
rule_below es i right_left x = omega (arith, entry_length es i x)

-- "direction 00 before 01": the rule's number says its equation and its direction.
pub rule_parts : (rule i : ℕ) (d : Direction) → rule ≡ rule_number i d → (rule / 2 ≡ i) × (rule % 2 ≡ direction_number d)
unfolding direction_number
rule_parts rule i left_right h = (omega arith, omega arith)
rule_parts rule i right_left h = (omega arith, omega arith)
