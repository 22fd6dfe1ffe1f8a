-- The numbers that are read off the row of a rule.
use Rattle.std.specs.Prelude.{ℕ, ◌+◌, ◌*◌, ◌/◌, ◌≤◌, ◌<◌, ◌≡◌, List, length, get_or}
use Rattle.std.proofs.Common.{ap, ◌∙◌, arith}
use Rattle.std.proofs.Math.Option.{some}
use Rattle.format.specs.Limits.{position_count}
use Rattle.format.specs.Lists.{entry}
use Rattle.terms.specs.Term.{size}
use Rattle.terms.specs.Equation.{Equation, direction_number}
use Rattle.terms.specs.declared.direction.Direction.{Direction}
use Rattle.terms.specs.declared.direction.Direction.TheVariants.{LeftRight as left_right, RightLeft as right_left}
use Rattle.terms.specs.ForContracts.Limits.{positions}
use Rattle.terms.specs.Theory.Limits.{positions_few}
use Rattle.terms.specs.Theory.Position.{size_pos}
use Rattle.terms.specs.Theory.Positions.{left_at, right_at}
use Rattle.terms.specs.Theory.Stored.{stored_element}
use Rattle.reducing.specs.ForContracts.Rules.{rule_number}
use Rattle.reducing.specs.Theory.Rules.{RuleOf, rule_of}
use Rattle.bindings.specs.Theory.Equation.{length_sizes, size_at}
use Rattle.rules.specs.ForContracts.Rows.{row_bytes, RowIs, RuleIs, RowsAre, HasRows, HasRuleIn}

-- Where the row of a rule's equation starts.
abbrev pub row_start : ℕ → ℕ
row_start rule = rule / 2 * position_count

direction_low : (d : Direction) → direction_number d < 2
unfolding direction_number
direction_low left_right = omega arith
direction_low right_left = omega arith

module _ {equations lengths arities : List ℕ} {i : ℕ} {e : Equation} (r : RowIs equations lengths arities i e) where
  left_length : (row : ℕ) → row ≡ i * position_count → get_or lengths row 0 ≡ size e.left
  left_length row x =
      let some_size : 0 < positions e = omega (arith, size_pos e.left) in
      let y : row ≡ i * position_count + 0 = omega arith in
      ap (λ n. get_or lengths n 0) y ∙ (stored_element r.measured 0 (omega (arith, length_sizes e)) ∙ (size_at e 0 some_size ∙ ap size (left_at e)))

  right_length : (right : ℕ) → right ≡ i * position_count + size e.left → get_or lengths right 0 ≡ size e.right
  right_length right x =
      let some_size : size e.left < positions e = omega (arith, size_pos e.right) in
      ap (λ n. get_or lengths n 0) x ∙ (stored_element r.measured (size e.left) (omega (arith, length_sizes e)) ∙ (size_at e (size e.left) some_size ∙ ap size (right_at e)))

  pub row_room : i * position_count + positions e ≤ row_bytes
  row_room = omega (arith, r.inside, positions_few r.limits)

module _ {equations lengths arities : List ℕ} {rule i : ℕ} {e : Equation} {d : Direction} (is : RuleIs equations lengths arities rule i e d) where
  pub rule_row : row_start rule ≡ i * position_count
  rule_row = omega (arith, is.number, direction_low d)

  pub row_low : row_start rule + position_count ≤ length lengths
  row_low = omega (arith, rule_row, is.row.inside, is.row.lengths_length)

  module _ {first : ℕ} (x : first ≡ get_or lengths (row_start rule) 0) where
    pub first_size : first ≡ size e.left
    first_size = x ∙ left_length is.row (row_start rule) rule_row

    pub second_low : row_start rule + first < length lengths
    second_low = omega (arith, first_size, rule_row, row_room is.row, size_pos e.right, is.row.lengths_length)

    module _ {second : ℕ} (y : second ≡ get_or lengths (row_start rule + first) 0) where
      pub second_size : second ≡ size e.right
      second_size = y ∙ right_length is.row (row_start rule + first) (omega (arith, first_size, rule_row))

      pub row_end : row_start rule + first + second ≡ i * position_count + positions e
      row_end = omega (arith, first_size, second_size, rule_row)

pub rule_in : {equations lengths arities : List ℕ} {es : List Equation} {rule i : ℕ} {e : Equation} {d : Direction} → RowsAre equations lengths arities es → entry es i ≡ some e → rule ≡ rule_number i d
    → RuleIs equations lengths arities rule i e d
rule_in {i = i} {e = e} r x y = record { row = r.row i e x; number = y }

module _ {equations lengths : List ℕ} {count : ℕ} (has : HasRows equations lengths count) {rule : ℕ} (low : rule < count + count) where
  pub this_rule : RuleOf has.those rule
  this_rule = rule_of has.those rule (omega (arith, has.counted))

  pub rule_there : HasRuleIn equations lengths rule
  rule_there = record {
    arities = has.arities;
    number = this_rule.number;
    equation = this_rule.equation;
    direction = this_rule.direction;
    is = rule_in has.are this_rule.numbered this_rule.is;
  }
