-- The row of a rule's equation: what stands there, and where its sides stand by the sizes that the row has.
use Prim.Native.Nat.{ℕ, ◌+◌, ◌*◌, ◌%◌}
use mathlib.Core.Path.{◌≡◌, refl, sym, ap, subst, ◌∙◌}
use mathlib.Core.List.{List, ◌++◌, map, map-append}
use native.Mathlib.Omega.{arith}
use lib.ListN.{get_or, length-map}
use Rattle.format.specs.Limits.{position_count}
use Rattle.terms.specs.Term.{size}
use Rattle.terms.specs.Position.{subterms}
use Rattle.terms.specs.Prefix.{prefix, equation_bytes}
use Rattle.terms.specs.Equation.{Equation, direction_number, source, target}
use Rattle.terms.specs.declared.direction.Direction.{Direction}
use Rattle.terms.specs.declared.direction.Direction.TheVariants.{LeftRight as left_right, RightLeft as right_left}
use Rattle.terms.specs.declared.arguments.Arguments.{Arguments}
use Rattle.terms.specs.ForContracts.Stored.{PartAt}
use Rattle.terms.specs.Theory.Position.{length_subterms}
use Rattle.terms.specs.Theory.Prefix.{length_prefix}
use Rattle.terms.specs.Theory.Stored.{stored_first, stored_rest}
use Rattle.bindings.specs.ForContracts.Equation.{equation_sizes}
use Rattle.rules.specs.ForContracts.Rows.{RowIs, RuleIs, SideIs}
use Rattle.rules.specs.Theory.Rows.{first_size, row_start, rule_row, second_size}

-- "direction 00 before 01": rules with an even number are of direction 00.
even_rule : (rule i : ℕ) (d : Direction) → rule ≡ 2 * i + direction_number d → rule % 2 ≡ 0 → d ≡ left_right
unfolding direction_number
even_rule rule i left_right n h = refl
even_rule rule i right_left n h = absurd (omega arith)

odd_rule : (rule i : ℕ) (d : Direction) → rule ≡ 2 * i + direction_number d → (rule % 2 ≡ 0 → ⊥) → d ≡ right_left
unfolding direction_number
odd_rule rule i left_right n h = let z : rule % 2 ≡ 0 = omega arith in absurd (h z)
odd_rule rule i right_left n h = refl

module _ {equations lengths arities : List ℕ} {i : ℕ} {e : Equation} (r : RowIs equations lengths arities i e) where
  sizes_split : PartAt lengths (i * position_count) (map size (subterms e.left) ++ map size (subterms e.right))
  unfolding equation_sizes
  sizes_split = subst (PartAt lengths (i * position_count)) (map-append size (subterms e.left) (subterms e.right)) r.measured

  bytes_split : PartAt equations (i * position_count) (prefix e.left ++ prefix e.right)
  unfolding equation_bytes
  bytes_split = r.bytes

  left_side : (from end : ℕ) → from ≡ i * position_count → end ≡ from + size e.left → SideIs equations lengths arities (record { from = from; end = end }) e.left
  left_side from end x y = record {
    few_symbols = r.few_symbols;
    fits = r.left_fits;
    small = r.limits.left_size;
    stored = record {
      bytes = subst (λ n. PartAt equations n (prefix e.left)) (sym x) (stored_first (prefix e.left) (prefix e.right) bytes_split);
      sizes_there = subst (λ n. PartAt lengths n (map size (subterms e.left))) (sym x) (stored_first (map size (subterms e.left)) (map size (subterms e.right)) sizes_split);
    };
    ends = y;
  }

  right_side : (from end : ℕ) → from ≡ i * position_count + size e.left → end ≡ from + size e.right → SideIs equations lengths arities (record { from = from; end = end }) e.right
  right_side from end x y = record {
    few_symbols = r.few_symbols;
    fits = r.right_fits;
    small = r.limits.right_size;
    stored = record {
      bytes = subst (λ n. PartAt equations n (prefix e.right)) (sym x) (stored_rest (prefix e.left) (prefix e.right) (size e.left) (length_prefix e.left) bytes_split);
      sizes_there =
          subst (λ n. PartAt lengths n (map size (subterms e.right))) (sym x)
          (stored_rest (map size (subterms e.left)) (map size (subterms e.right)) (size e.left) (length-map (subterms e.left) size ∙ length_subterms e.left) sizes_split);
    };
    ends = y;
  }

-- The numbers that the code reads off the row of a rule.
module _ {equations lengths arities : List ℕ} {rule i : ℕ} {e : Equation} {d : Direction} (is : RuleIs equations lengths arities rule i e d) where
  module _ {first : ℕ} (x : first ≡ get_or lengths (row_start rule) 0) where
    module _ {second : ℕ} (y : second ≡ get_or lengths (row_start rule + first) 0) where
      abbrev left_place : Arguments
      left_place = record { from = row_start rule; end = row_start rule + first }

      abbrev right_place : Arguments
      right_place = record { from = row_start rule + first; end = row_start rule + first + second }

      abbrev SidesAt : (source_place target_place : Arguments) → Type 0
      SidesAt a b = SideIs equations lengths arities a (source e d) × SideIs equations lengths arities b (target e d)

      left_there : SideIs equations lengths arities left_place e.left
      left_there = left_side is.row left_place.from left_place.end (rule_row is) (ap (row_start rule +◌) (first_size is x))

      right_there : SideIs equations lengths arities right_place e.right
      right_there = right_side is.row right_place.from right_place.end (omega (arith, rule_row is, first_size is x)) (ap (row_start rule + first +◌) (second_size is x y))

      pub even_sides : rule % 2 ≡ 0 → SidesAt left_place right_place
      unfolding source target
      even_sides h = rw (even_rule rule i d is.number h) (left_there, right_there)

      pub odd_sides : (rule % 2 ≡ 0 → ⊥) → SidesAt right_place left_place
      unfolding source target
      odd_sides h = rw (odd_rule rule i d is.number h) (right_there, left_there)
