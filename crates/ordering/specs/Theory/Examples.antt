-- Comparisons of document 01 by computation ('The program', 'Cases at the edges'), with their clauses (document 02, W8).
use Rattle.std.specs.Prelude.{ℕ, ◌≡◌, refl}
use Rattle.terms.specs.Term.{Term, app, nil, cons}
use Rattle.std.proofs.Common.{arith}
use Rattle.path_order.specs.Order.{L1, here_equal, here_greater, there, none, more, at_first}
use Rattle.ordering.specs.Clause.{by_L1, by_L2, by_L3, Applies}
use Rattle.ordering.specs.Theory.Clause.{L2_asks, L3_asks}
use Rattle.ordering.specs.Decision.{smaller_by, equal_terms, greater_by, decision}

abbrev constant : ℕ → Term
constant f = app f nil

abbrev binary : ℕ → Term → Term → Term
binary f s t = app f (cons s (cons t nil))

-- With P1's symbols a = 0, b = 1, product = 2.
abbrev a : Term
a = constant 0

abbrev b : Term
b = constant 1

-- "P1's comparison prints 160203."
p1 : decision (binary 2 b a) (binary 2 a b) ≡ greater_by by_L3
unfolding decision
p1 = refl

p2 : decision a a ≡ equal_terms
unfolding decision
p2 = refl

p3 : decision b a ≡ greater_by by_L2
unfolding decision
p3 = refl

p4 : decision (binary 2 a b) b ≡ greater_by by_L1
unfolding decision
p4 = refl

p5 : decision (binary 2 a b) (binary 2 b a) ≡ smaller_by by_L3
unfolding decision
p5 = refl

-- "with + > product > a > b > c, a+(bc) against a(b+c)"
p12 : decision (binary 4 (constant 2) (binary 3 (constant 1) (constant 0))) (binary 3 (constant 2) (binary 4 (constant 1) (constant 0))) ≡ greater_by by_L2
unfolding decision
p12 = refl

-- The first clause that applies is named: (ab)+b against ab, + = 3 above the product, to which L2 applies too, and (ab)b against ab, to which L3 does; and the other way round.
L1_before_L2 : (decision (binary 3 (binary 2 a b) b) (binary 2 a b) ≡ greater_by by_L1) × (decision (binary 2 a b) (binary 3 (binary 2 a b) b) ≡ smaller_by by_L1)
unfolding decision
L1_before_L2 = (refl, refl)

L1_before_L3 : (decision (binary 2 (binary 2 a b) b) (binary 2 a b) ≡ greater_by by_L1) × (decision (binary 2 a b) (binary 2 (binary 2 a b) b) ≡ smaller_by by_L1)
unfolding decision
L1_before_L3 = (refl, refl)

L2_applies_too : Applies by_L2 (binary 3 (binary 2 a b) b) (binary 2 a b)
L2_applies_too = L2_asks.1 (omega arith, more (L1 (here_greater (L1 here_equal))) (more (L1 (there here_equal)) none))

L3_applies_too : Applies by_L3 (binary 2 (binary 2 a b) b) (binary 2 a b)
L3_applies_too = L3_asks.1 (refl, at_first (L1 here_equal) (more (L1 (there here_equal)) none))
