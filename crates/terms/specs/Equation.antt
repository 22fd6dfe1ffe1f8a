-- Equations, their directions and their positions (document 01, 'The sheet' and 'The walk that solves s > t').
use Rattle.std.specs.Prelude.{ℕ, zero, suc, ◌++◌, get_or}
use Rattle.std.proofs.Math.Option.{Option, none, some}
use Rattle.terms.specs.Term.{Term, var, size, Values, inst}
use Rattle.terms.specs.Position.{subterms, Node, node_at}
-- "Direction 00 is left > right, 01 is right > left"
pub use Rattle.terms.specs.declared.direction.Direction.{Direction}
pub use Rattle.terms.specs.declared.direction.Direction.TheVariants.{LeftRight as left_right, RightLeft as right_left}

-- "an equation, left term then right term"
pub record Equation : Type 0 where
  pub left : Term
  pub right : Term

unfoldable pub direction_number : Direction → ℕ
direction_number left_right = 0
direction_number right_left = 1

unfoldable pub direction_of : ℕ → Option Direction
direction_of zero = some left_right
direction_of (suc zero) = some right_left
direction_of (suc (suc d)) = none

-- "the greater side is the source, the other the target"
unfoldable pub source : Equation → Direction → Term
source e left_right = e.left
source e right_left = e.right

unfoldable pub target : Equation → Direction → Term
target e left_right = e.right
target e right_left = e.left

-- "in an equation they run over the left term and then the right"
unfoldable pub term_at : Equation → ℕ → Term
unfolding subterms
term_at e p = get_or (subterms e.left ++ subterms e.right) p (var 0)

unfoldable pub source_position : Equation → Direction → ℕ
unfolding size
source_position e left_right = 0
source_position e right_left = size e.left

unfoldable pub target_position : Equation → Direction → ℕ
unfolding size
target_position e left_right = size e.left
target_position e right_left = 0

-- What stands at a position of the equation.
unfoldable pub view : Equation → ℕ → Node
unfolding term_at node_at
view e p = node_at p (term_at e p)

-- The instance of the term at a position.
unfoldable pub value : Equation → Values → ℕ → Term
unfolding term_at inst
value e ρ p = inst ρ (term_at e p)
