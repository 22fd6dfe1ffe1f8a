-- Two walks beyond a sheet's limits (document 02, W10), checked against the definitions by computation.
use Rattle.std.specs.Prelude.{ℕ, ◌≡◌, refl, List, [], ◌∷◌, length}
use Rattle.format.specs.declared.refusal.Refusal.TheVariants.{TooManyLines as too_many_lines}
use Rattle.terms.specs.Term.{Term, var, app, nil, cons}
use Rattle.terms.specs.Equation.{Equation}
use Rattle.terms.specs.declared.direction.Direction.TheVariants.{LeftRight as left_right, RightLeft as right_left}
use Rattle.solving.specs.Line.{unbound, greater, line}
use Rattle.solving.specs.Walk.{Walked, solved, refused, solve}
use Rattle.termination.specs.Walk.{walk_allowed}

-- xy = yx with the variables 12 and 13, which no sheet has: P1's line and turns, in lines of fourteen slots.
swapped : Equation
swapped = record { left = app 0 (cons (var 12) (cons (var 13) nil)); right = app 0 (cons (var 13) (cons (var 12) nil)) }

fourteen_variables : walk_allowed swapped left_right 8 ≡ solved (line (unbound 14) (greater 1 4 ∷ []) ∷ []) 8
unfolding walk_allowed swapped
fourteen_variables = refl

-- An equation of a sheet whose table grows to 256 lines, right > left, so that the walk of document 01 is refused. Without limits it ends with 253 lines
-- after 357 turns.
four : Term → Term → Term → Term → Term
four s t u v = app 1 (cons s (cons t (cons u (cons v nil))))

constant : Term
constant = app 0 nil

large : Equation
unfolding four constant
large = record { left = four constant (var 0) constant constant; right = four constant (four (var 2) (var 2) (var 2) (var 0)) (var 2) (var 0) }

counts : Walked → List ℕ
counts (solved table turns) = length table ∷ turns ∷ []
counts (refused r) = []

limited : solve large right_left ≡ refused too_many_lines
unfolding solve large
limited = refl

unlimited : counts (walk_allowed large right_left 357) ≡ 253 ∷ 357 ∷ []
unfolding walk_allowed large counts
unlimited = refl
