-- `ends_of` finds where the sides of a direction start.
use Rattle.solve_equation.proofs.Solving.{ends_left, ends_right}
use Rattle.solve_equation.proofs.solve.ends_of.Goals as goal

pub returns-in-LeftRight : goal.returns-in-LeftRight
returns-in-LeftRight c = λ nodes e are. rw c.in-LeftRight.is (ends_left are _ c.from-right.ensures)

pub returns-in-RightLeft : goal.returns-in-RightLeft
returns-in-RightLeft c = λ nodes e are. rw c.in-RightLeft.is (ends_right are _ c.from-right.ensures)
