-- `tell_constants` tells the verdict where nothing is to be asked of arguments.
use native.Mathlib.Omega.{arith}
use Rattle.comparing.proofs.ConstantTerms.{tells_smaller, tells_greater, tells_equal}
use Rattle.comparing.proofs.constants.tell_constants.Goals as goal

pub returns-then-sizes-i-eq1 : goal.returns-then-sizes-i-eq1
returns-then-sizes-i-eq1 c = tells_smaller c.requires.i_in_bounds.2 c.requires.j_in_bounds.2 c.if-f-g.true c.if-sizes-i-eq1.true

pub returns-then-g-f : goal.returns-then-g-f
returns-then-g-f c = tells_greater c.requires.i_in_bounds.2 c.requires.j_in_bounds.2 c.if-g-f.true c.if-sizes-j-eq1.true

pub returns-then-sizes-i-eq1-2 : goal.returns-then-sizes-i-eq1-2
returns-then-sizes-i-eq1-2 c =
    tells_equal c.requires.i_in_bounds.2 c.requires.j_in_bounds.2 (omega (arith, c.if-f-g.false, c.if-g-f.false)) c.if-sizes-i-eq1-2.true c.if-sizes-j-eq1.true
