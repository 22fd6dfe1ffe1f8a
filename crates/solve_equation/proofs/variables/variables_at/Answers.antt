-- Goals of `variables_at`.
use Rattle.solve_equation.proofs.Collected.{collecting_next, collecting_done}
use Rattle.solve_equation.proofs.variables.variables_at.Goals as goal

pub loop-k-preserved : goal.loop-k-preserved
loop-k-preserved c =
    collecting_next c.requires.in_prefix_form.0 _ c.requires.in_prefix_form.1 c.loop-k.invariant c.loop-k-test.true c.requires.variables_from c.joined-set.ensures c.from-k.ensures

pub returns : goal.returns
returns c =
    rw (← c.from-2.ensures) (collecting_done c.requires.in_prefix_form.0 _ c.requires.in_prefix_form.1 c.loop-k.invariant c.loop-k-test.false c.if-byte-ge-FIRST_VARIABLE.false)
