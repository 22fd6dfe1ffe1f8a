-- Goals of `settle`: the number of a verdict is small.
use native.Mathlib.Omega.{arith}
use Rattle.ordering.specs.Theory.Verdict.{number_few}
use Rattle.cells.proofs.settled.settle.Goals as goal

pub overflow_add-cells : goal.overflow_add-cells
overflow_add-cells c = omega (arith, c.from.ensures, number_few c.args.verdict)
