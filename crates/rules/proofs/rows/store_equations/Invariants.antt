-- `store_equations` stores each equation of the sheet in its row, and its sizes beside it.
use Rattle.rules.proofs.StoreLaws.{Storing}
use Rattle.rules.proofs.rows.store_equations.Given as goal

abbrev pub invariant-loop-e : goal.invariant-loop-e
invariant-loop-e l = Storing l.sheet l.known l.equations l.lengths l.e
