-- `keep` puts the cell of a decision.
use Prim.Native.Nat.{◌+◌, ◌*◌}
use mathlib.Core.Path.{ap, ◌∙◌}
use lib.ListN.{set}
use native.Mathlib.Omega.{arith}
use Rattle.ordering.specs.Verdict.{verdict_number}
use Rattle.ordering.specs.Decision.{verdict_of}
use Rattle.ordering.specs.Theory.Verdict.{number_few}
use Rattle.cells.specs.ForContracts.Cells.{clause_unit}
use Rattle.clauses.specs.ForContracts.Kept.{cell_of}
use Rattle.clauses.proofs.Keeping.{clause_few}
use Rattle.clauses.proofs.kept.keep.Goals as goal

pub overflow_add-cells : goal.overflow_add-cells
overflow_add-cells c = omega (arith, c.from-verdict.ensures, number_few c.verdict.result)

pub overflow_mul-cells : goal.overflow_mul-cells
overflow_mul-cells c = omega (arith, c.clause_number.ensures, clause_few c.args.decision)

pub overflow_add-cells-2 : goal.overflow_add-cells-2
overflow_add-cells-2 c =
    omega (arith, c.clause_number.ensures, clause_few c.args.decision, c.from-verdict.ensures, number_few c.verdict.result)

pub returns-clause-cells_after : goal.returns-clause-cells_after
unfolding cell_of
returns-clause-cells_after c =
    let told = ap (λ n. n + 1 + clause_unit * c.clause_number.result) (c.from-verdict.ensures ∙ ap verdict_number c.verdict.ensures) ∙ ap (λ n. verdict_number (verdict_of c.args.decision) + 1 + clause_unit * n) c.clause_number.ensures in
    ap (set c.args.cells.now c.args.cell) told
