-- Goals of `run_fits`.
use mathlib.Core.Path.{sym, ◌∙◌}
use Rattle.neblinaro.proofs.LongEnough.{three_fit, last_decides, three_decide}
use Rattle.neblinaro.proofs.run.run_fits.Goals.{then-table_fits, else-table_fits}
use Rattle.neblinaro.proofs.run.run_fits.Goals as goal

pub returns-then-three_fit : goal.returns-then-three_fit
returns-then-three_fit c = last_decides _ _ _ _ c.if-three_fit.true (elim c.if-table_fits.branch [
  | then-table_fits w ↦ w.three_fit-is ∙ three_fit _ _ _ (sym c.table_fits.ensures ∙ w.if-table_fits.true)
  | else-table_fits w ↦ w.three_fit-is ∙ w.if-table_fits.false ∙ three_fit _ _ c.args.term.now (sym c.table_fits.ensures ∙ w.if-table_fits.false)
])

pub returns-else-three_fit : goal.returns-else-three_fit
returns-else-three_fit c = three_decide _ _ _ _ c.if-three_fit.false (elim c.if-table_fits.branch [
  | then-table_fits w ↦ w.three_fit-is ∙ three_fit _ _ _ (sym c.table_fits.ensures ∙ w.if-table_fits.true)
  | else-table_fits w ↦ w.three_fit-is ∙ w.if-table_fits.false ∙ three_fit _ _ c.args.term.now (sym c.table_fits.ensures ∙ w.if-table_fits.false)
])
