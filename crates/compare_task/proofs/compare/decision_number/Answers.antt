-- `decision_number` gives the number of the definitions.
use mathlib.Core.Path.{ap, ap₂, ◌∙◌}
use Rattle.ordering.specs.Verdict.{verdict_number}
use Rattle.outcomes.specs.Buffer.{fields}
use Rattle.outcomes.specs.Outcome.{decision_fields}
use Rattle.compare_task.proofs.compare.decision_number.Goals as goal

pub returns : goal.returns
unfolding decision_fields
returns c =
    let verdict = c.from.ensures ∙ (c.from-verdict.ensures ∙ ap verdict_number c.verdict.ensures) in
    c.fields_number.ensures ∙ ap₂ (λ v n. fields v n 0) verdict (c.from-2.ensures ∙ c.clause_number.ensures)
