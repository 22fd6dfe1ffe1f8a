-- `put_comparison` prints a verdict with the clause that decided it.
use mathlib.Core.Path.{ap, ◌∙◌}
use mathlib.Core.List.{[], ◌∷◌}
use Rattle.ordering.specs.Verdict.{verdict_number}
use Rattle.ordering.specs.Decision.{verdict_of}
use Rattle.listing.specs.Listing.{printed, comparison_kind, comparison_frame}
use Rattle.listing.specs.Theory.Appended.{appended_text}
use Rattle.frames.proofs.fixed.put_comparison.Goals as goal

pub returns : goal.returns
unfolding comparison_frame
returns c =
    let decision = c.args.decision in
    let told = ap (λ n. comparison_kind ∷ n ∷ c.clause_number.result ∷ []) (c.from-verdict.ensures ∙ ap verdict_number c.verdict.ensures) ∙ ap (λ n. comparison_kind ∷ verdict_number (verdict_of decision) ∷ n ∷ []) c.clause_number.ensures in
    appended_text (ap (λ f. printed (f ∷ [])) told) c.put_frame.ensures
