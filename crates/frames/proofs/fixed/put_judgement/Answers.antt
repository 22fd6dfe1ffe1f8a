-- `put_judgement` prints whether a line holds, and the first that does.
use mathlib.Core.Path.{◌≡◌, ap, ◌∙◌}
use mathlib.Core.List.{[], ◌∷◌}
use Rattle.listing.specs.Listing.{printed, judgement_frame}
use Rattle.listing.specs.Theory.Appended.{appended_text}
use Rattle.frames.proofs.Judgement.{no_frame, yes_frame}
use Rattle.frames.proofs.fixed.put_judgement.Goals as goal
use Rattle.frames.proofs.fixed.put_judgement.Goals.{in-None, in-Some}

pub returns : goal.returns
returns c = λ n told.
    let frame : c.match-holding.frame ≡ judgement_frame n =
    elim c.match-holding.branch [ in-None w ↦ w.frame-is ∙ no_frame n told w.in-None.is | in-Some w ↦ w.frame-is ∙ yes_frame n told w.in-Some.is ] in
    appended_text (ap (λ f. printed (f ∷ [])) frame) c.put_frame.ensures
