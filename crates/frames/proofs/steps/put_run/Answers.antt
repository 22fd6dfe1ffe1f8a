-- `put_run` prints the end of a run.
use mathlib.Core.Path.{ap}
use mathlib.Core.List.{[], ◌∷◌}
use native.Mathlib.Omega.{arith}
use Rattle.listing.specs.Listing.{run_kind, digits, printed}
use Rattle.listing.specs.Theory.Printed.{length_digits}
use Rattle.listing.specs.Theory.Appended.{appended_join, appended_text}
use Rattle.frames.proofs.steps.put_run.Goals as goal

pub put_frame-requires : goal.put_frame-requires
put_frame-requires c = omega (arith, c.put_bytes-to.ensures.ends, c.put_bytes-to.ensures.same_length, length_digits (run_kind ∷ c.from.result ∷ c.args.steps ∷ []), c.requires)

pub returns : goal.returns
unfolding digits printed
returns c =
    let rest = c.args.steps ∷ c.args.term.now in
    appended_text (ap (λ k. printed ((run_kind ∷ k ∷ rest) ∷ [])) c.from.ensures)
    (appended_join (digits (run_kind ∷ c.from.result ∷ c.args.steps ∷ [])) (printed (c.args.term.now ∷ [])) c.put_bytes-to.ensures c.put_frame.ensures)
