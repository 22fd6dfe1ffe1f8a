-- `meet` meets its contract, for a variable that met no term and for one that met one.
use mathlib.Core.Path.{sym, ◌∙◌}
use Rattle.step_match.proofs.Meeting.{meets_first, meets_again}
use Rattle.step_match.proofs.side.meet.Goals as goal

pub returns-then-met-eq-FILLING_NODE : goal.returns-then-met-eq-FILLING_NODE
returns-then-met-eq-FILLING_NODE c =
    λ arities t m g is. meets_first c.args.v c.requires.2 g c.requires.0.before_filling is (sym c.from-met.ensures ∙ c.if-met-eq-FILLING_NODE.true)

pub returns : goal.returns
returns c =
    λ arities t m g is. meets_again c.args.v c.requires.2 g c.requires.0.before_filling is c.from-met.result c.same_terms.result c.from-met.ensures (λ e. c.if-met-eq-FILLING_NODE.false (c.from-met.ensures ∙ e)) c.same_terms.ensures
