-- The filling is the lowest constant, a symbol.
use mathlib.Core.Path.{sym, subst}
use native.Mathlib.Omega.{arith}
use lib.ListN.{set}
use Rattle.format.specs.Limits.{filling_node}
use Rattle.terms.specs.ForContracts.Stored.{SubjectIs}
use Rattle.run_term.proofs.FillingLaws.{lowest_low, subject_filled}
use Rattle.run_term.proofs.filling.put_filling.Goals as goal

pub overflow_cast-nodes : goal.overflow_cast-nodes
overflow_cast-nodes c =
    omega (arith, c.lowest_constant-constant.ensures, lowest_low c.args.arities.now, c.requires.0)

pub returns : goal.returns
returns c =
    λ s n l. subst (λ b. SubjectIs (set c.args.nodes.now filling_node b) (set c.args.sizes.now filling_node 1) c.args.arities.now s) (sym c.lowest_constant-constant.ensures) (subject_filled l)
