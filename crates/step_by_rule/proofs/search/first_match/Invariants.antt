-- `first_match` finds the first node at which a side matches. The invariant: it matches at no node passed.
use mathlib.Core.Path.{◌≡◌}
use lib.ListN.{length}
use Rattle.format.specs.Limits.{variable_count}
use Rattle.step_by_rule.proofs.RulewiseLaws.{Seeking}
use Rattle.step_by_rule.proofs.search.first_match.Given as goal

abbrev pub invariant-loop-node : goal.invariant-loop-node
invariant-loop-node l = Seeking l.equations l.side l.nodes l.sizes l.end l.node × (length l.values ≡ variable_count)
