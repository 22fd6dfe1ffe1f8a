-- `linked` meets its contract. The invariant: the links lead to where the loop has come, and that is a position.
use Prim.Native.Nat.{◌<◌}
use Rattle.format.specs.Limits.{position_count}
use Rattle.unifying.specs.ForContracts.Links.{Leads}
use Rattle.unifying.proofs.links.linked.Given as goal

abbrev pub invariant-loop-hop : goal.invariant-loop-hop
invariant-loop-hop l = Leads l.links l.p l.at × (l.at < position_count)
