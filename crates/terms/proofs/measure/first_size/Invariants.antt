-- `first_size` meets its contract. The invariant: the sizes of the first `k` arguments are added up.
use Rattle.terms.proofs.Added.{Added}
use Rattle.terms.proofs.measure.first_size.Given as goal

abbrev pub invariant-loop-k : goal.invariant-loop-k
invariant-loop-k l = Added l.nodes l.arities l.sizes l.count l.next l.k
