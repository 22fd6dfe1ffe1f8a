-- Goals of `among`.
use mathlib.Core.Bool.{true}
use native.Mathlib.Omega.{arith}
use Rattle.clauses.proofs.Members.{first_among, later_among, others_and}
use Rattle.comparing.specs.Theory.Rows.{first_argument}
use Rattle.clauses.proofs.among.among.Goals as goal

pub returns-then-same_nodes : goal.returns-then-same_nodes
returns-then-same_nodes c = c.loop-at.invariant.1 true (first_among c.loop-at-test.true (rw c.if-same_nodes.true at c.same_nodes.ensures))

pub bounds-sizes-at : goal.bounds-sizes-at
bounds-sizes-at c = omega (arith, (first_argument c.loop-at.invariant.0.terms c.loop-at-test.true).below, c.requires.1)

pub loop-at-smaller : goal.loop-at-smaller
loop-at-smaller c = omega (arith, c.from-at.ensures, c.loop-at-test.true, (first_argument c.loop-at.invariant.0.terms c.loop-at-test.true).some)

pub loop-at-preserved : goal.loop-at-preserved
loop-at-preserved c =
    let (there, back) = c.loop-at.invariant in
    let more = c.loop-at-test.true in
    (others_and more c.from-at.ensures there, λ r x. back r (later_among more c.from-at.ensures x))
