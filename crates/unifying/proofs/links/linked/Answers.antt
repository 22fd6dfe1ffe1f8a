-- Goals of `linked`.
use native.Mathlib.Omega.{arith}
use Rattle.unifying.specs.ForContracts.Links.{stays, goes}
use Rattle.bindings.specs.Theory.Bindings.{not_unbound}
use Rattle.unifying.proofs.links.linked.Goals as goal

pub loop-hop-init : goal.loop-hop-init
loop-hop-init c = (stays, c.requires.1)

pub loop-hop-preserved : goal.loop-hop-preserved
loop-hop-preserved c =
    let followed = c.requires.0 in
    let inv = c.loop-hop.invariant in
    let less = not_unbound c.from-at.ensures (omega (arith, c.type_inv.links c.loop-hop.at)) c.if-next.false in
    (goes inv.0 c.from-at.ensures less, omega (arith, c.from-at.ensures, less, followed.within c.loop-hop.at (omega (arith, inv.1, followed.each_position)) (omega (arith, c.from-at.ensures, less))))
