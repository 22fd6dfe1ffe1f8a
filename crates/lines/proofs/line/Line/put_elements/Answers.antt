-- Goals of `put_elements`.
use mathlib.Core.Path.{refl}
use Rattle.lines.proofs.Writing.{putting_start, putting_room, putting_markable, putting_next, putting_done}
use Rattle.lines.proofs.Sizes.{elements_places}
use Rattle.lines.proofs.line.Line.put_elements.Goals as goal

pub loop-i-init : goal.loop-i-init
loop-i-init c = putting_start _ _ _ _ c.requires (elements_places c.args.self c.well_formed.0)

pub put_element-requires : goal.put_element-requires
put_element-requires c =
    let p = c.loop-i.invariant in
    let h = c.loop-i-test.true in
    (putting_room p h, putting_markable p h _ _ refl)

pub loop-i-preserved : goal.loop-i-preserved
loop-i-preserved c = putting_next c.loop-i.invariant c.loop-i-test.true _ _ refl _ c.put_element.ensures

pub returns : goal.returns
returns c = putting_done c.loop-i.invariant c.loop-i-test.false
