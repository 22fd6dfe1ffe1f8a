-- `replace_part` meets its contract: a result that is too large changes nothing, and any other takes the subject's place.
use Prim.Native.Nat.{◌+◌, ◌-◌}
use mathlib.Core.Path.{◌≡◌, refl}
use native.Mathlib.Omega.{arith}
use Rattle.terms.specs.Term.{size as width, inst}
use Rattle.terms.specs.Position.{replace}
use Rattle.step_take.proofs.Result.{bounds, result_size}
use Rattle.step_take.proofs.Placing.{ground_result, result_measurable, result_subject}
use Rattle.step_take.proofs.part.replace_part.Goals as goal

pub overflow_sub-size : goal.overflow_sub-size
overflow_sub-size c = omega (arith, (bounds c.requires.is).inside, c.from-old.ensures)

pub returns-then-size-gt-TASK_NODES : goal.returns-then-size-gt-TASK_NODES
returns-then-size-gt-TASK_NODES c =
    let old = c.from-old.ensures in
    λ subject t ρ p r.
    (omega (arith, c.if-size-gt-TASK_NODES.true, c.instance_size-new.ensures.by_index _ t ρ r.instance_is, result_size r), refl, refl)

pub put_result-requires : goal.put_result-requires
put_result-requires c =
    let old = c.from-old.ensures in
    let room = c.if-size-gt-TASK_NODES.false in
    (c.args.arities.now, c.requires.subject, c.requires.term, c.requires.assigned, c.requires.position, c.requires.is, omega (arith, c.instance_size-new.ensures.by_index _ _ _ c.requires.is.instance_is, result_size c.requires.is))

pub measure-requires : goal.measure-requires
measure-requires c =
    let x = c.from-old.ensures in
    let e = c.instance_size-new.ensures.by_index c.args.arities.now c.requires.term c.requires.assigned c.requires.is.instance_is in
    let u = replace c.requires.subject c.requires.position (inst c.requires.assigned c.requires.term) in
    result_measurable c.requires.is.stands u (ground_result c.requires.is) _ c.put_result.new.res c.copy_front.new.to (c.args.n - c.from-old.result + c.instance_size-new.result)
    (omega (arith, result_size c.requires.is)) c.if-size-gt-TASK_NODES.false (c.put_result.ensures c.args.arities.now c.requires.subject c.requires.term c.requires.assigned c.requires.position c.requires.is) c.copy_front.ensures
    c.nodes-1.given.1

pub returns : goal.returns
returns c =
    let x = c.from-old.ensures in
    λ subject t ρ p r.
    let e = c.instance_size-new.ensures.by_index c.args.arities.now t ρ r.instance_is in
    let n : c.args.n - c.from-old.result + c.instance_size-new.result ≡ width (replace subject p (inst ρ t)) = omega (arith, result_size r) in (
      n,
      result_subject r.stands (replace subject p (inst ρ t)) (ground_result r) _ c.put_result.new.res c.copy_front.new.to (c.args.n - c.from-old.result + c.instance_size-new.result)
          n c.if-size-gt-TASK_NODES.false (c.put_result.ensures c.args.arities.now subject t ρ p r) c.copy_front.ensures
          c.nodes-1.given.1 c.measure.new.sizes c.measure.auto.sizes c.measure.ensures,
    )
