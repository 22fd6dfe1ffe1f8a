-- `put_step` stores the three bytes of a step behind those of the steps before it.
use Prim.Native.Nat.{◌*◌, ◌/◌, ◌%◌}
use Rattle.step_take.proofs.LogLaws.{three_more}
use Rattle.step_take.proofs.step.put_step.Goals as goal

pub returns : goal.returns
returns c front before l w = three_more front before c.args.log.now (3 * c.args.steps) (c.args.rule / 2) (c.args.rule % 2) c.args.position c.requires.0 l w
