-- Goals of `any_empty`.
use Prim.Native.Nat.{◌*◌}
use mathlib.Core.Path.{subst}
use Rattle.line_bytes.specs.ForContracts.Layout.{line_bytes}
use Rattle.stopping.specs.ForContracts.Empty.{EmptyAt}
use Rattle.stopping.proofs.Looking.{looking_found, looking_next, looking_done}
use Rattle.stopping.proofs.empty.any_empty.Goals as goal

pub returns-then-empty_at : goal.returns-then-empty_at
returns-then-empty_at c =
    let i = c.loop-i.i in
    looking_found c.loop-i.invariant c.loop-i-test.true c.requires (subst (EmptyAt c.args.memory.now (i * line_bytes)) c.if-empty_at.true c.empty_at.ensures)

pub loop-i-preserved : goal.loop-i-preserved
loop-i-preserved c =
    let i = c.loop-i.i in
    looking_next c.loop-i.invariant c.loop-i-test.true c.requires (subst (EmptyAt c.args.memory.now (i * line_bytes)) c.if-empty_at.false c.empty_at.ensures)

pub returns : goal.returns
returns c = looking_done c.loop-i.invariant c.loop-i-test.false
