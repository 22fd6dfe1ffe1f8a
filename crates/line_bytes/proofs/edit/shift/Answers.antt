-- `shift` makes room for some pairs in the place of one: none, one, or more.
use mathlib.Core.Path.{refl}
use Rattle.line_bytes.proofs.Shifting.{shift_none, shift_left, shift_right}
use Rattle.line_bytes.proofs.edit.shift.Goals as goal

pub returns-then-n-eq1 : goal.returns-then-n-eq1
returns-then-n-eq1 c = shift_none c.args.from c.args.end c.args.line.now c.args.n c.if-n-eq1.true

pub returns-then-n-eq0 : goal.returns-then-n-eq0
returns-then-n-eq0 c =
    shift_left c.args.from c.args.end c.args.line.now c.args.n _ _ c.if-n-eq0.true c.shift_left.ensures c.put.ensures

pub returns : goal.returns
returns c = shift_right c.args.from c.args.end c.args.line.now c.args.n _ _ c.if-n-eq0.false refl c.requires.3 c.shift_right.ensures
