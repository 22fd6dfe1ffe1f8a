-- `put_element` puts an element's two bytes.
use native.Mathlib.Omega.{arith}
use Rattle.line_bytes.proofs.Elements.{equality_low, equality_put, inequality_put}
use Rattle.line_bytes.proofs.element.put_element.Goals as goal

pub overflow_add-p : goal.overflow_add-p
overflow_add-p c =
    omega (arith, equality_low c.args.bytes.now c.args.bytes.now c.args.at c.args.element c.in-Equal.p c.in-Equal.q c.requires.0 c.in-Equal.is c.requires.1)

pub returns-in-Greater : goal.returns-in-Greater
returns-in-Greater c =
    inequality_put c.args.bytes.now c.put.new.line c.args.at c.args.element c.in-Greater.p c.in-Greater.q c.requires.0 c.in-Greater.is c.put.ensures

pub returns-in-Equal : goal.returns-in-Equal
returns-in-Equal c =
    equality_put c.args.bytes.now c.put-in-Equal.new.line c.args.at c.args.element c.in-Equal.p c.in-Equal.q c.requires.0 c.in-Equal.is c.put-in-Equal.ensures
