-- `element_at` reads an element's two bytes.
use Rattle.line_bytes.specs.Theory.Element.{element_greater, element_equal}
use Rattle.line_bytes.proofs.element.element_at.Goals as goal

pub returns-then-first-lt-EQUALITY : goal.returns-then-first-lt-EQUALITY
returns-then-first-lt-EQUALITY c = element_greater c.args.bytes.now c.args.at c.if-first-lt-EQUALITY.true

pub returns-else-first-lt-EQUALITY : goal.returns-else-first-lt-EQUALITY
returns-else-first-lt-EQUALITY c = element_equal c.args.bytes.now c.args.at c.if-first-lt-EQUALITY.false
