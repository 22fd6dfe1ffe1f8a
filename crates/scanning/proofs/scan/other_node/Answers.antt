-- `scanning::scan::other_node` tells a node that is no declared symbol, class by class.
use Rattle.scanning.proofs.Scanning.{other_symbol, other_variable, other_not_ground, other_foreign}
use Rattle.scanning.proofs.scan.other_node.Goals as goal

pub returns-in-Symbol : goal.returns-in-Symbol
returns-in-Symbol c = λ arities need h. other_symbol _ c.from.ensures arities need c.in-Symbol.is _ h

pub returns-in-Variable : goal.returns-in-Variable
returns-in-Variable c = λ arities need h. other_not_ground _ c.from.ensures arities need c.in-Variable.is c.if-is_ground.true

pub returns-in-Variable-2 : goal.returns-in-Variable-2
returns-in-Variable-2 c = λ arities need h. other_variable _ c.from.ensures arities need c.in-Variable.is c.if-is_ground.false c.from-in-Variable-2.ensures

pub returns-in-Foreign : goal.returns-in-Foreign
returns-in-Foreign c = λ arities need h. other_foreign _ c.from.ensures arities need c.in-Foreign.is _
