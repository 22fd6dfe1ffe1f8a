-- `scanning::scan::scan` is the definition's `scan`. The loop's invariant, `Scanning`: what is left to read decides, and the numbers stay small.
use Rattle.scanning.specs.ForContracts.Scan.{listed}
use Rattle.scanning.proofs.Scanning.{Scanning}
use Rattle.scanning.proofs.scan.scan.Given as goal

abbrev pub invariant-loop-need : goal.invariant-loop-need
invariant-loop-need l = Scanning l.part.sheet.now l.part.span (listed l.symbols l.arities) l.wanted l.at l.need l.room l.width

abbrev pub decreases-loop-need : goal.decreases-loop-need
decreases-loop-need l = l.room
