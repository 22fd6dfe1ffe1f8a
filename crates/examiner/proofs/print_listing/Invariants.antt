-- `print_listing` prints piece after piece. The invariant: the memory is as the next piece needs it.
use Rattle.cursor.specs.ForContracts.Rest.{places_left}
use Rattle.examiner.proofs.Printing.{Printing}
use Rattle.examiner.proofs.print_listing.Given as goal

abbrev pub invariant-loop-equations : goal.invariant-loop-equations
invariant-loop-equations g l = Printing l.input l.equations l.lengths l.bounds l.table l.scratch l.out l.cursor

abbrev pub decreases-loop-equations : goal.decreases-loop-equations
decreases-loop-equations g l = places_left l.cursor.place
