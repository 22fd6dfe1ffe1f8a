-- `reading::read::first_frame` reads the symbols' frame, and refuses any other.
use Rattle.reading.proofs.OneFrame.{first_symbols, first_refused}
use Rattle.reading.proofs.read.first_frame.Goals as goal

pub returns-in-Symbols : goal.returns-in-Symbols
returns-in-Symbols c = first_symbols c.in-Symbols.is _ c.requires.are_bytes c.symbols_body.result c.symbols_body.ensures

pub returns-in_default : goal.returns-in_default
returns-in_default c = first_refused _ c.in_default.not-Symbols _
