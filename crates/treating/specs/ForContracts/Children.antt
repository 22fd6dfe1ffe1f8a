-- The lines that replace a line: one for each choice.
use Rattle.std.specs.Prelude.{ℕ, List, ◌++◌, length}
use Rattle.solving.specs.Line.{Element}
use Rattle.line_bytes.specs.ForContracts.Resting.{RestingLine}

-- "the choice's elements standing where the old one stood". Those in front are known to be fully reduced.
abbrev pub child : (bindings : List ℕ) (pre post : List Element) → List Element → RestingLine
child bs pre post cs = record { bindings = bs; elements = pre ++ (cs ++ post); reduced = length pre }
