-- What comes next in a text: what the contracts of the reader cite.
use Rattle.std.specs.Prelude.{ℕ, ◌+◌, ◌-◌, ◌≤◌, ◌<◌, ◌≡◌, List, length, Option, None, Some, Result, Ok, Err}
use Rattle.std.specs.Iterator.{Count, at_most}
use Rattle.scanning.specs.ForContracts.Digits.{LineTo, NoFrame}
use Rattle.reader.specs.declared.line.FrameLine.{FrameLine}
use Rattle.reader.specs.declared.line.BrokenLine.{BrokenLine}
use Rattle.reader.specs.declared.reader.Reader.{Reader}

-- The line behind `offset` bytes and `lines` lines is this one: it starts there, and its digits end where LF stands.
pub record IsLine (text : List ℕ) (offset lines : ℕ) (l : FrameLine) : Type 0 where
  pub number_is : l.number ≡ lines + 1
  pub from_is : l.digits.from ≡ offset
  pub framed : LineTo text offset l.digits.end

-- Behind `offset` bytes and `lines` lines comes a frame, a line that is no frame, or the end of the text.
abbrev pub NextRead : List ℕ → (offset lines : ℕ) → Option (Result FrameLine BrokenLine) → Type 0
NextRead text offset lines (Some (Ok l)) = IsLine text offset lines l
NextRead text offset lines (Some (Err b)) = (b.number ≡ lines + 1) × (offset < length text) × NoFrame text offset
NextRead text offset lines None = length text ≤ offset

-- Where a reader of the text stands behind what it gave: behind the line's LF, or at the text's end.
abbrev pub StandsBehind : List ℕ → Option (Result FrameLine BrokenLine) → (offset lines : ℕ) → Type 0
StandsBehind text (Some (Ok l)) offset lines = (offset ≡ l.digits.end + 1) × (lines ≡ l.number)
StandsBehind text (Some (Err b)) offset lines = (offset ≡ length text) × (lines + 1 ≡ b.number)
StandsBehind text None offset lines = length text ≤ offset

-- No more lines are passed than bytes.
abbrev pub Counted : Reader → Type 0
Counted r = r.lines ≤ r.offset

-- A call from `s` gave `line` and left `t`, which reads the same text.
pub record LineStep (s : Reader) (line : Option (Result FrameLine BrokenLine)) (t : Reader) : Type 0 where
  pub same : t.sheet ≡ s.sheet
  pub read : NextRead s.sheet.now s.offset s.lines line
  pub stands : StandsBehind s.sheet.now line t.offset t.lines

-- Each line has a byte, so that there are no more lines than bytes.
abbrev pub bytes_left : Reader → Count
bytes_left r = at_most (length r.sheet.now - r.offset)
