-- What the contracts of the code that reads frames and lines cite.
use Rattle.std.specs.Prelude.{ℕ, ◌≤◌, ◌≡◌, List, Ok, Err}
use Rattle.std.specs.Prelude.{Result as Outcome}
use Rattle.format.specs.Limits.{max_text}
use Rattle.format.specs.Refusal.{Result, refuse, give}
use Rattle.format.specs.declared.refusal.Refusal.{Refusal}
use Rattle.sheet.specs.Sheet.{Sheet}
use Rattle.sheet.specs.Frame.{State, start, within}
use Rattle.sheet.specs.Reading.{refused_at, accepted, read}
use Rattle.scanning.specs.declared.known.Known.{Known}
use Rattle.scanning.specs.ForContracts.Known.{none_known, KnowsSheet}
use Rattle.reading.specs.declared.read.RefusedAt.{RefusedAt}

-- What is known before the first line, and of the sheet so far.
abbrev pub Knows : Known → State → Type 0
Knows k start = none_known k
Knows k (within s) = KnowsSheet k s

-- What a frame gives: the next state is known, or the refusal is the same.
abbrev pub FrameRead : Result State → Outcome Known Refusal → Type 0
FrameRead r (Ok k) = (next : State) × (r ≡ give next) × Knows k next
FrameRead r (Err x) = r ≡ refuse x

-- What every text earns: a refusal with its line, which is no greater than a text may be long, or a sheet that is known.
abbrev pub SheetRead : List ℕ → Outcome Known RefusedAt → Type 0
SheetRead text (Ok k) = (s : Sheet) × (read text ≡ accepted s) × KnowsSheet k s
SheetRead text (Err r) = (read text ≡ refused_at r.why r.line) × (r.line ≤ max_text)
