-- What the contracts of the code that finds a frame of an accepted sheet cite.
use Rattle.std.specs.Prelude.{ℕ, ◌≡◌, List, ◌++◌, length}
use Rattle.std.proofs.Math.Option.{some}
use Rattle.format.specs.Buffer.{written}
use Rattle.format.specs.Lists.{Every, entry}
use Rattle.terms.specs.Equation.{Equation, direction_number}
use Rattle.terms.specs.Prefix.{prefix, prefixes}
use Rattle.scanning.specs.declared.known.Known.{Known}
use Rattle.reading.specs.declared.seek.TaskHead.{TaskHead}
use Rattle.reading.specs.declared.seek.TaskHead.TheVariants.{Run, Judgement, Comparison}
use Rattle.reading.specs.declared.seek.TaskFound.{TaskFound}
use Rattle.sheet.specs.Text.{TextLine, lines_of, frame_of}
use Rattle.sheet.specs.Sheet.{Task, run, judgement, comparison, Sheet}
use Rattle.sheet.specs.Reading.{accepted, read}
use Rattle.scanning.specs.ForContracts.Digits.{BodyReady, bytes_between}
use Rattle.scanning.specs.ForContracts.Known.{KnowsSheet}

-- Line `n` of the text, counted from 0, is this frame.
abbrev pub FrameIn : List ℕ → ℕ → List ℕ → Type 0
FrameIn text n frame = (line : TextLine) × (entry (lines_of text) n ≡ some line) × (frame_of line ≡ some frame)

-- The line is a frame.
abbrev pub IsFrame : TextLine → Type 0
IsFrame line = (frame : List ℕ) × (frame_of line ≡ some frame)

-- Every line of the text is a frame.
abbrev pub AllFrames : List ℕ → Type 0
AllFrames text = Every IsFrame (lines_of text)

-- The text is accepted, and its sheet is known: what `read_sheet` gives of an accepted text.
abbrev pub Accepts : List ℕ → Known → Type 0
Accepts text known = (s : Sheet) × (read text ≡ accepted s) × KnowsSheet known s

-- The text is accepted, and this is its equation `e`, its task `k`.
abbrev pub EquationIn : List ℕ → ℕ → Equation → Type 0
EquationIn text e q = (s : Sheet) × (read text ≡ accepted s) × (entry s.equations e ≡ some q)

abbrev pub TaskIn : List ℕ → ℕ → Task → Type 0
TaskIn text k t = (s : Sheet) × (read text ≡ accepted s) × (entry s.tasks k ≡ some t)

-- The digits from `from` to `end` write these bytes.
pub record Spans (text : List ℕ) (from end : ℕ) (bs : List ℕ) : Type 0 where
  pub ready : BodyReady text from end
  pub writes : bytes_between text from end ≡ bs

-- The bytes stand first in the buffer, `n` of them, and the rest of it is unchanged.
abbrev pub Decoded : (bs before after : List ℕ) → ℕ → Type 0
Decoded bs before after n = (n ≡ length bs) × (after ≡ written bs before)

-- A task without its terms, and the bytes of its terms.
abbrev pub task_head : Task → TaskHead
task_head (run k s) = Run k
task_head (judgement e d ts) = Judgement e (direction_number d)
task_head (comparison s t) = Comparison

unfoldable pub task_terms : Task → List ℕ
unfolding prefix
task_terms (run k s) = prefix s
task_terms (judgement e d ts) = prefixes ts
task_terms (comparison s t) = prefix s ++ prefix t

abbrev pub TaskAt : List ℕ → Task → TaskFound → Type 0
TaskAt text t r = (r.head ≡ task_head t) × Spans text r.terms.from r.terms.end (task_terms t)
