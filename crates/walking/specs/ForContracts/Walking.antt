-- The memory of the walk, and what it means.
use Rattle.std.specs.Prelude.{ℕ, ◌+◌, ◌-◌, ◌*◌, ◌≤◌, ◌<◌, ◌≡◌, Bool, false, List, ◌∷◌, ◌++◌, map, length, take, drop, Result, MatchResult}
use Rattle.std.proofs.Math.Option.{Option, none, some}
use Rattle.format.specs.Limits.{variable_count, max_lines, max_turns, record_bytes}
use Rattle.format.specs.declared.refusal.Refusal.{Refusal}
use Rattle.format.specs.Lists.{any, Every}
use Rattle.solving.specs.Line.{Element, Line, records}
use Rattle.terms.specs.Position.{Node}
use Rattle.solving.specs.Walk.{enough, treat_line, crowded, refused, over_limit, walk_until}
use Rattle.solving.specs.Turns.{table_after}
use Rattle.treating.specs.declared.treat.Treatment.{Treatment}
use Rattle.walking.specs.declared.walk.Walk.{Walk}
use Rattle.bindings.specs.ForContracts.PrefixForm.{view_of, InPrefixForm}
use Rattle.line_bytes.specs.ForContracts.Resting.{RestingLine, line_of}
use Rattle.lines.specs.declared.line.Line.{Line as LineValue}
use Rattle.line_bytes.specs.ForContracts.Layout.{line_bytes}
use Rattle.line_bytes.specs.ForContracts.Room.{lines_bytes}
use Rattle.lines.specs.ForContracts.Line.{Carries}
use Rattle.treating.specs.ForContracts.Treatment.{Treated}
use Rattle.walking.specs.ForContracts.WellFormed.{KnownReduced, WellFormed}

-- 255 places for lines.
abbrev pub memory_bytes : ℕ
memory_bytes = max_lines * line_bytes

abbrev pub AllWellFormed : (nodes sizes : List ℕ) → List RestingLine → Type 0
AllWellFormed nodes sizes = Every (WellFormed nodes sizes)

-- Finished lines, none longer than allowed.
module _ (view : ℕ → Node) where
  pub record FinishedLine (l : Line) : Type 0 where
    pub nothing_left : treat_line enough view l ≡ none
    pub short : crowded l ≡ false

  abbrev pub AllFinished : List Line → Type 0
  AllFinished = Every FinishedLine

-- Finished lines stand as records from the front, the others from their place to the end.
pub record HoldsTable (nodes sizes memory : List ℕ) (done top : ℕ) (finished : List Line) (unfinished : List RestingLine) : Type 0 where
  pub length_is : length memory ≡ memory_bytes
  pub records_are : take (done * record_bytes) memory ≡ records finished
  pub lines_are : drop (top * line_bytes) memory ≡ lines_bytes unfinished
  pub done_is : length finished ≡ done
  pub top_is : top + length unfinished ≡ max_lines
  pub ordered : done ≤ top
  pub all_finished : AllFinished (view_of nodes sizes) finished
  pub all_well_formed : AllWellFormed nodes sizes unfinished

-- The table that the walk as it is defined comes to in as many turns as the cursor has counted, from the positions that it has.
abbrev pub table_reached : (nodes sizes : List ℕ) → Walk → Option (List Line)
table_reached nodes sizes w = table_after enough (view_of nodes sizes) over_limit variable_count w.source w.target w.turns

-- The walk has come so far: that table is in the memory.
pub record Walking (nodes sizes memory : List ℕ) (w : Walk) : Type 0 where
  pub laid : InPrefixForm nodes sizes
  pub finished : List Line
  pub unfinished : List RestingLine
  pub holds : HoldsTable nodes sizes memory w.done w.top finished unfinished
  pub turns_within : w.turns ≤ max_turns
  pub comes : table_reached nodes sizes w ≡ some (finished ++ map line_of unfinished)

-- All elements of the first unfinished line are fully reduced.
pub record Finishing (nodes sizes memory : List ℕ) (w : Walk) : Type 0 where
  pub laid : InPrefixForm nodes sizes
  pub finished : List Line
  pub first : RestingLine
  pub others : List RestingLine
  pub holds : HoldsTable nodes sizes memory w.done w.top finished (first ∷ others)
  pub turns_within : w.turns ≤ max_turns
  pub comes : table_reached nodes sizes w ≡ some (finished ++ map line_of (first ∷ others))
  pub all_reduced : KnownReduced nodes sizes first.bindings first.elements

-- Element number `at` of the first unfinished line is to be treated.
pub record Treating (nodes sizes memory : List ℕ) (w : Walk) (at : ℕ) (t : Treatment) : Type 0 where
  pub laid : InPrefixForm nodes sizes
  pub finished : List Line
  pub first : RestingLine
  pub others : List RestingLine
  pub holds : HoldsTable nodes sizes memory w.done w.top finished (first ∷ others)
  pub turns_within : w.turns ≤ max_turns
  pub comes : table_reached nodes sizes w ≡ some (finished ++ map line_of (first ∷ others))
  pub pre : List Element
  pub element : Element
  pub post : List Element
  pub split : first.elements ≡ pre ++ (element ∷ post)
  pub at_is : length pre ≡ at
  pub not_passed : first.reduced ≤ at
  pub pre_reduced : KnownReduced nodes sizes first.bindings pre
  pub treated : Treated nodes sizes first.bindings element t

-- The code has that line by its named parts, or no more of it than the number of its elements.
pub record TreatingLine (nodes sizes memory : List ℕ) (w : Walk) (l : LineValue) (at : ℕ) (t : Treatment) : Type 0 where
  pub treating : Treating nodes sizes memory w at t
  pub line_holds : Carries l treating.first

pub record TreatingCount (nodes sizes memory : List ℕ) (w : Walk) (count at : ℕ) (t : Treatment) : Type 0 where
  pub treating : Treating nodes sizes memory w at t
  pub count_is : count ≡ length treating.first.elements
  pub turns_below : w.turns < max_turns

-- What is left to do: less with each turn, and with each line that is finished.
abbrev pub left_to_do : Walk → ℕ
left_to_do w = (max_lines + 1) * (max_turns - w.turns) + (max_lines - w.top)

-- The same walk, further on: a line more is finished, or a turn more is taken.
pub record Further (w v : Walk) : Type 0 where
  pub same_source : v.source ≡ w.source
  pub same_target : v.target ≡ w.target
  pub top_within : v.top ≤ max_lines
  pub one_turn : v.turns ≤ w.turns + 1
  pub falls : left_to_do v < left_to_do w

-- The walk goes on from a new table. Its new lines are those from the new first place to the former first place, this one included: what no line had before, a line
-- has exactly if one of these has it.
pub record GoesOn (nodes sizes memory : List ℕ) (w v : Walk) : Type 0 where
  pub walking : Walking nodes sizes memory v
  pub further : Further w v
  pub only_new : (has : Line → Bool) → ((table : List Line) → table_reached nodes sizes w ≡ some table → any has table ≡ false)
      → any has (walking.finished ++ map line_of walking.unfinished) ≡ any has (map line_of (take (w.top + 1 - v.top) walking.unfinished))

-- The walk is refused at its next turn, whatever would stop it later.
abbrev pub Earns : (nodes sizes : List ℕ) → Walk → Refusal → Type 0
Earns nodes sizes w r =
    (table : List Line) → table_reached nodes sizes w ≡ some table → (stop : List Line → Bool)
    → walk_until enough (view_of nodes sizes) over_limit stop (max_turns - w.turns) w.turns table ≡ refused r

-- What a turn answers.
pub record Advances (nodes sizes memory : List ℕ) (w : Walk) (a : Result Walk Refusal) : Type 0 where
  pub outcome : MatchResult a (GoesOn nodes sizes memory w) (Earns nodes sizes w)
