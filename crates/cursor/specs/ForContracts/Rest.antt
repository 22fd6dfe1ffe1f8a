-- What of the listing is still to be printed at a place.
use Rattle.std.specs.Prelude.{ℕ, zero, suc, ◌+◌, ◌-◌, ◌*◌, ◌≤◌, ◌<◌, ◌≡◌, length, take, drop}
use mathlib.Core.List.{List, [], ◌∷◌, ◌++◌, flat_map}
use Rattle.terms.specs.Filling.{filling}
use Rattle.terms.specs.Equation.{Equation}
use Rattle.terms.specs.declared.direction.Direction.TheVariants.{LeftRight as left_right, RightLeft as right_left}
use Rattle.sheet.specs.Sheet.{Sheet}
use Rattle.sheet.specs.Reading.{Reading, refused_at, accepted, read}
use Rattle.solving.specs.Walk.{solve}
use Rattle.listing.specs.Listing.{printed, two_bytes, total_kind, table_frames, equation_frames, task_frames, steps_taken, listing}
use Rattle.cursor.specs.declared.place.Place.{Place}
use Rattle.cursor.specs.declared.place.Place.TheVariants.{Start, Table, Line, Task, End}

-- The frames of one rule's table. Rule 2 · n is direction 00 of equation n, and the next is its direction 01.
unfoldable pub rule_frames : (n : ℕ) → List Equation → (rule : ℕ) → List (List ℕ)
rule_frames n [] rule = []
rule_frames n (e ∷ es) zero = table_frames n e left_right (solve e left_right)
rule_frames n (e ∷ es) (suc zero) = table_frames n e right_left (solve e right_left)
rule_frames n (e ∷ es) (suc (suc rule)) = rule_frames (suc n) es rule

-- Those of this rule and all behind it.
unfoldable pub frames_from : (n : ℕ) → List Equation → (rule : ℕ) → List (List ℕ)
unfolding equation_frames
frames_from n [] rule = []
frames_from n (e ∷ es) zero = equation_frames n (e ∷ es)
frames_from n (e ∷ es) (suc zero) = table_frames n e right_left (solve e right_left) ++ equation_frames (suc n) es
frames_from n (e ∷ es) (suc (suc rule)) = frames_from (suc n) es rule

-- The frames of this task and all behind it, where the runs before it have taken `steps` steps; then the last frame.
unfoldable pub tasks_from : Sheet → (task steps : ℕ) → List (List ℕ)
tasks_from s task steps =
    let constant = filling s.arities in
    flat_map (task_frames constant s.equations) (drop task s.tasks) ++ (total_kind ∷ two_bytes (steps + steps_taken constant s.equations (drop task s.tasks))) ∷ []

unfoldable pub left_frames : Sheet → Place → List (List ℕ)
unfolding rule_frames frames_from tasks_from
-- Not met: at the start the sheet is not read yet.
left_frames s Start = []
left_frames s (Table rule) = frames_from 0 s.equations rule ++ tasks_from s 0 0
-- The first frame of a table stands before its lines.
left_frames s (Line rule line lines) = drop (suc line) (rule_frames 0 s.equations rule) ++ (frames_from 0 s.equations (suc rule) ++ tasks_from s 0 0)
left_frames s (Task task steps) = tasks_from s task steps
left_frames s End = []

unfoldable pub frames_left : Reading Sheet → Place → List (List ℕ)
unfolding left_frames
frames_left (refused_at why line) place = []
frames_left (accepted s) place = left_frames s place

-- The text that is still to be printed.
unfoldable pub rest : (input : List ℕ) → Place → List ℕ
unfolding frames_left listing printed read
rest input Start = listing input
rest input (Table rule) = printed (frames_left (read input) (Table rule))
rest input (Line rule line lines) = printed (frames_left (read input) (Line rule line lines))
rest input (Task task steps) = printed (frames_left (read input) (Task task steps))
rest input End = printed []

-- A number that falls from place to place. There are at most 32 rules, 255 lines and 32 tasks; any numbers do that leave room for these.
abbrev pub places_left : Place → ℕ
places_left Start = 40 + 34 * 300
places_left (Table rule) = 40 + (33 - rule) * 300
places_left (Line rule line lines) = 40 + (32 - rule) * 300 + (299 - line)
places_left (Task task steps) = 1 + (33 - task)
places_left End = 0

-- The first `bytes` of the buffer are what is to be printed from one place to the next.
pub record Gives (input : List ℕ) (place : Place) (out : List ℕ) (bytes : ℕ) (next : Place) : Type 0 where
  pub text : rest input place ≡ take bytes out ++ rest input next
  pub within : bytes ≤ length out
  pub falls : places_left next < places_left place
