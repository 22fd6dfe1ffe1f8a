-- The laws of what is still to be printed.
use Prim.Native.Nat.{ℕ, zero, suc, ◌+◌, ◌-◌, ◌*◌, ◌≤◌, ◌<◌}
use Rattle.std.specs.Prelude.{◌≡◌, length, take}
use Rattle.std.proofs.Math.Path.{refl, sym, ap, ap₂}
use Rattle.std.proofs.Common.{◌∙◌, take-append-drop, drop-drop}
use Rattle.std.proofs.Math.Option.{none, some}
use mathlib.Core.List.{List, [], ◌∷◌, ◌++◌, flat_map, append_assoc, append-nil}
use native.Mathlib.Omega.{arith}
use Rattle.std.proofs.Math.ListN.{drop, drop_of_length-le}
use Rattle.format.specs.declared.refusal.Refusal.{Refusal}
use Rattle.format.specs.Lists.{entry}
use Rattle.terms.specs.Term.{Term}
use Rattle.terms.specs.Filling.{filling}
use Rattle.terms.specs.Equation.{Equation, direction_number}
use Rattle.terms.specs.declared.direction.Direction.{Direction}
use Rattle.terms.specs.declared.direction.Direction.TheVariants.{LeftRight as left_right, RightLeft as right_left}
use Rattle.sheet.specs.Sheet.{Task, run, judgement, comparison, Sheet}
use Rattle.sheet.specs.Reading.{refused_at, accepted, read}
use Rattle.solving.specs.Walk.{solve}
use Rattle.reducing.specs.ForContracts.Rules.{rule_number}
use Rattle.reducing.specs.Test.{line_run}
use Rattle.reducing.specs.Walks.{WalkRefusal, first_refusal}
use Rattle.listing.specs.Listing.{printed, two_bytes, total_kind, table_frames, equation_frames, task_frames, steps_taken, sheet_frames, walked_frames, refusal_frame, frames, listing}
use Rattle.cursor.specs.declared.place.Place.{Place}
use Rattle.cursor.specs.declared.place.Place.TheVariants.{Start, Table, Line, Task as TaskPlace, End}
use Rattle.cursor.specs.ForContracts.Rest.{rule_frames, frames_from, tasks_from, left_frames, frames_left, rest}

-- The frames of a rule are those of its equation and direction.
rule_frames_from : (n : ℕ) (es : List Equation) (i : ℕ) (d : Direction) {e : Equation} → entry es i ≡ some e → rule_frames n es (rule_number i d) ≡ table_frames (n + i) e d (solve e d)
unfolding rule_frames entry direction_number
rule_frames_from n [] i d x = let z : ◌≡◌ {A = ℕ} 0 1 = cc in absurd (omega arith)
rule_frames_from n (q ∷ es) zero left_right {e} x = let w : q ≡ e = cc in let m : n ≡ n + 0 = omega arith in ap₂ (λ m q. table_frames m q left_right (solve q left_right)) m w
rule_frames_from n (q ∷ es) zero right_left {e} x = let w : q ≡ e = cc in let m : n ≡ n + 0 = omega arith in ap₂ (λ m q. table_frames m q right_left (solve q right_left)) m w
rule_frames_from n (q ∷ es) (suc i) d {e} x =
    let f : rule_number (suc i) d ≡ suc (suc (rule_number i d)) = omega arith in
    let m : suc n + i ≡ n + suc i = omega arith in
    ap (rule_frames n (q ∷ es)) f ∙ (rule_frames_from (suc n) es i d x ∙ ap (λ m. table_frames m e d (solve e d)) m)

pub rule_frames_are : (es : List Equation) (i : ℕ) (d : Direction) {e : Equation} → entry es i ≡ some e → rule_frames 0 es (rule_number i d) ≡ table_frames i e d (solve e d)
rule_frames_are es i d {e} x = let m : 0 + i ≡ i = omega arith in rule_frames_from 0 es i d x ∙ ap (λ m. table_frames m e d (solve e d)) m

from_first : (n : ℕ) (es : List Equation) → equation_frames n es ≡ frames_from n es 0
unfolding frames_from equation_frames
from_first n [] = refl
from_first n (q ∷ qs) = refl

-- A rule's frames, and then those behind it.
frames_next : (n : ℕ) (es : List Equation) (rule : ℕ) → rule < 2 * length es → frames_from n es rule ≡ rule_frames n es rule ++ frames_from n es (suc rule)
unfolding frames_from rule_frames equation_frames
frames_next n [] rule h = absurd (omega arith)
frames_next n (e ∷ es) zero h = append_assoc (table_frames n e left_right (solve e left_right)) (table_frames n e right_left (solve e right_left)) (equation_frames (suc n) es)
frames_next n (e ∷ es) (suc zero) h = ap (table_frames n e right_left (solve e right_left) ++◌) (from_first (suc n) es)
frames_next n (e ∷ es) (suc (suc rule)) h = frames_next (suc n) es rule (omega arith)

no_more_frames : (n : ℕ) (es : List Equation) (rule : ℕ) → rule ≡ 2 * length es → frames_from n es rule ≡ []
unfolding frames_from
no_more_frames n [] rule h = refl
no_more_frames n (e ∷ es) zero h = absurd (omega arith)
no_more_frames n (e ∷ es) (suc zero) h = absurd (omega arith)
no_more_frames n (e ∷ es) (suc (suc rule)) h = no_more_frames (suc n) es rule (omega arith)

-- The steps of a task.
unfoldable pub task_steps : (filling : Term) → List Equation → Task → ℕ
unfolding line_run
task_steps constant es (run k s) = length (line_run constant es k s).steps
task_steps constant es (judgement n d vs) = 0
task_steps constant es (comparison s t) = 0

steps_more : (constant : Term) (es : List Equation) (t : Task) (ts : List Task) → steps_taken constant es (t ∷ ts) ≡ task_steps constant es t + steps_taken constant es ts
unfolding steps_taken task_steps
steps_more constant es (run k s) ts = refl
steps_more constant es (judgement n d vs) ts = omega arith
steps_more constant es (comparison s t) ts = omega arith

entry_drop : {A : Type 0} (xs : List A) (i : ℕ) {x : A} → entry xs i ≡ some x → drop i xs ≡ x ∷ drop (suc i) xs
unfolding entry
entry_drop [] i h = let z : ◌≡◌ {A = ℕ} 0 1 = cc in absurd (omega arith)
entry_drop (y ∷ ys) zero h = cc
entry_drop (y ∷ ys) (suc i) h = entry_drop ys i h

module _ (s : Sheet) where
  -- From the table of a rule to its lines, from line to line, from the last line to the next rule, and from the last rule to the tasks.
  pub table_left : (rule lines : ℕ) (first : List ℕ) (ls : List (List ℕ)) → rule < 2 * length s.equations → rule_frames 0 s.equations rule ≡ first ∷ ls
      → left_frames s (Table rule) ≡ first ∷ left_frames s (Line rule 0 lines)
  unfolding left_frames
  table_left rule lines first ls h x =
      let es = s.equations in
      let behind = frames_from 0 es (suc rule) in
      let tasks = tasks_from s 0 0 in
      ap (◌++ tasks) (frames_next 0 es rule h ∙ ap (◌++ behind) x)
      ∙ ap (first ∷◌) (append_assoc ls behind tasks ∙ ap (λ l. drop 1 l ++ (behind ++ tasks)) (sym x))

  pub some_lines_left : (rule first line lines : ℕ) → first ≤ line
      → left_frames s (Line rule first lines) ≡ take (line - first) (drop (suc first) (rule_frames 0 s.equations rule)) ++ left_frames s (Line rule line lines)
  unfolding left_frames
  some_lines_left rule first line lines h =
      let fs = rule_frames 0 s.equations rule in
      let behind = frames_from 0 s.equations (suc rule) ++ tasks_from s 0 0 in
      let n = line - first in
      let far : suc first + n ≡ suc line = omega arith in
      ap (◌++ behind) (sym (take-append-drop n (drop (suc first) fs)) ∙ ap (take n (drop (suc first) fs) ++◌) (drop-drop n (suc first) fs ∙ ap (λ k. drop k fs) far))
      ∙ append_assoc (take n (drop (suc first) fs)) (drop (suc line) fs) behind

  pub lines_left : (rule line lines : ℕ) → length (rule_frames 0 s.equations rule) ≤ suc line → left_frames s (Line rule line lines) ≡ left_frames s (Table (suc rule))
  unfolding left_frames
  lines_left rule line lines h = ap (◌++ (frames_from 0 s.equations (suc rule) ++ tasks_from s 0 0)) (drop_of_length-le (rule_frames 0 s.equations rule) h)

  pub tables_left : (rule : ℕ) → rule ≡ 2 * length s.equations → left_frames s (Table rule) ≡ left_frames s (TaskPlace 0 0)
  unfolding left_frames
  tables_left rule h = ap (◌++ tasks_from s 0 0) (no_more_frames 0 s.equations rule h)

  -- From task to task, and the last frame.
  pub task_left : (task steps : ℕ) (t : Task) → entry s.tasks task ≡ some t
      → left_frames s (TaskPlace task steps) ≡ task_frames (filling s.arities) s.equations t ++ left_frames s (TaskPlace (suc task) (steps + task_steps (filling s.arities) s.equations t))
  unfolding left_frames tasks_from flat_map
  task_left task steps t x =
      let constant = filling s.arities in
      let es = s.equations in
      let behind = drop (suc task) s.tasks in
      let e = entry_drop s.tasks task x in
      let n : steps + steps_taken constant es (t ∷ behind) ≡ (steps + task_steps constant es t) + steps_taken constant es behind = omega (arith, steps_more constant es t behind) in
      ap (λ ts. flat_map (task_frames constant es) ts ++ (total_kind ∷ two_bytes (steps + steps_taken constant es ts)) ∷ []) e
      ∙ (append_assoc (task_frames constant es t) (flat_map (task_frames constant es) behind) ((total_kind ∷ two_bytes (steps + steps_taken constant es (t ∷ behind))) ∷ [])
      ∙ ap (λ n. task_frames constant es t ++ (flat_map (task_frames constant es) behind ++ (total_kind ∷ two_bytes n) ∷ [])) n)

  pub total_left : (task steps : ℕ) → length s.tasks ≤ task → left_frames s (TaskPlace task steps) ≡ (total_kind ∷ two_bytes steps) ∷ left_frames s End
  unfolding left_frames tasks_from flat_map steps_taken
  total_left task steps h =
      let e : drop task s.tasks ≡ [] = drop_of_length-le s.tasks h in
      let n : steps + 0 ≡ steps = omega arith in
      ap (λ ts. flat_map (task_frames (filling s.arities) s.equations) ts ++ (total_kind ∷ two_bytes (steps + steps_taken (filling s.arities) s.equations ts)) ∷ []) e ∙ ap (λ n. (total_kind ∷ two_bytes n) ∷ []) n

-- A place behind the start.
abbrev pub Begun : Place → Type 0
Begun Start = ⊥
Begun (Table rule) = Unit {0}
Begun (Line rule line lines) = Unit {0}
Begun (TaskPlace task steps) = Unit {0}
Begun End = Unit {0}

module _ (input : List ℕ) where
  pub rest_left : (s : Sheet) → read input ≡ accepted s → (place : Place) → Begun place → rest input place ≡ printed (left_frames s place)
  unfolding rest frames_left left_frames
  rest_left s r Start b = absurd b
  rest_left s r (Table rule) b = ap (λ x. printed (frames_left x (Table rule))) r
  rest_left s r (Line rule line lines) b = ap (λ x. printed (frames_left x (Line rule line lines))) r
  rest_left s r (TaskPlace task steps) b = ap (λ x. printed (frames_left x (TaskPlace task steps))) r
  rest_left s r End b = refl

  -- The refusal of the sheet, or of a walk; else the tables.
  pub start_refused : (why : Refusal) (line : ℕ) → read input ≡ refused_at why line → rest input Start ≡ printed (refusal_frame why line ∷ []) ++ rest input End
  unfolding rest listing frames printed
  start_refused why line r = ap (λ x. printed (frames x)) r ∙ sym (append-nil (printed (refusal_frame why line ∷ [])))

  module _ (s : Sheet) (r : read input ≡ accepted s) where
    pub start_unsolved : (w : WalkRefusal) → first_refusal 0 s.equations ≡ some w → rest input Start ≡ printed (refusal_frame w.refusal w.line ∷ []) ++ rest input End
    unfolding rest listing frames walked_frames printed
    start_unsolved w x = ap (λ y. printed (frames y)) r ∙ (ap (λ y. printed (walked_frames s y)) x ∙ sym (append-nil (printed (refusal_frame w.refusal w.line ∷ []))))

    pub start_left : first_refusal 0 s.equations ≡ none → rest input Start ≡ rest input (Table 0)
    unfolding rest listing frames walked_frames sheet_frames left_frames tasks_from
    start_left x =
        let constant = filling s.arities in
        let es = s.equations in
        let tasks = flat_map (task_frames constant es) s.tasks in
        let total = (total_kind ∷ two_bytes (steps_taken constant es s.tasks)) ∷ [] in
        let n : steps_taken constant es s.tasks ≡ 0 + steps_taken constant es s.tasks = omega arith in
        ap (λ y. printed (frames y)) r
        ∙ (ap (λ y. printed (walked_frames s y)) x
        ∙ (ap printed (append_assoc (equation_frames 0 es) tasks total ∙ ap₂ (λ f n. f ++ (tasks ++ (total_kind ∷ two_bytes n) ∷ [])) (from_first 0 es) n)
        ∙ sym (rest_left s r (Table 0) tt)))
