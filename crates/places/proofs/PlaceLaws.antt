-- From place to place.
use Prim.Native.Nat.{ℕ, suc, ◌+◌, ◌-◌, ◌*◌, ◌≤◌, ◌<◌}
use mathlib.Core.Path.{◌≡◌, sym, ap, ap₂, subst, ◌∙◌}
use mathlib.Core.Bool.{Bool}
use mathlib.Core.Option.{some}
use mathlib.Core.List.{List, [], ◌∷◌, ◌++◌}
use native.Mathlib.Numerals.{add-one}
use native.Mathlib.Omega.{arith}
use native.Mathlib.Decide.{ℕ_discrete}
use lib.ListN.{length, take, drop}
use Rattle.format.specs.Limits.{max_equations, max_tasks, max_steps}
use Rattle.format.specs.Lists.{entry}
use Rattle.format.specs.Theory.Lists.{entry_found}
use Rattle.terms.specs.Filling.{filling}
use Rattle.terms.specs.Equation.{Equation}
use Rattle.sheet.specs.Sheet.{Task, Sheet}
use Rattle.scanning.specs.declared.known.Known.{Known}
use Rattle.scanning.specs.ForContracts.Scan.{known_arities}
use Rattle.reducing.specs.Test.{EverySolves}
use Rattle.rules.specs.ForContracts.Rows.{HasRows}
use Rattle.listing.specs.Listing.{printed, two_bytes, total_kind, task_frames}
use Rattle.rules.specs.ForContracts.Walks.{LinesReady}
use Rattle.listing.specs.ForContracts.Appended.{Appended}
use Rattle.listing.specs.Theory.Printed.{length_printed_one}
use Rattle.cursor.specs.declared.place.Place.{Place}
use Rattle.cursor.specs.declared.place.Place.TheVariants.{Table, Line as LinePlace, Task as TaskPlace, End}
use Rattle.cursor.specs.declared.place.Cursor.{Cursor}
use Rattle.cursor.specs.declared.place.Listed.{Listed}
use Rattle.cursor.specs.ForContracts.Rest.{rule_frames, left_frames}
use Rattle.cursor.specs.ForContracts.Stands.{Ready, LinesThere, under_way, at_end, Progress}
use Rattle.cursor.specs.Theory.Rest.{task_steps, table_left, some_lines_left, lines_left, tables_left, task_left, total_left}
use Rattle.cursor.specs.Theory.Gives.{gives_frames, gives_none}
use Rattle.tables.specs.ForContracts.Table.{TableGiven, LinesGiven}
use Rattle.tables.specs.Theory.Tables.{frames_count}
use Rattle.tasks.specs.declared.task.TaskListed.{TaskListed}
use Rattle.tasks.specs.ForContracts.Task.{TaskGiven}

abbrev moved_to : Known → Bool → Place → ℕ → Listed Cursor
moved_to known fits place bytes = record { next = record { place = place; opened = record { known = known; fits = fits } }; bytes = bytes }

-- A rule that is not behind the last one.
pub table_low : {rule n : ℕ} {m : ℕ} → rule ≤ 2 * n → m ≡ n → (rule ≡ m + m → ⊥) → rule < 2 * n
table_low {rule} {n} {m} h e other = elim (ℕ_discrete rule (m + m)) [ yes x ↦ absurd (other x) | no x ↦ omega arith ]

pub below : {rule n : ℕ} {m : ℕ} → rule ≤ 2 * n → m ≡ n → (rule ≡ m + m → ⊥) → rule < m + m
below h e other = let x = table_low h e other in omega arith

module _ {input : List ℕ} {known : Known} {fits : Bool} {equations lengths bounds table : List ℕ} {s : Sheet} (r : Ready input known fits equations lengths bounds table s) where
  pub few_equations : length s.equations ≤ max_equations
  few_equations = r.rows.few

  pub equations_counted : known.equations ≡ length s.equations
  equations_counted = r.knows.equations_are

  pub few_tasks : length s.tasks ≤ max_tasks
  few_tasks = r.knows.valid.few_tasks

  pub its_rows : HasRows equations lengths known.equations
  its_rows = record { arities = known_arities known; those = s.equations; are = r.rows; counted = equations_counted }

  module _ {scratch out : List ℕ} {x : Listed Cursor} where
    -- 1. From a table.
    pub tables_done : (rule : ℕ) → x ≡ moved_to known fits (TaskPlace 0 0) 0 → rule ≡ known.equations + known.equations → Progress input (Table rule) equations lengths bounds table scratch out x
    tables_done rule e h =
        subst (Progress input (Table rule) equations lengths bounds table scratch out) (sym e) (record {
          gives = gives_none s r.reads tt tt out (tables_left s rule (omega (arith, equations_counted))) (omega (arith, equations_counted, few_equations));
          stands = under_way s r (omega arith, omega arith);
        })

    pub table_done : (rule : ℕ) {before : List ℕ} (p : Listed Place) → x ≡ moved_to known fits p.next p.bytes → rule < 2 * length s.equations → TableGiven s.equations rule scratch before out p
        → Progress input (Table rule) equations lengths bounds table scratch out x
    table_done rule p e h g =
        let y : x ≡ moved_to known fits (LinePlace rule 0 g.lines) p.bytes = e ∙ ap (λ q. moved_to known fits q p.bytes) g.next in
        subst (Progress input (Table rule) equations lengths bounds table scratch out) (sym y) (record {
          gives = gives_frames s r.reads tt tt (g.first ∷ []) (table_left s rule g.lines g.first g.others h g.frames_are) g.appended g.within (omega (arith, few_equations));
          stands = under_way s r (g.records_there, omega arith);
        })

    -- 2. From a line.
    pub lines_done : (rule line lines : ℕ) → x ≡ moved_to known fits (Table (rule + 1)) 0 → line ≡ lines → LinesThere s.equations rule lines scratch
        → Progress input (LinePlace rule line lines) equations lengths bounds table scratch out x
    lines_done rule line lines e h l =
        let n : suc rule ≡ rule + 1 = sym (add-one rule) in
        subst (Progress input (LinePlace rule line lines) equations lengths bounds table scratch out) (sym e) (record {
          gives =
              gives_none s r.reads tt tt out
              (lines_left s rule line lines (omega (arith, frames_count l)) ∙ ap (λ k. left_frames s (Table k)) n)
              (omega (arith, few_equations, l.low, l.few));
          stands = under_way s r (omega (arith, l.low));
        })

    pub some_lines_done : (rule line lines : ℕ) {before : List ℕ} (p : Listed ℕ) → x ≡ moved_to known fits (LinePlace rule p.next lines) p.bytes → LinesThere s.equations rule lines scratch
        → LinesGiven s.equations rule line lines before out p → Progress input (LinePlace rule line lines) equations lengths bounds table scratch out x
    some_lines_done rule line lines p e l g =
        subst (Progress input (LinePlace rule line lines) equations lengths bounds table scratch out) (sym e) (record {
          gives =
              gives_frames s r.reads tt tt (take (p.next - line) (drop (suc line) (rule_frames 0 s.equations rule)))
              (some_lines_left s rule line p.next lines (omega (arith, g.some)))
              g.appended g.within (omega (arith, g.some, g.not_more, l.few));
          stands = under_way s r (l, g.not_more);
        })

    -- 3. From a task.
    pub total_done : (task steps bytes : ℕ) {before : List ℕ} → x ≡ moved_to known fits End bytes → task ≡ known.tasks → 7 ≤ length before
        → Appended before 0 (printed ((total_kind ∷ two_bytes steps) ∷ [])) out bytes → Progress input (TaskPlace task steps) equations lengths bounds table scratch out x
    unfolding two_bytes
    total_done task steps bytes e h room a =
        subst (Progress input (TaskPlace task steps) equations lengths bounds table scratch out) (sym e) (record {
          gives =
              gives_frames s r.reads tt tt ((total_kind ∷ two_bytes steps) ∷ []) (total_left s task steps (omega (arith, r.knows.tasks_are))) a
              (omega (arith, a.ends, a.same_length, length_printed_one (total_kind ∷ two_bytes steps)))
              (omega (arith, r.knows.tasks_are, few_tasks));
          stands = at_end;
        })

  pub task_low : {task : ℕ} → task ≤ length s.tasks → (task ≡ known.tasks → ⊥) → task < length s.tasks
  task_low {task} h other = elim (ℕ_discrete task known.tasks) [ yes x ↦ absurd (other x) | no x ↦ omega (arith, r.knows.tasks_are) ]

  pub steps_few : {task steps : ℕ} → task ≤ length s.tasks → steps ≤ max_steps * task → steps ≤ max_tasks * max_steps
  steps_few h k = omega (arith, few_tasks)

module _ {input : List ℕ} {known : Known} {fits : Bool} {equations lengths bounds table : List ℕ} {s : Sheet} (r : Ready input known fits equations lengths bounds table s)
    {task : ℕ} (low : task < length s.tasks) {before out : List ℕ} (p : TaskListed)
    (given : (s : Sheet) (t : Task) → Ready input known fits equations lengths bounds table s → entry s.tasks task ≡ some t → TaskGiven s.arities s.equations t before out p) where
  its_task : (t : Task) × (entry s.tasks task ≡ some t)
  its_task = entry_found s.tasks task low

  its_frames : TaskGiven s.arities s.equations its_task.0 before out p
  its_frames = given s its_task.0 r its_task.1

  pub steps_low : p.steps ≤ max_steps
  steps_low = its_frames.few_steps

  pub task_done : {table' scratch : List ℕ} {x : Listed Cursor} (steps : ℕ) → ((es : List Equation) → EverySolves es → LinesReady fits bounds table es → LinesReady fits bounds table' es)
      → x ≡ moved_to known fits (TaskPlace (task + 1) (steps + p.steps)) p.bytes → steps ≤ max_steps * task
      → Progress input (TaskPlace task steps) equations lengths bounds table' scratch out x
  task_done {table'} {scratch} steps stay e h =
      let g = its_frames in
      let n : left_frames s (TaskPlace (suc task) (steps + task_steps (filling s.arities) s.equations its_task.0)) ≡ left_frames s (TaskPlace (task + 1) (steps + p.steps)) =
      ap₂ (λ k m. left_frames s (TaskPlace k (steps + m))) (sym (add-one task)) (sym g.steps_are) in
      let ready : Ready input known fits equations lengths bounds table' s =
      record { reads = r.reads; knows = r.knows; every = r.every; rows = r.rows; bounds_length = r.bounds_length; lines = stay s.equations r.every r.lines } in
      subst (Progress input (TaskPlace task steps) equations lengths bounds table' scratch out) (sym e) (record {
        gives =
            gives_frames s r.reads tt tt (task_frames (filling s.arities) s.equations its_task.0)
            (task_left s task steps its_task.0 its_task.1 ∙ ap (task_frames (filling s.arities) s.equations its_task.0 ++◌) n)
            g.appended g.within (omega (arith, few_tasks r));
        stands = under_way s ready (omega arith, omega (arith, g.few_steps));
      })
