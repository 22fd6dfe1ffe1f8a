-- Demands 2 and 3 over what the calls give, what judge gives, and W3, W5, W6, W8 and W10 of document 02, each a proposition beside its words. Theory proves them:
-- Verdicts, Tables, Judges, Runs, Walks, Filling, Always, Termination, and all together Met. The contracts of the six calls (src/) equate what the code gives with
-- these outcomes, so that the demands speak of the code.
use Rattle.std.specs.Prelude.{ℕ, suc, ◌≤◌, ◌<◌, ◌≡◌, ◌⊎◌, ◌↔◌, Bool, true, false, List, [], ◌∷◌, length}
use Rattle.std.proofs.Math.Option.{none, some}
use mathlib.Core.WellFounded.{Acc}
use Rattle.format.specs.Limits.{variable_count, position_count, max_elements, max_turns, scratch_bytes}
use Rattle.format.specs.Refusal.{number}
use Rattle.format.specs.declared.refusal.Refusal.{Refusal}
use Rattle.format.specs.declared.refusal.Refusal.TheVariants.{ShortBuffer as short_buffer, AbsentArgument as absent_argument}
use Rattle.format.specs.Buffer.{written}
use Rattle.format.specs.Lists.{entry}
use Rattle.terms.specs.Term.{Term, Terms, app, nil, count, Ground, Grounds, Values, inst}
use Rattle.terms.specs.Filling.{lowest_constant, filling}
use Rattle.terms.specs.Equation.{Equation, direction_of, source, target, source_position, target_position, view, value}
use Rattle.terms.specs.declared.direction.Direction.{Direction}
use Rattle.path_order.specs.Order.{◌≻◌}
use Rattle.path_order.specs.Below.{Below}
use Rattle.ordering.specs.declared.decision.Clause.TheVariants.{L1 as by_L1, L2 as by_L2, L3 as by_L3}
use Rattle.ordering.specs.Clause.{Applies}
use Rattle.sheet.specs.Sheet.{Sheet, run, judgement, comparison, equation_width}
use Rattle.sheet.specs.Reading.{accepted, read}
use Rattle.solving.specs.Line.{Bindings, Element, equal, greater, Line, line, records}
use Rattle.solving.specs.Walk.{Fuel, AtLeast, solved, refused, walk_within, solve, Solves}
use Rattle.solving.specs.Always.{has_empty, answered, always, reached}
use Rattle.solving.specs.Holds.{LineHolds, SomeLineHolds}
use Rattle.reducing.specs.declared.ending.Ending.TheVariants.{NoneFound as none_found}
use Rattle.reducing.specs.Run.{Descending, last_term}
use Rattle.reducing.specs.Test.{line_run, reference_run, EverySolves, given_values}
use Rattle.reducing.specs.ForContracts.Rules.{rule_number}
use Rattle.reducing.specs.Reduction.{Reduces, Irreducible, StepsReduce}
use Rattle.reducing.specs.Walks.{equation_line}
use Rattle.termination.specs.Walk.{slots, enough_for, no_limit, walk_allowed, WalkEnds}
use Rattle.termination.specs.Run.{RunEnds}
use Rattle.outcomes.specs.Buffer.{field_limit, fields, first_field, refusal_byte, refusal_number, blanked, cleared}
use Rattle.outcomes.specs.Outcome.{compare_call, table_fits, solve_call, answer_number, always_call, judge_call, run_fits, run_done, run_call}

-- The number that a call returns names no refusal.
abbrev pub Served : ℕ → Type 0
Served returned = refusal_byte returned ≡ 0

-- Demand 2: "Verdicts on ground terms are those of L1 to L3 as document 01 gives them".

-- The two ground terms of a task of an accepted sheet.
pub record ComparisonTask (sheet : List ℕ) (task : ℕ) : Type 0 where
  pub content : Sheet
  pub reads : read sheet ≡ accepted content
  pub first : Term
  pub second : Term
  pub task_there : entry content.tasks task ≡ some (comparison first second)
  pub first_ground : Ground content.arities first
  pub second_ground : Ground content.arities second

-- "0 smaller, 1 equal, 2 greater", in the first field: 2 exactly if the first term exceeds the second by L1 to L3, 1 exactly if they are identical, 0 exactly if
-- the second exceeds the first. `ClauseDemand` (W8) below has the whole number.
pub record VerdictDemand (sheet : List ℕ) (task : ℕ) (scratch : List ℕ) : Type 0 where
  pub named : ComparisonTask sheet task
  pub greater_told : (first_field (compare_call sheet task scratch).returned ≡ 2) ↔ (named.first ≻ named.second)
  pub equal_told : (first_field (compare_call sheet task scratch).returned ≡ 1) ↔ (named.first ≡ named.second)
  pub smaller_told : (first_field (compare_call sheet task scratch).returned ≡ 0) ↔ (named.second ≻ named.first)

abbrev pub VerdictsDemanded : Type 0
VerdictsDemanded = (sheet : List ℕ) (task : ℕ) (scratch : List ℕ) → Served (compare_call sheet task scratch).returned → VerdictDemand sheet task scratch

-- Demand 2: "the table of lines and its turn count are those of the walk that document 01 writes out". Demand 3: "For any accepted sheet, any direction that solves
-- within its limits, any ground terms over the sheet's symbols, whatever their size, as values of the variables: the source instance exceeds the target
-- instance by L1 to L3 exactly when some line of that direction's table holds."

-- The equation and the direction that a call of solve or always names in an accepted sheet.
pub record DirectionNamed (sheet : List ℕ) (e d : ℕ) : Type 0 where
  pub content : Sheet
  pub reads : read sheet ≡ accepted content
  pub equation : Equation
  pub direction : Direction
  pub equation_there : entry content.equations e ≡ some equation
  pub direction_there : direction_of d ≡ some direction

-- Lines that records can hold: a slot for each variable, each binding a position, and inequalities between positions, at most 40.
abbrev pub BoundToPositions : Bindings → Type 0
BoundToPositions [] = Unit {0}
BoundToPositions (none ∷ θ) = BoundToPositions θ
BoundToPositions (some p ∷ θ) = (p < position_count) × BoundToPositions θ

abbrev pub BetweenPositions : List Element → Type 0
BetweenPositions [] = Unit {0}
BetweenPositions (equal p q ∷ es) = ⊥
BetweenPositions (greater p q ∷ es) = (p < position_count) × (q < position_count) × BetweenPositions es

abbrev pub Recorded : List Line → Type 0
Recorded [] = Unit {0}
Recorded (line θ es ∷ ls) = (length θ ≡ variable_count) × BoundToPositions θ × (length es ≤ max_elements) × BetweenPositions es × Recorded ls

pub record TableDemand (sheet : List ℕ) (e d : ℕ) (table scratch : List ℕ) : Type 0 where
  pub named : DirectionNamed sheet e d
  -- The lines and the turns are the walk's; the number has their counts, and the table's first bytes are the lines' records.
  pub lines : List Line
  pub turns : ℕ
  pub walked : solve named.equation named.direction ≡ solved lines turns
  pub counts : (solve_call sheet e d table scratch).returned ≡ fields (length lines) turns 0
  pub bytes : (solve_call sheet e d table scratch).table ≡ written (records lines) table
  -- Every element of a written line is an inequality, and the bytes determine the lines.
  pub recorded : Recorded lines
  pub determined : (others : List Line) → Recorded others → records others ≡ records lines → others ≡ lines
  -- At all values of the variables, the ground terms over the sheet's symbols among them.
  pub exact : (ρ : Values) → (inst ρ (source named.equation named.direction) ≻ inst ρ (target named.equation named.direction)) ↔ SomeLineHolds ρ (value named.equation ρ) lines

abbrev pub TablesDemanded : Type 0
TablesDemanded = (sheet : List ℕ) (e d : ℕ) (table scratch : List ℕ) → Served (solve_call sheet e d table scratch).returned → TableDemand sheet e d table scratch

-- Document 01, 'Calls and lent memory': "Judge: 1 or 0, first holding line counted from 1 or 0."

-- What a call of judge names in an accepted sheet: an equation, a direction, and "ground values for variables 80 up to the highest of that equation, one each".
pub record JudgementNamed (sheet : List ℕ) (task : ℕ) : Type 0 where
  pub content : Sheet
  pub reads : read sheet ≡ accepted content
  pub equation_number : ℕ
  pub equation : Equation
  pub direction : Direction
  pub values : Terms
  pub task_there : entry content.tasks task ≡ some (judgement equation_number direction values)
  pub equation_there : entry content.equations equation_number ≡ some equation
  pub one_each : count values ≡ equation_width equation
  pub values_ground : Grounds content.arities values

-- The values of the frame: the first is that of variable 80, the next that of 81, and so on. And the instance at these values of the term at a position.
module _ {sheet : List ℕ} {task : ℕ} (named : JudgementNamed sheet task) where
  abbrev pub frame_values : Values
  frame_values = given_values named.values

  abbrev pub frame_instance : (position : ℕ) → Term
  frame_instance = value named.equation frame_values

pub record JudgeDemand (sheet : List ℕ) (task : ℕ) (table scratch : List ℕ) : Type 0 where
  pub named : JudgementNamed sheet task
  -- "Judge and run first walk every equation and direction in order": judge serves only where every direction solves. The order tells which refusal is given
  -- else (`first_refusal`): `JudgeRefusedInOrder` below.
  pub solves : EverySolves named.content.equations
  -- The lines are those with which the walk of the judged direction ends, and which solve writes.
  pub lines : List Line
  pub turns : ℕ
  pub walked : solve named.equation named.direction ≡ solved lines turns
  -- The number has the answer and the first holding line; "scratch's first 57,344 bytes are 00"; "judge and run leave the table's first" 23,715 (document 02, W9)
  -- "bytes ff".
  pub answer : Bool
  pub holding : ℕ
  pub given : judge_call sheet task table scratch ≡ record { returned = fields (answer_number answer) holding 0; table = blanked table; scratch = cleared scratch }
  -- A table has at most 255 lines, so that the line fits its field.
  pub fits : holding < field_limit
  -- "1 or 0": 1 exactly if the source instance exceeds the target instance by L1 to L3, which is exactly if some line holds.
  pub exceeds : (answer ≡ true) ↔ (inst (frame_values named) (source named.equation named.direction) ≻ inst (frame_values named) (target named.equation named.direction))
  pub some_line : (answer ≡ true) ↔ SomeLineHolds (frame_values named) (frame_instance named) lines
  -- "first holding line counted from 1 or 0": the line of this number holds, and none before it does; 0 exactly if none holds. `entry` counts from 0.
  pub line_holds : (i : ℕ) → holding ≡ suc i → (l : Line) × (entry lines i ≡ some l) × LineHolds (frame_values named) (frame_instance named) l
  pub none_earlier : (i : ℕ) (l : Line) → suc i < holding → entry lines i ≡ some l → ¬ LineHolds (frame_values named) (frame_instance named) l
  pub none_holds : (holding ≡ 0) ↔ (¬ SomeLineHolds (frame_values named) (frame_instance named) lines)

abbrev pub JudgesDemanded : Type 0
JudgesDemanded = (sheet : List ℕ) (task : ℕ) (table scratch : List ℕ) → Served (judge_call sheet task table scratch).returned → JudgeDemand sheet task table scratch

-- Demand 3: "Where every direction solves, a run, which consults only the lines, has for every ground term and step limit the same steps in the same order,
-- count, ending and last term as the reference run, which compares the instances by L1 to L3; and each term of the run exceeds the next." Both have the same
-- filling (document 02, W5): "The reference run takes the same filling before it compares instances, and a run is compared with that."

-- The step limit and the ground term that a call of run names in an accepted sheet.
pub record RunNamed (sheet : List ℕ) (task : ℕ) : Type 0 where
  pub content : Sheet
  pub reads : read sheet ≡ accepted content
  pub limit : ℕ
  pub subject : Term
  pub task_there : entry content.tasks task ≡ some (run limit subject)
  pub subject_ground : Ground content.arities subject

pub record RunDemand (sheet : List ℕ) (task : ℕ) (table scratch term log : List ℕ) : Type 0 where
  pub named : RunNamed sheet task
  pub solves : EverySolves named.content.equations
  -- The number, the term, the log and every other byte are those of the reference run.
  pub given : run_call sheet task table scratch term log ≡ run_done table scratch term log named.subject (reference_run (filling named.content.arities) named.content.equations named.limit named.subject)
  -- And so for every other term and step limit over these equations.
  pub same_run : (k : ℕ) (subject : Term) → line_run (filling named.content.arities) named.content.equations k subject ≡ reference_run (filling named.content.arities) named.content.equations k subject
  pub descending : (k : ℕ) (subject : Term) → Descending subject (line_run (filling named.content.arities) named.content.equations k subject).steps

abbrev pub RunsDemanded : Type 0
RunsDemanded = (sheet : List ℕ) (task : ℕ) (table scratch term log : List ℕ) → Served (run_call sheet task table scratch term log).returned → RunDemand sheet task table scratch term log

-- Demand 3 in its own words, of every accepted sheet, whatever calls are made on it.
abbrev pub TablesExact : Type 0
TablesExact =
    (sheet : List ℕ) (s : Sheet) → read sheet ≡ accepted s → (e : ℕ) (q : Equation) → entry s.equations e ≡ some q → (d : Direction) (solves : Solves q d)
    → (ρ : Values) → (inst ρ (source q d) ≻ inst ρ (target q d)) ↔ SomeLineHolds ρ (value q ρ) solves.table

abbrev pub RunsAreReferenceRuns : Type 0
RunsAreReferenceRuns =
    (sheet : List ℕ) (s : Sheet) → read sheet ≡ accepted s → EverySolves s.equations → (k : ℕ) (subject : Term)
    → (line_run (filling s.arities) s.equations k subject ≡ reference_run (filling s.arities) s.equations k subject) × Descending subject (line_run (filling s.arities) s.equations k subject).steps

-- What is asked for is given: with buffers that are long enough, compare serves each task of two terms, solve each direction that solves, and, where every
-- direction solves, judge each judgement and run each run.
abbrev pub CompareServes : Type 0
CompareServes =
    (sheet : List ℕ) (s : Sheet) (task : ℕ) (t u : Term) (scratch : List ℕ) → read sheet ≡ accepted s → entry s.tasks task ≡ some (comparison t u)
    → scratch_bytes ≤ length scratch → Served (compare_call sheet task scratch).returned

abbrev pub SolveServes : Type 0
SolveServes =
    (sheet : List ℕ) (s : Sheet) (e d : ℕ) (q : Equation) (o : Direction) (table scratch : List ℕ) → read sheet ≡ accepted s → entry s.equations e ≡ some q
    → direction_of d ≡ some o → Solves q o → table_fits table scratch ≡ true → Served (solve_call sheet e d table scratch).returned

abbrev pub JudgeServes : Type 0
JudgeServes =
    (sheet : List ℕ) (s : Sheet) (task e : ℕ) (d : Direction) (values : Terms) (table scratch : List ℕ) → read sheet ≡ accepted s → entry s.tasks task ≡ some (judgement e d values)
    → EverySolves s.equations → table_fits table scratch ≡ true → Served (judge_call sheet task table scratch).returned

abbrev pub RunServes : Type 0
RunServes =
    (sheet : List ℕ) (s : Sheet) (task k : ℕ) (t : Term) (table scratch term log : List ℕ) → read sheet ≡ accepted s → entry s.tasks task ≡ some (run k t)
    → EverySolves s.equations → run_fits table scratch term log ≡ true → Served (run_call sheet task table scratch term log).returned

-- Judge is refused by the first walk that is refused, with its equation's line, whichever equation and direction the task names: "Judge and run first walk every
-- equation and direction in order"; "The line is the equation's"; "Refusals 8 to 10 leave" 23,715 (document 02, W9) "table bytes ff and 57,344 scratch bytes 00".
-- Equation `i` in direction `o` is refused, and all before it in the order solve: equations ascending, direction 00 before 01 (`rule_number`).
abbrev pub JudgeRefusedInOrder : Type 0
JudgeRefusedInOrder =
    (sheet : List ℕ) (s : Sheet) (task e : ℕ) (d : Direction) (values : Terms) (table scratch : List ℕ) → read sheet ≡ accepted s → entry s.tasks task ≡ some (judgement e d values)
    → table_fits table scratch ≡ true → (i : ℕ) (q : Equation) (o : Direction) (why : Refusal) → entry s.equations i ≡ some q → solve q o ≡ refused why
    → ((j : ℕ) (p : Equation) (c : Direction) → entry s.equations j ≡ some p → rule_number j c < rule_number i o → Solves p c)
    → judge_call sheet task table scratch ≡ record { returned = refusal_number why (equation_line i); table = blanked table; scratch = cleared scratch }

-- Document 01: "On an accepted sheet no refusal but 11 or 12, which give no table and no run, can meet solve on a direction that solves, or run where every
-- direction solves."
abbrev pub ServedOrHost : ℕ → Type 0
ServedOrHost returned = Served returned ⊎ ((refusal_byte returned ≡ number short_buffer) ⊎ (refusal_byte returned ≡ number absent_argument))

abbrev pub SolveRefusedByHost : Type 0
SolveRefusedByHost =
    (sheet : List ℕ) (s : Sheet) (e d : ℕ) (table scratch : List ℕ) → read sheet ≡ accepted s
    → ((q : Equation) (o : Direction) → entry s.equations e ≡ some q → direction_of d ≡ some o → Solves q o) → ServedOrHost (solve_call sheet e d table scratch).returned

abbrev pub RunRefusedByHost : Type 0
RunRefusedByHost =
    (sheet : List ℕ) (s : Sheet) (task : ℕ) (table scratch term log : List ℕ) → read sheet ≡ accepted s
    → EverySolves s.equations → ServedOrHost (run_call sheet task table scratch term log).returned

-- Document 02, W3: "The host still receives the old width": each count of turns with which solve or always ends fits a field of 16 bits. That the code holds the
-- count "in a 16-bit number throughout the walk" is no statement about the definitions: the code's types and contracts say it (docs/DEMANDS.md).
abbrev pub TurnsFit : Type 0
TurnsFit =
    (q : Equation) (d : Direction)
    → ((solves : Solves q d) → solves.turns < field_limit) × ((answer : Bool) (turns : ℕ) → always q d ≡ answered answer turns → turns < field_limit)

-- Document 02, W5: "fills such a variable with the lowest constant of the sheet". On an accepted sheet this is a ground term over the sheet's symbols: a symbol of
-- arity 0, and none of a lower number has arity 0.
pub record FillingDemand (arities : List ℕ) : Type 0 where
  pub term_is : filling arities ≡ app (lowest_constant arities) nil
  pub is_ground : Ground arities (filling arities)
  pub a_constant : entry arities (lowest_constant arities) ≡ some 0
  pub none_lower : (f : ℕ) → entry arities f ≡ some 0 → lowest_constant arities ≤ f

abbrev pub FillingDemanded : Type 0
FillingDemanded = (sheet : List ℕ) (s : Sheet) → read sheet ≡ accepted s → FillingDemand s.arities

-- "Every direction is usable": by ground reduction, which is stated apart from the run's text (`Reduces`). Each step of a run is a reduction by its equation in its
-- direction at its position, with the filling for each variable that the source lacks.
abbrev pub RunsReduce : Type 0
RunsReduce =
    (sheet : List ℕ) (s : Sheet) → read sheet ≡ accepted s → EverySolves s.equations → (k : ℕ) (subject : Term)
    → StepsReduce (filling s.arities) s.equations subject (line_run (filling s.arities) s.equations k subject).steps

-- And where a run ends because no step is found (ending 00), no equation reduces its last term in any direction.
abbrev pub RunsEndIrreducible : Type 0
RunsEndIrreducible =
    (sheet : List ℕ) (s : Sheet) → read sheet ≡ accepted s → EverySolves s.equations → (k : ℕ) (subject : Term)
    → (line_run (filling s.arities) s.equations k subject).ending ≡ none_found
    → Irreducible (filling s.arities) s.equations (last_term subject (line_run (filling s.arities) s.equations k subject).steps)

-- Document 02, W6: "Tutors often want only to know whether a direction always holds."

-- "Its fields are 1 or 0, and the turns taken by then. Table bytes are left ff, scratch 00." Where the answer is yes, the source instance exceeds the target
-- instance at all values of the variables, the ground terms over the sheet's symbols among them. No claims nothing (document 01: "The converses are not claimed").
pub record AlwaysDemand (sheet : List ℕ) (e d : ℕ) (table scratch : List ℕ) : Type 0 where
  pub named : DirectionNamed sheet e d
  pub answer : Bool
  pub turns : ℕ
  pub walked : always named.equation named.direction ≡ answered answer turns
  pub given : always_call sheet e d table scratch ≡ record { returned = fields (answer_number answer) turns 0; table = blanked table; scratch = cleared scratch }
  pub holds : answer ≡ true → (ρ : Values) → inst ρ (source named.equation named.direction) ≻ inst ρ (target named.equation named.direction)

abbrev pub AlwaysDemanded : Type 0
AlwaysDemanded = (sheet : List ℕ) (e d : ℕ) (table scratch : List ℕ) → Served (always_call sheet e d table scratch).returned → AlwaysDemand sheet e d table scratch

-- "with the same lent buffers and order of refusals": where always names a refusal, solve gives the same number and the same bytes.
abbrev pub RefusedAsSolve : Type 0
RefusedAsSolve = (sheet : List ℕ) (e d : ℕ) (table scratch : List ℕ) → ¬ Served (always_call sheet e d table scratch).returned → always_call sheet e d table scratch ≡ solve_call sheet e d table scratch

-- "Where solve succeeds, yes means exactly that its table has such a line": over what the two calls give, and over the walks.
abbrev pub YesIsInTheTable : Type 0
YesIsInTheTable =
    (sheet : List ℕ) (e d : ℕ) (table scratch : List ℕ) → Served (solve_call sheet e d table scratch).returned → (solved : TableDemand sheet e d table scratch)
    → (turns : ℕ) × (turns ≤ solved.turns)
    × (always_call sheet e d table scratch ≡ record { returned = fields (answer_number (has_empty solved.lines)) turns 0; table = blanked table; scratch = cleared scratch })

abbrev pub YesIsInTheWalk : Type 0
YesIsInTheWalk = (q : Equation) (o : Direction) (solves : Solves q o) → (turns : ℕ) × (turns ≤ solves.turns) × (always q o ≡ answered (has_empty solves.table) turns)

-- "says yes as soon as the whole table, looked over after each turn that is not refused, has a finished line with no binding and no element": the table after these
-- turns has one, and no table before it.
pub record ReachedFirst (q : Equation) (o : Direction) (turns : ℕ) : Type 0 where
  pub table : List Line
  pub comes : reached q o turns ≡ some table
  pub has : has_empty table ≡ true
  pub counted : (1 ≤ turns) × (turns ≤ max_turns)
  pub none_earlier : (n : ℕ) (other : List Line) → n < turns → reached q o n ≡ some other → has_empty other ≡ false

abbrev pub YesAsSoon : Type 0
YesAsSoon = (q : Equation) (o : Direction) (turns : ℕ) → always q o ≡ answered true turns → ReachedFirst q o turns

-- "A yes already reached stands though solve would later have given 8, 9 or 10": wherever the table after at most 10,000 turns has such a line, the answer is yes,
-- after no more turns than that.
abbrev pub YesStands : Type 0
YesStands =
    (q : Equation) (o : Direction) (n : ℕ) (table : List Line) → n ≤ max_turns → reached q o n ≡ some table → has_empty table ≡ true
    → (turns : ℕ) × (turns ≤ n) × (always q o ≡ answered true turns)

-- "else no when the walk ends": with the table and the turns of solve.
abbrev pub NoAtTheEnd : Type 0
NoAtTheEnd = (q : Equation) (o : Direction) (turns : ℕ) → always q o ≡ answered false turns → (table : List Line) × (solve q o ≡ solved table turns) × (has_empty table ≡ false)

-- With buffers that are long enough always serves each direction for which there is an answer.
abbrev pub AlwaysServes : Type 0
AlwaysServes =
    (sheet : List ℕ) (s : Sheet) (e d : ℕ) (q : Equation) (o : Direction) (answer : Bool) (turns : ℕ) (table scratch : List ℕ) → read sheet ≡ accepted s → entry s.equations e ≡ some q
    → direction_of d ≡ some o → always q o ≡ answered answer turns → table_fits table scratch ≡ true → Served (always_call sheet e d table scratch).returned

-- Document 02, W8: "Comparison of ground terms now yields with 'greater' the first of L1, L2, L3 that applies, and with 'smaller' the first that applies the other
-- way round. ... the compare call a second field: 01, 02, 03, or 00 for equal."
pub record ClauseDemand (sheet : List ℕ) (task : ℕ) (scratch : List ℕ) : Type 0 where
  pub named : ComparisonTask sheet task
  -- Greater: a clause applies to the first term and the second, and none before it does.
  pub greater_by_L1 : ((compare_call sheet task scratch).returned ≡ fields 2 1 0) ↔ Applies by_L1 named.first named.second
  pub greater_by_L2 : ((compare_call sheet task scratch).returned ≡ fields 2 2 0) ↔ ((¬ Applies by_L1 named.first named.second) × Applies by_L2 named.first named.second)
  pub greater_by_L3 : ((compare_call sheet task scratch).returned ≡ fields 2 3 0)
      ↔ ((¬ Applies by_L1 named.first named.second) × (¬ Applies by_L2 named.first named.second) × Applies by_L3 named.first named.second)
  pub equal_told : ((compare_call sheet task scratch).returned ≡ fields 1 0 0) ↔ (named.first ≡ named.second)
  -- Smaller: the same the other way round.
  pub smaller_by_L1 : ((compare_call sheet task scratch).returned ≡ fields 0 1 0) ↔ Applies by_L1 named.second named.first
  pub smaller_by_L2 : ((compare_call sheet task scratch).returned ≡ fields 0 2 0) ↔ ((¬ Applies by_L1 named.second named.first) × Applies by_L2 named.second named.first)
  pub smaller_by_L3 : ((compare_call sheet task scratch).returned ≡ fields 0 3 0)
      ↔ ((¬ Applies by_L1 named.second named.first) × (¬ Applies by_L2 named.second named.first) × Applies by_L3 named.second named.first)

abbrev pub ClausesDemanded : Type 0
ClausesDemanded = (sheet : List ℕ) (task : ℕ) (scratch : List ℕ) → Served (compare_call sheet task scratch).returned → ClauseDemand sheet task scratch

-- Document 02, W10: "The syllabus states that ground reduction cannot go on forever, and we want it as a fact about our definitions."

-- "no endless sequence of ground terms over a sheet descends by L1 to L3", whatever the sheet: `arities` are those of its symbols. In the field's words the
-- ordering is well-founded on these terms, that is, each of them is accessible: `Acc` is the least property that holds of a term wherever it holds of every
-- term below it.
abbrev pub GroundTermsAccessible : Type 0
GroundTermsAccessible = (arities : List ℕ) (t : Term) → Ground arities t → Acc (Below arities) t

-- In plain words: in every endless sequence of ground terms there is a term that does not exceed the next.
abbrev pub NoEndlessDescent : Type 0
NoEndlessDescent = (arities : List ℕ) (sequence : ℕ → Term) → ((i : ℕ) → Ground arities (sequence i)) → (i : ℕ) × ¬ (sequence i ≻ sequence (suc i))

-- "ground reduction cannot go on forever": on an accepted sheet, from a ground term, whichever steps are chosen.
abbrev pub NoEndlessReduction : Type 0
NoEndlessReduction =
    (sheet : List ℕ) (s : Sheet) → read sheet ≡ accepted s → (terms : ℕ → Term) → Ground s.arities (terms 0) → ¬ ((i : ℕ) → Reduces (filling s.arities) s.equations (terms i) (terms (suc i)))

-- Where every direction solves, each step of a run is such a step (`RunsReduce`). So there is no endless run: on every accepted sheet where every direction
-- solves, the run with unlimited steps and without the limit of 160 nodes ends for every ground term.
abbrev pub RunsEnd : Type 0
RunsEnd = (sheet : List ℕ) (s : Sheet) → read sheet ≡ accepted s → EverySolves s.equations → (subject : Term) → Ground s.arities subject → RunEnds (filling s.arities) s.equations subject

-- It has one end.
abbrev pub RunsEndOnce : Type 0
RunsEndOnce = (filling : Term) (es : List Equation) (subject : Term) (u v : RunEnds filling es subject) → u.steps ≡ v.steps

-- Where the run of document 01, with any step limit, ends because no step is found (ending 00), both have the same steps.
abbrev pub RunsEndAlike : Type 0
RunsEndAlike =
    (filling : Term) (es : List Equation) (k : ℕ) (subject : Term) → (line_run filling es k subject).ending ≡ none_found → (unlimited : RunEnds filling es subject)
    → unlimited.steps ≡ (line_run filling es k subject).steps

-- "the walk, written without its three limits, ends for every pair of terms": for every equation, that is, any two terms of any size with any number of
-- variables, in each direction. A proof of this is a total function, which gives the last table and the number of turns.
abbrev pub WalksEnd : Type 0
WalksEnd = (e : Equation) (d : Direction) → WalkEnds e d

-- It has one end.
abbrev pub WalksEndOnce : Type 0
WalksEndOnce = (e : Equation) (d : Direction) (u v : WalkEnds e d) → (u.table ≡ v.table) × (u.turns ≡ v.turns)

-- The depth of its recursions through the bindings is no limit either: no larger depth changes the walk, whatever number of turns is allowed.
abbrev pub DepthIsNoLimit : Type 0
DepthIsNoLimit =
    (e : Equation) (d : Direction) (fuel : Fuel) → AtLeast (enough_for e) fuel → (most : ℕ)
    → walk_within fuel (view e) no_limit (λ table. false) most (slots e) (source_position e d) (target_position e d) ≡ walk_allowed e d most

-- "and on a direction that solves with that direction's table and turns"
abbrev pub WalksEndAsSolved : Type 0
WalksEndAsSolved =
    (sheet : List ℕ) (s : Sheet) → read sheet ≡ accepted s → (e : ℕ) (q : Equation) → entry s.equations e ≡ some q → (d : Direction) (solves : Solves q d)
    → (unlimited : WalkEnds q d) → (unlimited.table ≡ solves.table) × (unlimited.turns ≡ solves.turns)

-- And so with what solve gives: the number has the counts, and the table's first bytes are the records, of the walk without its limits.
pub record UnlimitedDemand (sheet : List ℕ) (e d : ℕ) (table scratch : List ℕ) : Type 0 where
  pub named : DirectionNamed sheet e d
  pub unlimited : WalkEnds named.equation named.direction
  pub counts : (solve_call sheet e d table scratch).returned ≡ fields (length unlimited.table) unlimited.turns 0
  pub bytes : (solve_call sheet e d table scratch).table ≡ written (records unlimited.table) table

abbrev pub WalksEndAsGiven : Type 0
WalksEndAsGiven = (sheet : List ℕ) (e d : ℕ) (table scratch : List ℕ) → Served (solve_call sheet e d table scratch).returned → UnlimitedDemand sheet e d table scratch

-- All of these. A proof is `demands_met` (Theory/Met).
pub record Demands : Type 0 where
  -- Demands 2 and 3, and what judge gives.
  pub verdicts_demanded : VerdictsDemanded
  pub tables_demanded : TablesDemanded
  pub judges_demanded : JudgesDemanded
  pub runs_demanded : RunsDemanded
  pub tables_exact : TablesExact
  pub runs_are_reference_runs : RunsAreReferenceRuns
  -- What is asked for is given.
  pub compare_serves : CompareServes
  pub solve_serves : SolveServes
  pub judge_serves : JudgeServes
  pub run_serves : RunServes
  -- Which refusal judge gives.
  pub judge_refused_in_order : JudgeRefusedInOrder
  -- "no refusal but 11 or 12"
  pub solve_refused_by_host : SolveRefusedByHost
  pub run_refused_by_host : RunRefusedByHost
  -- W3
  pub turns_fit : TurnsFit
  -- W5
  pub filling_demanded : FillingDemanded
  pub runs_reduce : RunsReduce
  pub runs_end_irreducible : RunsEndIrreducible
  -- W6
  pub always_demanded : AlwaysDemanded
  pub refused_as_solve : RefusedAsSolve
  pub yes_is_in_the_table : YesIsInTheTable
  pub yes_is_in_the_walk : YesIsInTheWalk
  pub yes_as_soon : YesAsSoon
  pub yes_stands_so : YesStands
  pub no_at_the_end : NoAtTheEnd
  pub always_serves : AlwaysServes
  -- W8
  pub clauses_demanded : ClausesDemanded
  -- W10
  pub ground_terms_accessible : GroundTermsAccessible
  pub descents_end : NoEndlessDescent
  pub reductions_end : NoEndlessReduction
  pub runs_end : RunsEnd
  pub runs_end_once : RunsEndOnce
  pub runs_end_alike : RunsEndAlike
  pub walks_end : WalksEnd
  pub walks_end_once : WalksEndOnce
  pub depth_is_no_limit : DepthIsNoLimit
  pub walks_end_as_solved : WalksEndAsSolved
  pub walks_end_as_given : WalksEndAsGiven
