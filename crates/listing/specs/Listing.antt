-- The program's listing (document 01, 'The program'; document 02, W5, W8 and W9): from the bytes of standard input to the bytes of standard output.
use Rattle.std.specs.Prelude.{ℕ, zero, suc, ◌+◌, ◌/◌, ◌%◌, true, false, ltb}
use Rattle.std.proofs.Math.Option.{Option, none, some}
use mathlib.Core.List.{List, [], ◌∷◌, ◌++◌, map, flat_map}
use Rattle.std.proofs.Math.ListN.{length}
use Rattle.format.specs.Limits.{variable_count, first_variable}
use Rattle.format.specs.Refusal.{number}
use Rattle.format.specs.declared.refusal.Refusal.{Refusal}
use Rattle.format.specs.Lists.{entry}
use Rattle.terms.specs.Term.{Term, Values}
use Rattle.terms.specs.Equation.{Equation, direction_number, term_at}
use Rattle.terms.specs.declared.direction.Direction.{Direction}
use Rattle.terms.specs.declared.direction.Direction.TheVariants.{LeftRight as left_right, RightLeft as right_left}
use Rattle.terms.specs.Prefix.{prefix}
use Rattle.ordering.specs.declared.decision.Decision.{Decision}
use Rattle.ordering.specs.Verdict.{verdict_number}
use Rattle.ordering.specs.Decision.{decision, verdict_of, clause_number_of}
use Rattle.sheet.specs.Text.{LF, base}
use Rattle.sheet.specs.Sheet.{Task, run, judgement, comparison, Sheet}
use Rattle.sheet.specs.Reading.{Reading, refused_at, accepted, read_with, read}
use Rattle.solving.specs.Line.{Bindings, Element, equal, greater, Line, line}
use Rattle.solving.specs.Walk.{Walked, solved, refused, solve_with, solve}
use Rattle.reducing.specs.Run.{Step, Run, ending_number, last_term}
use Rattle.terms.specs.Filling.{filling}
use Rattle.reducing.specs.Test.{holding_line_with, holding_line, line_run_with, line_run, given_values}
use Rattle.reducing.specs.Walks.{WalkRefusal, first_refusal_with, first_refusal}

-- The first byte of each frame that is printed.
abbrev pub table_kind : ℕ
table_kind = 0x11

abbrev pub line_kind : ℕ
line_kind = 0x12

abbrev pub run_kind : ℕ
run_kind = 0x13

abbrev pub step_kind : ℕ
step_kind = 0x14

abbrev pub judgement_kind : ℕ
judgement_kind = 0x15

abbrev pub comparison_kind : ℕ
comparison_kind = 0x16

abbrev pub total_kind : ℕ
total_kind = 0x1f

abbrev pub refusal_kind : ℕ
refusal_kind = 0xff

-- "prints frames in the sheet's digits, LF after each"
unfoldable pub digit_byte : ℕ → ℕ
digit_byte n = elim (ltb n 10) [ true ↦ 0x30 + n | false ↦ 0x57 + n ]

unfoldable pub digits : List ℕ → List ℕ
unfolding digit_byte
digits [] = []
digits (b ∷ bs) = digit_byte (b / base) ∷ digit_byte (b % base) ∷ digits bs

unfoldable pub printed : (frames : List (List ℕ)) → List ℕ
unfolding digits
printed [] = []
printed (f ∷ fs) = digits f ++ LF ∷ printed fs

-- "two bytes, high first"
unfoldable pub two_bytes : ℕ → List ℕ
two_bytes n = n / 256 ∷ n % 256 ∷ []

-- "Refused (8 to 10 included): only 'ff', number, line in two bytes."
unfoldable pub refusal_frame : Refusal → (line : ℕ) → List ℕ
unfolding two_bytes
refusal_frame r n = refusal_kind ∷ number r ∷ two_bytes n

-- "each variable with its term", "bindings by ascending variable, terms as in the equation": the slots of the variables from `v` upward.
unfoldable pub binding_count : Bindings → ℕ
binding_count [] = 0
binding_count (none ∷ θ) = binding_count θ
binding_count (some p ∷ θ) = suc (binding_count θ)

unfoldable pub binding_terms : Equation → (v : ℕ) → Bindings → List ℕ
unfolding prefix term_at
binding_terms e v [] = []
binding_terms e v (none ∷ θ) = binding_terms e (suc v) θ
binding_terms e v (some p ∷ θ) = (first_variable + v) ∷ prefix (term_at e p) ++ binding_terms e (suc v) θ

-- "each left and right term"
unfoldable pub element_terms : Equation → Element → List ℕ
unfolding prefix term_at
element_terms e (equal p q) = prefix (term_at e p) ++ prefix (term_at e q)
element_terms e (greater p q) = prefix (term_at e p) ++ prefix (term_at e q)

-- "per line '12', binding count, each variable with its term, element count, each left and right term"
unfoldable pub line_frame : Equation → Line → List ℕ
unfolding binding_count binding_terms element_terms flat_map
line_frame e (line θ es) = line_kind ∷ binding_count θ ∷ binding_terms e 0 θ ++ length es ∷ flat_map (element_terms e) es

-- "for each equation and direction '11', equation, direction, lines, turns (two bytes, high first), then per line '12'"
unfoldable pub table_frames : (n : ℕ) → Equation → Direction → Walked → List (List ℕ)
unfolding direction_number two_bytes line_frame
table_frames n e d (solved ls t) = (table_kind ∷ n ∷ direction_number d ∷ length ls ∷ two_bytes t) ∷ map (line_frame e) ls
-- Not met: a sheet is listed where every walk solves.
table_frames n e d (refused r) = []

-- "run, each step '14', equation, direction, position, then '13', ending, steps, term"
unfoldable pub step_frame : Step → List ℕ
unfolding direction_number
step_frame s = step_kind ∷ s.equation ∷ direction_number s.direction ∷ s.position ∷ []

unfoldable pub run_frames : (subject : Term) → Run → List (List ℕ)
unfolding step_frame ending_number prefix last_term
run_frames subject r = map step_frame r.steps ++ (run_kind ∷ ending_number r.ending ∷ length r.steps ∷ prefix (last_term subject r.steps)) ∷ []

-- "judgement, '15', yes 01 or no 00, holding line or 00"
unfoldable pub judgement_frame : (holding : ℕ) → List ℕ
judgement_frame zero = judgement_kind ∷ 0 ∷ 0 ∷ []
judgement_frame (suc i) = judgement_kind ∷ 1 ∷ suc i ∷ []

-- "comparison, '16', 00 smaller, 01 equal, 02 greater"; "frame 16 gains a byte ...: 01, 02, 03, or 00 for equal" (document 02, W5, W8 and W9)
unfoldable pub comparison_frame : Decision → List ℕ
unfolding verdict_number verdict_of clause_number_of
comparison_frame d = comparison_kind ∷ verdict_number (verdict_of d) ∷ clause_number_of d ∷ []

-- With any number of variables.
module _ (variables : ℕ) where
  unfoldable pub equation_frames_with : (n : ℕ) → List Equation → List (List ℕ)
  unfolding table_frames solve_with
  equation_frames_with n [] = []
  equation_frames_with n (e ∷ es) = table_frames n e left_right (solve_with variables e left_right) ++ table_frames n e right_left (solve_with variables e right_left) ++ equation_frames_with (suc n) es

  unfoldable pub holding_with : Option Equation → Direction → Values → ℕ
  unfolding holding_line_with
  -- Not met: the equation of an accepted judgement is there.
  holding_with none d ρ = 0
  holding_with (some e) d ρ = holding_line_with variables e d ρ

  unfoldable pub task_frames_with : (filling : Term) → List Equation → Task → List (List ℕ)
  unfolding run_frames line_run_with judgement_frame holding_with given_values entry comparison_frame decision
  task_frames_with constant es (run k s) = run_frames s (line_run_with variables constant es k s)
  task_frames_with constant es (judgement n d ts) = judgement_frame (holding_with (entry es n) d (given_values ts)) ∷ []
  task_frames_with constant es (comparison s t) = comparison_frame (decision s t) ∷ []

  -- "steps of all runs"
  unfoldable pub steps_taken_with : (filling : Term) → List Equation → List Task → ℕ
  unfolding line_run_with
  steps_taken_with constant es [] = 0
  steps_taken_with constant es (run k s ∷ ts) = length (line_run_with variables constant es k s).steps + steps_taken_with constant es ts
  steps_taken_with constant es (judgement n d vs ∷ ts) = steps_taken_with constant es ts
  steps_taken_with constant es (comparison s t ∷ ts) = steps_taken_with constant es ts

  -- "Last '1f', steps of all runs in two bytes."
  unfoldable pub sheet_frames_with : Sheet → List (List ℕ)
  unfolding equation_frames_with filling task_frames_with steps_taken_with two_bytes flat_map
  sheet_frames_with s =
      let constant = filling s.arities in
      equation_frames_with 0 s.equations ++ flat_map (task_frames_with constant s.equations) s.tasks ++ (total_kind ∷ two_bytes (steps_taken_with constant s.equations s.tasks)) ∷ []

  unfoldable pub walked_frames_with : Sheet → Option WalkRefusal → List (List ℕ)
  unfolding refusal_frame sheet_frames_with
  walked_frames_with s (some r) = refusal_frame r.refusal r.line ∷ []
  walked_frames_with s none = sheet_frames_with s

  unfoldable pub frames_with : Reading Sheet → List (List ℕ)
  unfolding refusal_frame walked_frames_with first_refusal_with
  frames_with (refused_at r n) = refusal_frame r n ∷ []
  frames_with (accepted s) = walked_frames_with s (first_refusal_with variables 0 s.equations)

  -- "It reads a sheet from standard input and prints frames"
  unfoldable pub listing_with : List ℕ → List ℕ
  unfolding printed frames_with read_with
  listing_with input = printed (frames_with (read_with variables input))

-- With the sheet's number of variables.
unfoldable pub equation_frames : (n : ℕ) → List Equation → List (List ℕ)
unfolding equation_frames_with solve
equation_frames = equation_frames_with variable_count

unfoldable pub holding : Option Equation → Direction → Values → ℕ
unfolding holding_with holding_line
holding = holding_with variable_count

unfoldable pub task_frames : (filling : Term) → List Equation → Task → List (List ℕ)
unfolding task_frames_with line_run holding
task_frames = task_frames_with variable_count

unfoldable pub steps_taken : (filling : Term) → List Equation → List Task → ℕ
unfolding steps_taken_with line_run
steps_taken = steps_taken_with variable_count

unfoldable pub sheet_frames : Sheet → List (List ℕ)
unfolding sheet_frames_with equation_frames task_frames steps_taken
sheet_frames = sheet_frames_with variable_count

unfoldable pub walked_frames : Sheet → Option WalkRefusal → List (List ℕ)
unfolding walked_frames_with sheet_frames
walked_frames = walked_frames_with variable_count

unfoldable pub frames : Reading Sheet → List (List ℕ)
unfolding frames_with walked_frames first_refusal
frames = frames_with variable_count

unfoldable pub listing : List ℕ → List ℕ
unfolding listing_with frames read
listing = listing_with variable_count
