-- The frames of a sheet and the refusals 3 to 7 that they earn (document 01, 'The sheet' and 'Who can cause a refusal').
use Prim.Native.Nat.{ℕ, zero, suc, ◌+◌}
use Rattle.std.specs.Prelude.{Bool, ◌&&◌, length, leb, ltb, eqb}
use Rattle.std.proofs.Math.Bool.{true, false}
use Rattle.std.proofs.Math.Option.{Option, none, some}
use mathlib.Core.List.{List, [], ◌∷◌, ◌++◌}
use Rattle.format.specs.Limits.{variable_count, max_symbols, max_arity, max_equations, max_tasks, max_side_nodes, max_task_nodes}
use Rattle.format.specs.Kind.{kind_of}
use Rattle.format.specs.declared.kind.FrameKind.{FrameKind}
use Rattle.format.specs.declared.kind.FrameKind.TheVariants.{Symbols as symbols_kind, Equation as equation_kind, Run as run_kind, Judgement as judgement_kind, Comparison as comparison_kind, Unknown as unknown_kind}
use Rattle.format.specs.Refusal.{Result, refuse, give, result_map}
use Rattle.format.specs.declared.refusal.Refusal.TheVariants.{FrameOrder as frame_order, SymbolFrame as symbol_frame, FrameBytes as frame_bytes, NotGround as not_ground, AbsentDirection as absent_direction}
use Rattle.format.specs.Byte.{class_of_with, class_of}
use Rattle.format.specs.declared.byte.Class.{Class}
use Rattle.format.specs.declared.byte.Class.TheVariants.{Symbol as symbol, Variable as variable, Foreign as foreign}
use Rattle.format.specs.Lists.{any, all, entry}
use Rattle.terms.specs.Term.{Term, Terms, var, nth, arity}
use Rattle.terms.specs.Equation.{Equation, direction_of}
use Rattle.terms.specs.declared.direction.Direction.{Direction}
use Rattle.terms.specs.Prefix.{terms_of_with, terms_of}
use Rattle.sheet.specs.Sheet.{Task, run, judgement, comparison, Sheet, equation_width}

-- What is known: nothing before the first line, then the sheet so far.
pub data State : Type 0 where
  start : State
  within : Sheet → State

-- "Frame 01 comes first, once; then 1 to 16 of 02; then 0 to 32 tasks (03, 04, 05 in any order)."
unfoldable pub takes_equation : Sheet → Bool
takes_equation s = eqb (length s.tasks) 0 && ltb (length s.equations) max_equations

unfoldable pub takes_task : Sheet → Bool
takes_task s = leb 1 (length s.equations) && ltb (length s.tasks) max_tasks

unfoldable pub in_order : State → FrameKind → Bool
unfolding takes_equation takes_task
in_order start symbols_kind = true
in_order start equation_kind = false
in_order start run_kind = false
in_order start judgement_kind = false
in_order start comparison_kind = false
in_order start unknown_kind = false
in_order (within s) symbols_kind = false
in_order (within s) equation_kind = takes_equation s
in_order (within s) run_kind = takes_task s
in_order (within s) judgement_kind = takes_task s
in_order (within s) comparison_kind = takes_task s
in_order (within s) unknown_kind = false

-- "01: count n (1 to 16), then n arities (0 to 4). ... At least one arity is 0."
unfoldable pub symbols_right : ℕ → List ℕ → Bool
unfolding all any
symbols_right n arities = leb 1 n && leb n max_symbols && eqb (length arities) n && all (λ a. leb a max_arity) arities && any (λ a. eqb a 0) arities

unfoldable pub symbols_body : List ℕ → Result State
unfolding symbols_right
symbols_body [] = refuse symbol_frame
symbols_body (n ∷ arities) = elim (symbols_right n arities) [ true ↦ give (within (record { arities = arities; equations = []; tasks = [] })) | false ↦ refuse symbol_frame ]

-- A node of the next term, `need` terms coming behind that term: how many terms are to come after the node.
unfoldable pub after_node : (arities : List ℕ) → (is_ground : Bool) → Class → (need : ℕ) → Result ℕ
unfolding arity
after_node arities is_ground (symbol f) need = elim (ltb f (length arities)) [ true ↦ give (arity arities f + need) | false ↦ refuse frame_bytes ]
after_node arities true (variable v) need = refuse not_ground
after_node arities false (variable v) need = give need
after_node arities is_ground foreign need = refuse frame_bytes

-- "bytes left over"
unfoldable pub all_read : Terms → Result (List ℕ) → Result Terms
all_read ts (refuse r) = refuse r
all_read ts (give []) = give ts
all_read ts (give (b ∷ bs)) = refuse frame_bytes

unfoldable pub first_term : Terms → Term
unfolding nth
first_term ts = nth ts 0 (var 0)

unfoldable pub second_term : Terms → Term
unfolding nth
second_term ts = nth ts 1 (var 0)

unfoldable pub with_equation : Sheet → Equation → State
with_equation s e = within (record { arities = s.arities; equations = s.equations ++ (e ∷ []); tasks = s.tasks })

unfoldable pub with_task : Sheet → Task → State
with_task s t = within (record { arities = s.arities; equations = s.equations; tasks = s.tasks ++ (t ∷ []) })

-- With any number of variables.
module _ (variables : ℕ) where
  -- `need` terms in a row that may have `room` nodes together, byte by byte: the bytes behind them, or "the first of 5 and 6 by byte (5 where one byte earns both)".
  unfoldable pub scan_with : (arities : List ℕ) → (is_ground : Bool) → List ℕ → (need room : ℕ) → Result (List ℕ)
  unfolding after_node class_of_with
  scan_with arities is_ground [] zero room = give []
  scan_with arities is_ground [] (suc need) room = refuse frame_bytes
  scan_with arities is_ground (b ∷ bs) zero room = give (b ∷ bs)
  scan_with arities is_ground (b ∷ bs) (suc need) zero = refuse frame_bytes
  scan_with arities is_ground (b ∷ bs) (suc need) (suc room) = elim (after_node arities is_ground (class_of_with variables b) need) [ refuse r ↦ refuse r | give n ↦ scan_with arities is_ground bs n room ]

  -- "the terms of one task together at most 160"
  unfoldable pub ground_terms_with : (arities : List ℕ) → ℕ → List ℕ → Result Terms
  unfolding all_read scan_with terms_of_with
  ground_terms_with arities n bs = all_read (terms_of_with variables arities bs) (scan_with arities true bs n max_task_nodes)

  -- "An equation side has at most 32 nodes"
  unfoldable pub scan_sides_with : (arities : List ℕ) → List ℕ → Result (List ℕ)
  unfolding scan_with
  scan_sides_with arities bs = elim (scan_with arities false bs 1 max_side_nodes) [ refuse r ↦ refuse r | give rest ↦ scan_with arities false rest 1 max_side_nodes ]

  -- "02: an equation, left term then right term."
  unfoldable pub equation_body_with : (arities : List ℕ) → List ℕ → Result Equation
  unfolding all_read scan_sides_with terms_of_with first_term second_term result_map
  equation_body_with arities bs = result_map (λ ts. record { left = first_term ts; right = second_term ts }) (all_read (terms_of_with variables arities bs) (scan_sides_with arities bs))

  -- "03: a run: step limit k (00 to ff), a ground term."
  unfoldable pub run_body_with : Sheet → List ℕ → Result Task
  unfolding ground_terms_with first_term result_map
  run_body_with s [] = refuse frame_bytes
  run_body_with s (k ∷ bs) = result_map (λ ts. run k (first_term ts)) (ground_terms_with s.arities 1 bs)

  -- "04: a judgement: equation number, direction (00 or 01), then ground values for variables 80 up to the highest of that equation, one each".
  -- "7 and then the first of 5 and 6", "except that a 04 frame too short for equation and direction is 5 before 7".
  unfoldable pub values_body_with : Sheet → ℕ → Option Equation → Option Direction → List ℕ → Result Task
  unfolding ground_terms_with equation_width result_map
  values_body_with s e none d bs = refuse absent_direction
  values_body_with s e (some q) none bs = refuse absent_direction
  values_body_with s e (some q) (some d) bs = result_map (λ ts. judgement e d ts) (ground_terms_with s.arities (equation_width q) bs)

  unfoldable pub judgement_body_with : Sheet → List ℕ → Result Task
  unfolding values_body_with entry direction_of
  judgement_body_with s [] = refuse frame_bytes
  judgement_body_with s (e ∷ []) = refuse frame_bytes
  judgement_body_with s (e ∷ d ∷ bs) = values_body_with s e (entry s.equations e) (direction_of d) bs

  -- "05: two ground terms to compare."
  unfoldable pub comparison_body_with : Sheet → List ℕ → Result Task
  unfolding ground_terms_with first_term second_term result_map
  comparison_body_with s bs = result_map (λ ts. comparison (first_term ts) (second_term ts)) (ground_terms_with s.arities 2 bs)

  -- The body of a frame whose kind is in order: the first is a symbol frame, and no later one.
  unfoldable pub read_body_with : State → FrameKind → List ℕ → Result State
  unfolding symbols_body equation_body_with run_body_with judgement_body_with comparison_body_with with_equation with_task result_map
  read_body_with start kind bs = symbols_body bs
  read_body_with (within s) symbols_kind bs = refuse frame_order
  read_body_with (within s) equation_kind bs = result_map (with_equation s) (equation_body_with s.arities bs)
  read_body_with (within s) run_kind bs = result_map (with_task s) (run_body_with s bs)
  read_body_with (within s) judgement_kind bs = result_map (with_task s) (judgement_body_with s bs)
  read_body_with (within s) comparison_kind bs = result_map (with_task s) (comparison_body_with s bs)
  read_body_with (within s) unknown_kind bs = refuse frame_order

  -- A frame of this kind: "3, and 4, or 7 and then the first of 5 and 6".
  unfoldable pub read_kind_with : State → FrameKind → List ℕ → Result State
  unfolding in_order read_body_with
  read_kind_with state kind body = elim (in_order state kind) [ true ↦ read_body_with state kind body | false ↦ refuse frame_order ]

  -- One frame: "its first byte is the kind".
  unfoldable pub read_frame_with : State → List ℕ → Result State
  unfolding kind_of read_kind_with
  -- Not met: a line has two digits at least.
  read_frame_with state [] = refuse frame_order
  read_frame_with state (b ∷ body) = read_kind_with state (kind_of b) body

-- With the sheet's number of variables.
unfoldable pub scan : (arities : List ℕ) → (is_ground : Bool) → List ℕ → (need room : ℕ) → Result (List ℕ)
unfolding scan_with class_of
scan = scan_with variable_count

unfoldable pub ground_terms : (arities : List ℕ) → ℕ → List ℕ → Result Terms
unfolding ground_terms_with scan terms_of
ground_terms = ground_terms_with variable_count

unfoldable pub scan_sides : (arities : List ℕ) → List ℕ → Result (List ℕ)
unfolding scan_sides_with scan
scan_sides = scan_sides_with variable_count

unfoldable pub equation_body : (arities : List ℕ) → List ℕ → Result Equation
unfolding equation_body_with scan_sides terms_of
equation_body = equation_body_with variable_count

unfoldable pub run_body : Sheet → List ℕ → Result Task
unfolding run_body_with ground_terms
run_body = run_body_with variable_count

unfoldable pub values_body : Sheet → ℕ → Option Equation → Option Direction → List ℕ → Result Task
unfolding values_body_with ground_terms
values_body = values_body_with variable_count

unfoldable pub judgement_body : Sheet → List ℕ → Result Task
unfolding judgement_body_with values_body
judgement_body = judgement_body_with variable_count

unfoldable pub comparison_body : Sheet → List ℕ → Result Task
unfolding comparison_body_with ground_terms
comparison_body = comparison_body_with variable_count

unfoldable pub read_body : State → FrameKind → List ℕ → Result State
unfolding read_body_with equation_body run_body judgement_body comparison_body
read_body = read_body_with variable_count

unfoldable pub read_kind : State → FrameKind → List ℕ → Result State
unfolding read_kind_with read_body
read_kind = read_kind_with variable_count

unfoldable pub read_frame : State → List ℕ → Result State
unfolding read_frame_with read_kind
read_frame = read_frame_with variable_count
