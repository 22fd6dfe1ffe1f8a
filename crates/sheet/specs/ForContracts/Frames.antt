-- The frames of a sheet, a line each (document 01, 'The sheet').
use Rattle.std.specs.Prelude.{ℕ, List, ◌∷◌, ◌++◌, map, length}
use Rattle.format.specs.Kind.{kind_byte}
use Rattle.format.specs.declared.kind.FrameKind.TheVariants.{Symbols as symbols_kind, Equation as equation_kind, Run as run_kind, Judgement as judgement_kind, Comparison as comparison_kind}
use Rattle.terms.specs.Equation.{Equation, direction_number}
use Rattle.terms.specs.Prefix.{prefix, prefixes, equation_bytes}
use Rattle.sheet.specs.Sheet.{Task, run, judgement, comparison, Sheet}

-- "01: count n (1 to 16), then n arities".
unfoldable pub symbols_frame : (arities : List ℕ) → List ℕ
symbols_frame arities = kind_byte symbols_kind ∷ length arities ∷ arities

-- "02: an equation, left term then right term."
unfoldable pub equation_frame : Equation → List ℕ
unfolding equation_bytes
equation_frame e = kind_byte equation_kind ∷ equation_bytes e

-- "03: a run: step limit k, a ground term", "04: a judgement: equation number, direction, then ground values", "05: two ground terms to compare".
unfoldable pub task_frame : Task → List ℕ
unfolding prefix direction_number
task_frame (run k s) = kind_byte run_kind ∷ k ∷ prefix s
task_frame (judgement e d ts) = kind_byte judgement_kind ∷ e ∷ direction_number d ∷ prefixes ts
task_frame (comparison s t) = kind_byte comparison_kind ∷ prefix s ++ prefix t

-- "Frame 01 comes first, once; then 1 to 16 of 02; then 0 to 32 tasks".
unfoldable pub frames_of : Sheet → List (List ℕ)
unfolding symbols_frame equation_frame task_frame
frames_of s = symbols_frame s.arities ∷ map equation_frame s.equations ++ map task_frame s.tasks
