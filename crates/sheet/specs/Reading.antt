-- What every text earns (document 01, 'Who can cause a refusal'): a refusal 1 to 7 with its line, or the sheet.
use Rattle.std.specs.Prelude.{ℕ, suc, ◌&&◌, length}
use Rattle.std.proofs.Math.Bool.{true, false}
use Rattle.std.proofs.Math.Option.{none, some}
use mathlib.Core.List.{List, [], ◌∷◌}
use Rattle.std.proofs.Math.Dec.{leb}
use Rattle.format.specs.Limits.{variable_count, max_text}
use Rattle.format.specs.Refusal.{Result, refuse, give}
use Rattle.format.specs.declared.refusal.Refusal.{Refusal}
use Rattle.format.specs.declared.refusal.Refusal.TheVariants.{TextLength as text_length, Digits as digits, FrameOrder as frame_order}
use Rattle.sheet.specs.Text.{TextLine, lines_of, frame_of}
use Rattle.sheet.specs.Sheet.{Sheet}
use Rattle.sheet.specs.Frame.{State, start, within, read_frame_with, read_frame}

-- A refusal with its line, or what was asked for.
pub data Reading (A : Type 0) : Type 0 where
  refused_at : Refusal → (line : ℕ) → Reading A
  accepted : A → Reading A

-- "a missing 02 names the last line"
unfoldable pub finish : State → ℕ → Reading Sheet
-- Not met: a text has a line, and the first that is passed is a symbol frame.
finish start n = refused_at frame_order n
finish (within s) n = elim (leb 1 (length s.equations)) [ true ↦ accepted s | false ↦ refused_at frame_order n ]

-- With any number of variables.
module _ (variables : ℕ) where
  -- One line: "then line by line 2, 3, and 4, or 7 and then the first of 5 and 6".
  unfoldable pub read_line_with : State → TextLine → Result State
  unfolding frame_of read_frame_with
  read_line_with state line = elim (frame_of line) [ none ↦ refuse digits | some bs ↦ read_frame_with variables state bs ]

  -- The lines that are left after the first `n`; the first of them is line `n` + 1.
  unfoldable pub read_lines_with : State → (n : ℕ) → List TextLine → Reading Sheet
  unfolding read_line_with finish
  read_lines_with state n [] = finish state n
  read_lines_with state n (line ∷ more) = elim (read_line_with state line) [ refuse r ↦ refused_at r (suc n) | give next ↦ read_lines_with next (suc n) more ]

  -- "A sheet is text of 1 to 16,384 bytes." "1, empty or too long (line 0)."
  unfoldable pub read_with : List ℕ → Reading Sheet
  unfolding lines_of read_lines_with
  read_with text = elim (leb 1 (length text) && leb (length text) max_text) [ true ↦ read_lines_with start 0 (lines_of text) | false ↦ refused_at text_length 0 ]

-- With the sheet's number of variables.
unfoldable pub read_line : State → TextLine → Result State
unfolding read_line_with read_frame
read_line = read_line_with variable_count

unfoldable pub read_lines : State → (n : ℕ) → List TextLine → Reading Sheet
unfolding read_lines_with read_line
read_lines = read_lines_with variable_count

unfoldable pub read : List ℕ → Reading Sheet
unfolding read_with read_lines
read = read_with variable_count
