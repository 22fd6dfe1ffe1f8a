-- Digits, the bytes that they write, and the end of a line: what the contracts of the code that reads digits cite.
use Rattle.std.specs.Prelude.{◌≡◌, ℕ, suc, ◌+◌, ◌-◌, ◌*◌, ◌<◌, ◌≤◌, ◌⊎◌, Option, None, Some, List, [], ◌∷◌, length, drop, slice_index, slice_range}
use Rattle.std.proofs.Math.Option as MathOption
use Rattle.std.proofs.Math.Option.{none, some}
use Rattle.format.specs.Limits.{max_line_digits}
use Rattle.format.specs.Lists.{Every}
use Rattle.sheet.specs.ForContracts.Bytes.{Bytes}
use Rattle.scanning.specs.declared.text.Span.{Span}
use Rattle.sheet.specs.Text.{base, TextLine, ended, lines_of, digit, frame_of}

-- The value of a digit, the base for any other character.
unfoldable pub digit_number : ℕ → ℕ
unfolding digit
digit_number c = MathOption.get_or (digit c) base

abbrev pub Digits : List ℕ → Type 0
Digits = Every (λ c. digit_number c < base)

-- The bytes that two digits each write.
unfoldable pub decoded : List ℕ → List ℕ
unfolding digit_number
decoded [] = []
decoded (c ∷ []) = []
decoded (c ∷ d ∷ cs) = (base * digit_number c + digit_number d) ∷ decoded cs

abbrev pub pair_at : List ℕ → ℕ → ℕ
pair_at text at = base * digit_number (slice_index text at) + digit_number (slice_index text (at + 1))

-- The bytes of the digits from `at` to `end`.
unfoldable pub bytes_between : List ℕ → (at end : ℕ) → List ℕ
unfolding decoded
bytes_between text at end = decoded (slice_range text at end)

abbrev pub span_bytes : List ℕ → Span → List ℕ
span_bytes text d = bytes_between text d.from d.end

-- The digits from `from` to `end` are bytes.
pub record BodyReady (text : List ℕ) (from end : ℕ) : Type 0 where
  pub pairs : ℕ
  pub even : end ≡ from + 2 * pairs
  pub inside : end ≤ length text
  pub are_bytes : Bytes (bytes_between text from end)

abbrev pub SpanReady : List ℕ → Span → Type 0
SpanReady text d = BodyReady text d.from d.end

-- So many characters are tested at once.
abbrev pub block : ℕ
block = 16

-- The characters from `at` to `i` are digits, and no more than a line may have.
pub record DigitsTo (text : List ℕ) (at i : ℕ) : Type 0 where
  pub begun : at ≤ i
  pub inside : i ≤ length text
  pub few : i - at ≤ max_line_digits
  pub digits : Digits (slice_range text at i)

-- The line that starts at `at`: its digits end at `end`, where LF stands, and it is the frame of the bytes between.
pub record LineTo (text : List ℕ) (at end : ℕ) : Type 0 where
  pub pairs : ℕ
  pub even : end ≡ at + 2 * suc pairs
  pub inside : end < length text
  pub is_first : lines_of (drop at text) ≡ ended (slice_range text at end) ∷ lines_of (drop (end + 1) text)
  pub is_frame : frame_of (ended (slice_range text at end)) ≡ some (bytes_between text at end)

-- Or the line is no frame.
pub record NoFrame (text : List ℕ) (at : ℕ) : Type 0 where
  pub line : TextLine
  pub more : List TextLine
  pub is_first : lines_of (drop at text) ≡ line ∷ more
  pub no_frame : frame_of line ≡ none

abbrev pub LineRead : List ℕ → ℕ → Option ℕ → Type 0
LineRead text at (Some end) = LineTo text at end
LineRead text at None = NoFrame text at

-- A count of digits from `at` to `end`: even and not zero, or not so.
abbrev pub CountRead : (at end : ℕ) → Option ℕ → Type 0
CountRead at end (Some e) = (e ≡ end) × (n : ℕ) × (end ≡ at + 2 * suc n)
CountRead at end None = (end ≡ at) ⊎ ((n : ℕ) × (end ≡ at + suc (2 * n)))
