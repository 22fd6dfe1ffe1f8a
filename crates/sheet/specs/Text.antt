-- The text of a sheet: lines and digits (document 01, 'The sheet').
use Rattle.std.specs.Prelude.{ℕ, ◌+◌, ◌-◌, ◌*◌, true, false, ◌&&◌, List, [], ◌∷◌, length, leb, eqb}
use Rattle.std.proofs.Math.Option.{Option, none, some}
use Rattle.format.specs.Limits.{max_line_digits}

-- "LF (byte 0a)"
abbrev pub LF : ℕ
LF = 0x0a

-- A line of the text: its bytes before LF, or what is left at the end of a text without LF.
pub data TextLine : Type 0 where
  ended : List ℕ → TextLine
  unended : List ℕ → TextLine

unfoldable pub put_byte : ℕ → List TextLine → List TextLine
put_byte b [] = unended (b ∷ []) ∷ []
put_byte b (ended bs ∷ more) = ended (b ∷ bs) ∷ more
put_byte b (unended bs ∷ more) = unended (b ∷ bs) ∷ more

unfoldable pub lines_of : List ℕ → List TextLine
unfolding put_byte
lines_of [] = []
lines_of (b ∷ text) = elim (eqb b LF) [ true ↦ ended [] ∷ lines_of text | false ↦ put_byte b (lines_of text) ]

-- "Figures of frames are hexadecimal".
abbrev pub base : ℕ
base = 16

-- "digits 0-9 and a-f"
unfoldable pub digit : ℕ → Option ℕ
digit c =
    elim (leb 0x30 c && leb c 0x39) [
      | true ↦ some (c - 0x30)
      | false ↦ elim (leb 0x61 c && leb c 0x66) [ true ↦ some (10 + (c - 0x61)) | false ↦ none ]
    ]

unfoldable pub byte_of : Option ℕ → Option ℕ → Option ℕ
byte_of none low = none
byte_of (some high) none = none
byte_of (some high) (some low) = some (base * high + low)

unfoldable pub put_first : Option ℕ → Option (List ℕ) → Option (List ℕ)
put_first none bs = none
put_first (some b) none = none
put_first (some b) (some bs) = some (b ∷ bs)

-- Two digits a byte; nothing for any other character or an odd count.
unfoldable pub bytes_of : List ℕ → Option (List ℕ)
unfolding digit byte_of put_first
bytes_of [] = some []
bytes_of (c ∷ []) = none
bytes_of (c ∷ d ∷ cs) = put_first (byte_of (digit c) (digit d)) (bytes_of cs)

-- "Each line is an even count, 2 to 326, of digits 0-9 and a-f, then LF". A line is one frame: its bytes.
unfoldable pub frame_of : TextLine → Option (List ℕ)
unfolding bytes_of
frame_of (ended cs) = elim (leb 2 (length cs) && leb (length cs) max_line_digits) [ true ↦ bytes_of cs | false ↦ none ]
frame_of (unended cs) = none
