-- Laws of the lines of a text: where a line ends, and which lines are no frame.
use Rattle.std.specs.Prelude.{ℕ, ◌<◌, ◌≡◌, refl, Bool, true, false, ◌&&◌, List, [], ◌∷◌, ◌++◌, length, leb}
use Rattle.std.proofs.Common.{ap, ◌∙◌, ne_eqb, arith}
use Rattle.std.proofs.Math.Option.{Option, none, some}
use Rattle.std.proofs.lemmas.Bool.{lt-leb}
use Rattle.format.specs.Limits.{max_line_digits}
use Rattle.format.specs.Lists.{Every}
use Rattle.sheet.specs.Text.{LF, TextLine, ended, unended, put_byte, lines_of, digit, byte_of, put_first, bytes_of, frame_of}

-- No byte of a part is LF.
abbrev pub NoLF : List ℕ → Type 0
NoLF = Every (λ b. b ≡ LF → ⊥)

unfoldable pub content : TextLine → List ℕ
content (ended bs) = bs
content (unended bs) = bs

lines_byte : (b : ℕ) (text : List ℕ) → (b ≡ LF → ⊥) → lines_of (b ∷ text) ≡ put_byte b (lines_of text)
unfolding lines_of
lines_byte b text n = rw (ne_eqb b LF n, lines_of)

lines_LF : (text : List ℕ) → lines_of (LF ∷ text) ≡ ended [] ∷ lines_of text
unfolding lines_of
lines_LF text = refl

-- A part without LF and then LF is a line.
pub lines_ended : (xs text : List ℕ) → NoLF xs → lines_of (xs ++ LF ∷ text) ≡ ended xs ∷ lines_of text
unfolding put_byte
lines_ended [] text h = lines_LF text
lines_ended (b ∷ xs) text h = lines_byte b (xs ++ LF ∷ text) h.0 ∙ ap (put_byte b) (lines_ended xs text h.1)

-- The first line of a text that begins with `b` and bytes other than LF begins with them.
pub record Begins (xs text : List ℕ) : Type 0 where
  pub line : TextLine
  pub rest : List TextLine
  pub more : List ℕ
  pub split : lines_of text ≡ line ∷ rest
  pub starts : content line ≡ xs ++ more

put_begins : (b : ℕ) (xs text : List ℕ) → (b ≡ LF → ⊥) → Begins xs text → Begins (b ∷ xs) (b ∷ text)
unfolding put_byte content
put_begins b xs text n g = go g.line g.split g.starts
  where
    go : (r : TextLine) → lines_of text ≡ r ∷ g.rest → content r ≡ xs ++ g.more → Begins (b ∷ xs) (b ∷ text)
    go (ended bs) e c = record { line = ended (b ∷ bs); rest = g.rest; more = g.more; split = lines_byte b text n ∙ ap (put_byte b) e; starts = ap (b ∷◌) c }
    go (unended bs) e c = record { line = unended (b ∷ bs); rest = g.rest; more = g.more; split = lines_byte b text n ∙ ap (put_byte b) e; starts = ap (b ∷◌) c }

one_begins : (b : ℕ) (text : List ℕ) → (b ≡ LF → ⊥) → Begins (b ∷ []) (b ∷ text)
unfolding put_byte content
one_begins b text n = go (lines_of text) refl
  where
    go : (rs : List TextLine) → lines_of text ≡ rs → Begins (b ∷ []) (b ∷ text)
    go [] e = record { line = unended (b ∷ []); rest = []; more = []; split = lines_byte b text n ∙ ap (put_byte b) e; starts = refl }
    go (ended bs ∷ rs) e = record { line = ended (b ∷ bs); rest = rs; more = bs; split = lines_byte b text n ∙ ap (put_byte b) e; starts = refl }
    go (unended bs ∷ rs) e = record { line = unended (b ∷ bs); rest = rs; more = bs; split = lines_byte b text n ∙ ap (put_byte b) e; starts = refl }

pub lines_begin : (b : ℕ) (xs text : List ℕ) → NoLF (b ∷ xs) → Begins (b ∷ xs) (b ∷ xs ++ text)
lines_begin b [] text h = one_begins b text h.0
lines_begin b (c ∷ xs) text h = put_begins b (c ∷ xs) (c ∷ xs ++ text) h.0 (lines_begin c xs text h.1)

-- What is left of a text without LF is a line that does not end.
pub lines_unended : (b : ℕ) (xs : List ℕ) → NoLF (b ∷ xs) → lines_of (b ∷ xs) ≡ unended (b ∷ xs) ∷ []
unfolding lines_of put_byte
lines_unended b [] h = lines_byte b [] h.0
lines_unended b (c ∷ xs) h = lines_byte b (c ∷ xs) h.0 ∙ ap (put_byte b) (lines_unended c xs h.1)

-- A line that is too long, or has another character than a digit, is no frame.
put_first_none : (x : Option ℕ) → put_first x none ≡ none
unfolding put_first
put_first_none none = refl
put_first_none (some b) = refl

byte_none : (c d : ℕ) → digit d ≡ none → byte_of (digit c) (digit d) ≡ none
unfolding byte_of
byte_none c d e = rw e (go (digit c))
  where
    go : (x : Option ℕ) → byte_of x none ≡ none
    go none = refl
    go (some n) = refl

pub bytes_none : (xs : List ℕ) (c : ℕ) (more : List ℕ) → digit c ≡ none → bytes_of (xs ++ c ∷ more) ≡ none
unfolding bytes_of byte_of put_first
bytes_none [] c [] e = refl
bytes_none [] c (d ∷ more) e = rw e
bytes_none (a ∷ []) c more e = rw (byte_none a c e)
bytes_none (a ∷ b ∷ xs) c more e = rw (bytes_none xs c more e) (put_first_none (byte_of (digit a) (digit b)))

frame_none_inside : (line : TextLine) → bytes_of (content line) ≡ none → frame_of line ≡ none
unfolding frame_of content
frame_none_inside (ended cs) e = go (leb 2 (length cs) && leb (length cs) max_line_digits)
  where
    go : (t : Bool) → ◌≡◌ {A = Option (List ℕ)} (elim t [ true ↦ bytes_of cs | false ↦ none ]) none
    go true = e
    go false = refl
frame_none_inside (unended cs) e = refl

pub frame_none_digit : (line : TextLine) (xs : List ℕ) (c : ℕ) (more : List ℕ) → content line ≡ xs ++ c ∷ more → digit c ≡ none → frame_of line ≡ none
frame_none_digit line xs c more e d = frame_none_inside line (ap bytes_of e ∙ bytes_none xs c more d)

pub frame_none_long : (line : TextLine) → max_line_digits < length (content line) → frame_of line ≡ none
unfolding frame_of content
frame_none_long (ended cs) h = go (leb 2 (length cs)) (leb (length cs) max_line_digits) (lt-leb (length cs) max_line_digits h)
  where
    go : (s t : Bool) → t ≡ false → ◌≡◌ {A = Option (List ℕ)} (elim (s && t) [ true ↦ bytes_of cs | false ↦ none ]) none
    go true true e = let z : ◌≡◌ {A = ℕ} 0 1 = cc in absurd (omega arith)
    go true false e = refl
    go false t e = refl
frame_none_long (unended cs) h = refl
