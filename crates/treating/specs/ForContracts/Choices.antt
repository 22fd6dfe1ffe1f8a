-- The lines of the choices of an inequality: the choice's bytes in the room of a line, and the lines put into the memory of the walk.
use Rattle.std.specs.Prelude.{ℕ, ◌+◌, ◌*◌, ◌≤◌, ◌≡◌, List, [], ◌∷◌, ◌++◌, length, set}
use Rattle.solving.specs.Line.{Element}
use Rattle.solving.specs.Walk.{argument_choices, exceeds_each, lexicographic_choices}
use Rattle.bindings.specs.ForContracts.PrefixForm.{Row}
use Rattle.line_bytes.specs.ForContracts.Layout.{line_bytes, placed}
use Rattle.line_bytes.specs.ForContracts.Resting.{equality_mark, marks}
use Rattle.line_bytes.specs.ForContracts.Room.{Gap}

-- Terms stand in the row from `k` to `end`, and the line has room for an element for each from `at` on.
pub record ExceedingFit (sizes : List ℕ) (at k end : ℕ) (line : List ℕ) : Type 0 where
  pub starts : List ℕ
  pub row : Row sizes k end starts
  pub within : end ≤ length sizes
  pub low : end ≤ equality_mark
  pub room : at + 2 * length starts ≤ length line

-- "all s > tj", at `at`.
pub record FillsExceeding (sizes : List ℕ) (at p k end : ℕ) (before after : List ℕ) : Type 0 where
  pub fills : (ts front back : List ℕ) → Row sizes k end ts → length front ≡ at → Gap before front (length ts) back → after ≡ front ++ (marks (exceeds_each p ts) ++ back)

-- Lines for each of some choices: the choice's bytes between `front` and `back`.
unfoldable pub choices_bytes : (front back : List ℕ) → List (List Element) → List ℕ
unfolding marks
choices_bytes front back [] = []
choices_bytes front back (cs ∷ css) = (front ++ (marks cs ++ back)) ++ choices_bytes front back css

-- Terms stand in the row from `k` to `end`, the line has a place for an element at `at`, and the memory has room from `to` on for the lines of each argument.
pub record ArgumentsFit (sizes : List ℕ) (at q k end to : ℕ) (line records : List ℕ) : Type 0 where
  pub starts : List ℕ
  pub row : Row sizes k end starts
  pub within : end ≤ length sizes
  pub low : end ≤ equality_mark
  pub whole : length line ≡ line_bytes
  pub place : at + 2 ≤ line_bytes
  pub room : to + line_bytes * length (argument_choices starts q) ≤ length records

-- "for each i, si > t then si = t": the lines stand from `to` on.
pub record PushesArguments (sizes : List ℕ) (at q k end to : ℕ) (line before after : List ℕ) (r : ℕ) : Type 0 where
  pub pushes : (ss front back : List ℕ) → Row sizes k end ss → length front ≡ at → Gap line front 1 back
      → (after ≡ placed to (choices_bytes front back (argument_choices ss q)) before) × (r ≡ to + line_bytes * length (argument_choices ss q))

-- The bytes with an equality marked for each position, at every other byte from `at` on.
unfoldable pub marked_equal : (ss : List ℕ) (at : ℕ) (bytes : List ℕ) → List ℕ
marked_equal [] at bytes = bytes
marked_equal (s ∷ ss) at bytes = marked_equal ss (at + 2) (set bytes at (s + equality_mark))

-- Terms stand in the row from `k` to `end`, and there is a place for each from `at` on.
pub record EqualFit (sizes : List ℕ) (at k end : ℕ) (bytes : List ℕ) : Type 0 where
  pub starts : List ℕ
  pub row : Row sizes k end starts
  pub within : end ≤ length sizes
  pub low : end ≤ equality_mark
  pub room : at + 2 * length starts ≤ length bytes

pub record MarksEqual (sizes : List ℕ) (at k end : ℕ) (before after : List ℕ) : Type 0 where
  pub marks_each : (ss : List ℕ) → Row sizes k end ss → after ≡ marked_equal ss at before

-- Terms stand in the row from `k` to `m` and in that from `l` to `n`, the line has room for an element for each of the latter from `at` on,
-- and the memory from `to` on for a line for each choice. `whole_side` is the position of s in "all s > tj".
pub record LexicographicFit (sizes : List ℕ) (at k m l n to : ℕ) (line records : List ℕ) : Type 0 where
  pub whole_side : ℕ
  pub left : List ℕ
  pub right : List ℕ
  pub left_row : Row sizes k m left
  pub right_row : Row sizes l n right
  pub left_within : m ≤ length sizes
  pub right_within : n ≤ length sizes
  pub left_low : m ≤ equality_mark
  pub right_low : n ≤ equality_mark
  pub whole : length line ≡ line_bytes
  pub places : at + 2 * length right ≤ line_bytes
  pub room : to + line_bytes * length (lexicographic_choices whole_side left right) ≤ length records

-- "for each k the L3 list in argument order", where the room has all s > tj.
pub record PushesLexicographic (sizes : List ℕ) (at k m l n to : ℕ) (line before after : List ℕ) (r : ℕ) : Type 0 where
  pub pushes : (p : ℕ) (ss ts front back : List ℕ) → Row sizes k m ss → Row sizes l n ts → length front ≡ at → line ≡ front ++ (marks (exceeds_each p ts) ++ back)
      → (after ≡ placed to (choices_bytes front back (lexicographic_choices p ss ts)) before) × (r ≡ to + line_bytes * length (lexicographic_choices p ss ts))
