-- Text that is appended to what stands first in a buffer.
use Rattle.std.specs.Prelude.{ℕ, ◌+◌, ◌≡◌, List, ◌++◌, length, take}

-- The first `at` bytes of the buffer stood before, and the first `end` stand now: those and the text.
pub record Appended (before : List ℕ) (at : ℕ) (text after : List ℕ) (end : ℕ) : Type 0 where
  pub there : take end after ≡ take at before ++ text
  pub ends : end ≡ at + length text
  pub same_length : length after ≡ length before
