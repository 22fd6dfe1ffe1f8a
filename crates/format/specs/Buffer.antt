-- Lent buffers (document 01, 'Calls and lent memory').
use Rattle.std.specs.Prelude.{ℕ, List, ◌++◌, length, drop}

-- The buffer with `bytes` first and the rest unchanged: "Longer buffers are served and their excess is untouched."
unfoldable pub written : (bytes buffer : List ℕ) → List ℕ
written bytes buffer = bytes ++ drop (length bytes) buffer
