-- Numbers returned and lent buffers (document 01, 'Calls and lent memory').
use Rattle.std.specs.Prelude.{ℕ, ◌+◌, ◌*◌, ◌/◌, ◌%◌, ◌^◌, List, replicate}
use Rattle.format.specs.Limits.{no_position, table_bytes, scratch_bytes}
use Rattle.format.specs.Buffer.{written}
use Rattle.format.specs.Refusal.{number}
use Rattle.format.specs.declared.refusal.Refusal.{Refusal}

-- "16-bit fields"
abbrev pub field_limit : ℕ
field_limit = 2 ^ 16

-- "Each returns one 64-bit number: lowest byte the refusal, or 0; above it 16-bit fields, lowest first, unused ones 0."
unfoldable pub fields : (first second third : ℕ) → ℕ
fields a b c = 2 ^ 8 * a + 2 ^ 24 * b + 2 ^ 40 * c

-- The first field: "above it 16-bit fields, lowest first".
unfoldable pub first_field : ℕ → ℕ
first_field n = (n / 2 ^ 8) % field_limit

-- "Refusal: line."
unfoldable pub refusal_number : Refusal → (line : ℕ) → ℕ
unfolding fields
refusal_number r line = number r + fields line 0 0

-- "lowest byte the refusal, or 0"
unfoldable pub refusal_byte : ℕ → ℕ
refusal_byte n = n % 256

-- The buffer with its first `n` bytes `b`.
unfoldable pub filled : (n b : ℕ) → List ℕ → List ℕ
unfolding written
filled n b buffer = written (replicate n b) buffer

-- "scratch's first 57,344 bytes are 00"
unfoldable pub cleared : List ℕ → List ℕ
unfolding filled
cleared scratch = filled scratch_bytes 0x00 scratch

-- "the table's first" 23,715 (document 02, W9) "bytes ff"
unfoldable pub blanked : List ℕ → List ℕ
unfolding filled
blanked table = filled table_bytes no_position table
