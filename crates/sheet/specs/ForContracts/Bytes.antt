-- Lists of bytes.
use Rattle.std.specs.Prelude.{ℕ, ◌≤◌, List}
use Rattle.format.specs.Limits.{max_byte}
use Rattle.format.specs.Lists.{Every}

abbrev pub Bytes : List ℕ → Type 0
Bytes = Every (λ b. b ≤ max_byte)
