-- A row of terms in prefix form: from its first node to the one behind its last.
use Rattle.std.specs.Prelude.{ℕ, ◌+◌, List, get_or}
pub use Rattle.terms.specs.declared.arguments.Arguments.{Arguments}

-- The arguments of the term at `p`, where `sizes` has the number of nodes of the term that starts at each node.
abbrev pub arguments_at : (sizes : List ℕ) → ℕ → Arguments
arguments_at sizes p = record { from = p + 1; end = p + get_or sizes p 0 }

-- The terms behind the first.
abbrev pub behind_first : (sizes : List ℕ) → Arguments → Arguments
behind_first sizes row = record { from = row.from + get_or sizes row.from 0; end = row.end }
