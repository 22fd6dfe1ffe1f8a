-- The ordering on the ground terms over a sheet's symbols, as a relation of which well-foundedness can be said (document 02, W10).
use Rattle.std.specs.Prelude.{ℕ, List}
use Rattle.terms.specs.Term.{Term, Ground}
use Rattle.path_order.specs.Order.{◌≻◌}

-- `t` is below `s`: it is a ground term over the sheet's symbols, and s > t.
abbrev pub Below : (arities : List ℕ) → (t s : Term) → Type 0
Below arities t s = Ground arities t × (s ≻ t)
