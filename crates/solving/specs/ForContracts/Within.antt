-- Elements at positions of the equation.
use Rattle.std.specs.Prelude.{ℕ, ◌<◌, List}
use Rattle.format.specs.Lists.{Every}
use Rattle.solving.specs.Line.{Element, equal, greater}

-- Positions below `n`.
abbrev pub Within : ℕ → Element → Type 0
Within n (equal p q) = (p < n) × (q < n)
Within n (greater p q) = (p < n) × (q < n)

abbrev pub AllWithin : ℕ → List Element → Type 0
AllWithin n = Every (Within n)
