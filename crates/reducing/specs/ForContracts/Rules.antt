-- The directions of all equations, numbered in the order in which a step tries them: "equations ascending, direction 00 before 01".
use Rattle.std.specs.Prelude.{ℕ, ◌+◌, ◌*◌}
use Rattle.terms.specs.Equation.{direction_number}
use Rattle.terms.specs.declared.direction.Direction.{Direction}

abbrev pub rule_number : ℕ → Direction → ℕ
rule_number i d = 2 * i + direction_number d
