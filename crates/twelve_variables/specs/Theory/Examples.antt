-- With eight variables, by computation: 88 is a foreign byte, and a line has eight slots.
use Rattle.std.specs.Prelude.{ℕ, ◌≡◌, refl, List, [], ◌∷◌}
use Rattle.format.specs.declared.refusal.Refusal.TheVariants.{FrameBytes as frame_bytes}
use Rattle.terms.specs.Term.{var}
use Rattle.terms.specs.Equation.{Equation}
use Rattle.terms.specs.declared.direction.Direction.TheVariants.{LeftRight as left_right}
use Rattle.sheet.specs.Reading.{refused_at, read_with}
use Rattle.solving.specs.Line.{unbound, greater, line}
use Rattle.solving.specs.Walk.{solved, solve_with}

-- "010100", "028788": a constant, and x = y with x the eighth variable and y the ninth.
abbrev ninth_variable : List ℕ
ninth_variable = 0x30 ∷ 0x31 ∷ 0x30 ∷ 0x31 ∷ 0x30 ∷ 0x30 ∷ 0x0a ∷ 0x30 ∷ 0x32 ∷ 0x38 ∷ 0x37 ∷ 0x38 ∷ 0x38 ∷ 0x0a ∷ []

ninth_refused : read_with 8 ninth_variable ≡ refused_at frame_bytes 2
unfolding read_with
ninth_refused = refl

abbrev two_variables : Equation
two_variables = record { left = var 0; right = var 1 }

eight_slots : solve_with 8 two_variables left_right ≡ solved (line (unbound 8) (greater 0 1 ∷ []) ∷ []) 0
unfolding solve_with
eight_slots = refl
