-- The numbers of the directions.
use Rattle.std.specs.Prelude.{ℕ, zero, suc, ◌≤◌, ◌≡◌, refl}
use Rattle.std.proofs.Common.{arith}
use Rattle.std.proofs.Math.Option.{none}
use Rattle.terms.specs.Equation.{direction_of}

pub no_direction : (n : ℕ) → 2 ≤ n → direction_of n ≡ none
unfolding direction_of
no_direction zero h = absurd (omega arith)
no_direction (suc zero) h = absurd (omega arith)
no_direction (suc (suc n)) h = refl
