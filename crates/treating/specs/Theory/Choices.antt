-- The choices of a turn: their number and their lengths.
use Rattle.std.specs.Prelude.{ℕ, ◌*◌, ◌≡◌, refl, List, [], ◌∷◌, length}
use Rattle.std.proofs.Common.{arith}
use Rattle.solving.specs.Walk.{argument_choices}
use Rattle.treating.specs.ForContracts.Splitting.{AllLong}

pub argument_long : (ss : List ℕ) (q : ℕ) → AllLong 1 (argument_choices ss q)
unfolding argument_choices
argument_long [] q = tt
argument_long (s ∷ ss) q = (refl, (refl, argument_long ss q))

pub argument_count : (ss : List ℕ) (q : ℕ) → length (argument_choices ss q) ≡ 2 * length ss
unfolding argument_choices
argument_count [] q = refl
argument_count (s ∷ ss) q = omega (arith, argument_count ss q)
