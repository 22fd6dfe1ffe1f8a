-- Where no turn is left.
use Rattle.std.specs.Prelude.{ℕ, ◌≡◌}
use Rattle.std.proofs.Math.Path.{refl}
use Rattle.std.proofs.Math.Option.{none}
use mathlib.Core.List.{List, [], ◌∷◌}
use Rattle.terms.specs.Position.{Node}
use Rattle.solving.specs.Line.{Line}
use Rattle.solving.specs.Walk.{enough, turn}
use Rattle.walking.specs.ForContracts.Walking.{AllFinished}

module _ (view : ℕ → Node) where
  pub turn_none : (fs : List Line) → AllFinished view fs → turn enough view fs ≡ none
  unfolding turn
  turn_none [] h = refl
  turn_none (f ∷ fs) h = rw (h.0.nothing_left, turn_none fs h.1, turn)
