-- "no endless sequence of ground terms over a sheet descends by L1 to L3" (document 02, W10): some term of an endless sequence does not exceed the next.
use Rattle.std.specs.Prelude.{ℕ, suc, ◌≡◌, refl, List}
use mathlib.Core.WellFounded.{Acc}
use Rattle.terms.specs.Term.{Term, Ground}
use Rattle.path_order.specs.Order.{◌≻◌}
use Rattle.path_order.specs.Below.{Below}
use Rattle.path_order.proofs.Theory.Accessible.{below_well_founded}
use Rattle.ordering.specs.Theory.Decide.{exceeds?}

module _ (arities : List ℕ) (s : ℕ → Term) (is_ground : (i : ℕ) → Ground arities (s i)) where
  abbrev Stops : Type 0
  Stops = (i : ℕ) × ¬ (s i ≻ s (suc i))

  stops_from : (i : ℕ) {t : Term} → Acc (Below arities) t → t ≡ s i → Stops
  stops_from i (Acc.intro t k) e = go (λ h. stops_from (suc i) (k (s (suc i)) (is_ground (suc i), rw e h)) refl) (exceeds? (s i) (s (suc i)))
    where
      go : (s i ≻ s (suc i) → Stops) → Dec (s i ≻ s (suc i)) → Stops
      go later (yes h) = later h
      go later (no n) = (i, n)

  pub no_endless_descent : Stops
  no_endless_descent = stops_from 0 ((below_well_founded arities).apply (s 0)) refl
