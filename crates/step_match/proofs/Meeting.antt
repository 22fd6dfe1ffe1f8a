-- The nodes of the terms that the variables met: none at first, and one more where a variable meets a term.
use Prim.Native.Nat.{ℕ, ◌<◌}
use mathlib.Core.Path.{◌≡◌, refl, ◌∙◌}
use mathlib.Core.Bool.{Bool, true, false}
use mathlib.Core.Logic.{◌↔◌}
use mathlib.Core.List.{List}
use mathlib.Core.Option.{Option, none, some}
use native.Mathlib.Omega.{arith}
use native.Mathlib.Decide.{ℕ_discrete}
use lib.ListN.{get_or, set, length-set}
use lib.Seq.{get_or-set_same, get_or-set_other}
use Rattle.format.specs.Limits.{variable_count, filling_node}
use Rattle.terms.specs.Term.{Term, identical?}
use Rattle.terms.specs.ForContracts.Stored.{GroundStored}
use Rattle.reducing.specs.Match.{Match, meet}
use Rattle.step_match.specs.ForContracts.Matching.{HasGround, SlotIs, MatchIs, HasMatch, Matched}

-- A variable meets a term.
pub met_before : {nodes sizes values : List ℕ} → HasMatch nodes sizes values → (v : ℕ) → v < variable_count → (get_or values v 0 ≡ filling_node → ⊥) → HasGround nodes sizes (get_or values v 0)
met_before {nodes} {sizes} {values} m v l n = go (get_or m.found v none) (m.is.each v l)
  where
    go : (o : Option Term) → SlotIs nodes sizes m.arities o (get_or values v 0) → HasGround nodes sizes (get_or values v 0)
    go none s = absurd (n s)
    go (some u) s = record { arities = m.arities; term = u; stored = s.0; before_filling = s.1 }

module _ {nodes sizes arities values : List ℕ} {m : Match} {node : ℕ} {t : Term} (v : ℕ) (l : v < variable_count)
    (g : GroundStored nodes sizes arities node t) (below : node < filling_node) (is : MatchIs nodes sizes arities m values) where
  set_met : MatchIs nodes sizes arities (set m v (some t)) (set values v node)
  set_met = record { slots = length-set m v (some t) ∙ is.slots; values_length = length-set values v node ∙ is.values_length; each = each }
    where
      each : (w : ℕ) → w < variable_count → SlotIs nodes sizes arities (get_or (set m v (some t)) w none) (get_or (set values v node) w 0)
      each w k = elim (ℕ_discrete w v) [
        | yes e ↦ rw (e, get_or-set_same m v (some t) none (omega (arith, is.slots)), get_or-set_same values v node 0 (omega (arith, is.values_length))) (g, below)
        | no n ↦ rw (get_or-set_other m v w (some t) none n, get_or-set_other values v w node 0 n) (is.each w k)
      ]

  pub meets_first : get_or values v 0 ≡ filling_node → Matched nodes sizes arities (meet m v t (get_or m v none)) (set values v node) true
  unfolding meet
  meets_first e = go (get_or m v none) (is.each v l)
    where
      go : (o : Option Term) → SlotIs nodes sizes arities o (get_or values v 0) → Matched nodes sizes arities (meet m v t o) (set values v node) true
      go none s = (refl, set_met)
      go (some u) s = absurd (omega (arith, s.1))

  pub meets_again : (first : ℕ) (r : Bool) → first ≡ get_or values v 0 → (get_or values v 0 ≡ filling_node → ⊥)
      → ((arities : List ℕ) (s t : Term) → GroundStored nodes sizes arities first s → GroundStored nodes sizes arities node t → (r ≡ true) ↔ (s ≡ t))
      → Matched nodes sizes arities (meet m v t (get_or m v none)) values r
  unfolding meet
  meets_again first r e n same = go (get_or m v none) (is.each v l)
    where
      decided : {u : Term} (d : Dec (u ≡ t)) (r : Bool) → (r ≡ true) ↔ (u ≡ t) → Matched nodes sizes arities (elim d as (λ x. Option Match) [ yes e ↦ some m | no n ↦ none ]) values r
      decided (yes e) r k = (k.1 e, is)
      decided (no n) true k = absurd (n (k.0 refl))
      decided (no n) false k = refl

      go : (o : Option Term) → SlotIs nodes sizes arities o (get_or values v 0) → Matched nodes sizes arities (meet m v t o) values r
      go none s = absurd (n s)
      go (some u) s = decided (identical? u t) r (same arities u t (rw e s.0) g)
