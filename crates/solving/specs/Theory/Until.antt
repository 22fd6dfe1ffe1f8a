-- The walk that a test stops, beside the walk that nothing stops.
use Prim.Native.Nat.{ℕ, zero, suc}
use Rattle.std.specs.Prelude.{◌≡◌, refl, Bool, true, false}
use Rattle.std.proofs.Math.Option.{Option, none, some}
use mathlib.Core.List.{List}
use Rattle.format.specs.declared.refusal.Refusal.{Refusal}
use Rattle.terms.specs.Position.{Node}
use Rattle.solving.specs.Line.{Line}
use Rattle.solving.specs.Walk.{Fuel, Walked, solved, refused, turn, walk_until}

module _ (fuel : Fuel) (view : ℕ → Node) (over : List Line → Option Refusal) (stop : List Line → Bool) where
  abbrev stopped_walk : (left taken : ℕ) → List Line → Walked
  stopped_walk = walk_until fuel view over stop

  abbrev whole_walk : (left taken : ℕ) → List Line → Walked
  whole_walk = walk_until fuel view over (λ table. false)

  -- They end alike; or the test stops the first, and the second goes on from that table.
  pub data Beside : Walked → Walked → Type 0 where
    alike : {w : Walked} → Beside w w
    stops : {table : List Line} {w : Walked} (left taken : ℕ) → stop table ≡ true → w ≡ walk_until fuel view over (λ table. false) left taken table → Beside (solved table taken) w

  pub until_beside : (left taken : ℕ) (table : List Line) → Beside (walk_until fuel view over stop left taken table) (walk_until fuel view over (λ table. false) left taken table)
  unfolding walk_until
  until_beside zero taken table = alike
  until_beside (suc left) taken table = go (until_beside left (suc taken)) (turn fuel view table)
    where
      IH : Type 0
      IH = (new : List Line) → Beside (stopped_walk left (suc taken) new) (whole_walk left (suc taken) new)

      looked_over : IH → (new : List Line) (b : Bool) → stop new ≡ b
          → Beside (elim b as (λ x. Walked) [ true ↦ solved new (suc taken) | false ↦ stopped_walk left (suc taken) new ]) (whole_walk left (suc taken) new)
      looked_over ih new true e = stops left (suc taken) e refl
      looked_over ih new false e = ih new

      limited : IH → (new : List Line) (o : Option Refusal)
          → Beside (elim o as (λ x. Walked) [ some r ↦ refused r | none ↦ elim (stop new) as (λ x. Walked) [ true ↦ solved new (suc taken) | false ↦ stopped_walk left (suc taken) new ] ])
          (elim o as (λ x. Walked) [ some r ↦ refused r | none ↦ whole_walk left (suc taken) new ])
      limited ih new (some r) = alike
      limited ih new none = looked_over ih new (stop new) refl

      go : IH → (o : Option (List Line))
          → Beside (elim o as (λ x. Walked) [
            | none ↦ solved table taken
            | some new ↦ elim (over new) as (λ x. Walked) [ some r ↦ refused r | none ↦ elim (stop new) as (λ x. Walked) [ true ↦ solved new (suc taken) | false ↦ stopped_walk left (suc taken) new ] ]
          ])
          (elim o as (λ x. Walked) [ none ↦ solved table taken | some new ↦ elim (over new) as (λ x. Walked) [ some r ↦ refused r | none ↦ whole_walk left (suc taken) new ] ])
      go ih none = alike
      go ih (some new) = limited ih new (over new)
