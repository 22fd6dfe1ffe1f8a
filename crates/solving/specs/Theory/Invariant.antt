-- What every turn keeps, the table that the walk ends with has, whatever its limits and what stops it; and where nothing has stopped it, no turn can be taken on that table.
-- What is kept may speak of the number of turns taken.
use Prim.Native.Nat.{ℕ, zero, suc, ◌+◌, ◌≤◌}
use Rattle.std.proofs.Math.Path.{◌≡◌, refl}
use Rattle.std.specs.Prelude.{Bool, true, false}
use Rattle.std.proofs.Math.Option.{Option, none, some}
use mathlib.Core.List.{List}
use native.Mathlib.Omega.{arith}
use Rattle.format.specs.declared.refusal.Refusal.{Refusal}
use Rattle.terms.specs.Position.{Node}
use Rattle.solving.specs.Line.{Line}
use Rattle.solving.specs.Walk.{Fuel, Walked, solved, refused, turn, walk_until}

-- The end of a walk.
pub record Ended (fuel : Fuel) (view : ℕ → Node) (stop : List Line → Bool) (P : ℕ → List Line → Type 0) (table : List Line) (turns taken most : ℕ) : Type 0 where
  pub has : P turns table
  pub finished : stop table ≡ false → turn fuel view table ≡ none
  pub turns_from : taken ≤ turns
  pub turns_within : turns ≤ most

module _ (fuel : Fuel) (view : ℕ → Node) (over : List Line → Option Refusal) (stop : List Line → Bool) (P : ℕ → List Line → Type 0)
    (keeps : (n : ℕ) (table new : List Line) → P n table → turn fuel view table ≡ some new → over new ≡ none → P (suc n) new) where
  abbrev goes_on : (left taken : ℕ) → List Line → Walked
  goes_on = walk_until fuel view over stop

  abbrev End : List Line → (turns taken most : ℕ) → Type 0
  End = Ended fuel view stop P

  pub walk_keeps : (left taken : ℕ) (table final : List Line) (turns : ℕ) → P taken table → walk_until fuel view over stop left taken table ≡ solved final turns → Ended fuel view stop P final turns taken (taken + left)
  unfolding walk_until
  walk_keeps zero taken table final turns h d = go (turn fuel view table) refl d
    where
      go : (o : Option (List Line)) → turn fuel view table ≡ o → (elim o as (λ x. Walked) [ none ↦ solved table taken | some new ↦ refused Refusal.TooManyTurns ]) ≡ solved final turns → End final turns taken (taken + 0)
      go none e d = let x : final ≡ table = cc in let y : turns ≡ taken = cc in rw (x, y) (record { has = h; finished = λ b. e; turns_from = omega arith; turns_within = omega arith })
      go (some new) e d = let z : ◌≡◌ {A = ℕ} 0 1 = cc in absurd (omega arith)
  walk_keeps (suc left) taken table final turns h d = go (walk_keeps left (suc taken)) (turn fuel view table) refl d
    where
      IH : Type 0
      IH = (table final : List Line) (turns : ℕ) → P (suc taken) table → goes_on left (suc taken) table ≡ solved final turns → End final turns (suc taken) (suc taken + left)

      looked_over : IH → (new : List Line) → P (suc taken) new → (b : Bool) → stop new ≡ b → (elim b as (λ x. Walked) [ true ↦ solved new (suc taken) | false ↦ goes_on left (suc taken) new ]) ≡ solved final turns
          → End final turns taken (taken + suc left)
      looked_over ih new k true s d =
          let x : final ≡ new = cc in
          let y : turns ≡ suc taken = cc in
          rw (x, y) (record { has = k; finished = λ b. let z : ◌≡◌ {A = ℕ} 0 1 = cc in absurd (omega arith); turns_from = omega arith; turns_within = omega arith })
      looked_over ih new k false s d = let t = ih new final turns k d in record { has = t.has; finished = t.finished; turns_from = omega (arith, t.turns_from); turns_within = omega (arith, t.turns_within) }

      limited : IH → (new : List Line) → turn fuel view table ≡ some new → (o : Option Refusal) → over new ≡ o
          → (elim o as (λ x. Walked) [ some r ↦ refused r | none ↦ elim (stop new) as (λ x. Walked) [ true ↦ solved new (suc taken) | false ↦ goes_on left (suc taken) new ] ]) ≡ solved final turns
          → End final turns taken (taken + suc left)
      limited ih new e (some r) x d = let z : ◌≡◌ {A = ℕ} 0 1 = cc in absurd (omega arith)
      limited ih new e none x d = looked_over ih new (keeps taken table new h e x) (stop new) refl d

      go : IH → (o : Option (List Line)) → turn fuel view table ≡ o
          → (elim o as (λ x. Walked) [
            | none ↦ solved table taken
            | some new ↦ elim (over new) as (λ x. Walked) [ some r ↦ refused r | none ↦ elim (stop new) as (λ x. Walked) [ true ↦ solved new (suc taken) | false ↦ goes_on left (suc taken) new ] ]
          ]) ≡ solved final turns
          → End final turns taken (taken + suc left)
      go ih none e d = let x : final ≡ table = cc in let y : turns ≡ taken = cc in rw (x, y) (record { has = h; finished = λ b. e; turns_from = omega arith; turns_within = omega arith })
      go ih (some new) e d = limited ih new e (over new) refl d
