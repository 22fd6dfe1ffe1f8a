-- The walk over other limits: where it solves it solves alike without limits on its tables and with more turns allowed; and where the turns end it solves.
use Prim.Native.Nat.{ℕ, zero, suc, ◌+◌, ◌≤◌}
use Rattle.std.proofs.Math.Path.{◌≡◌, refl}
use Rattle.std.proofs.Common.{ap, ◌∙◌}
use Rattle.std.specs.Prelude.{Bool, true, false}
use Rattle.std.proofs.Math.Option.{Option, none, some}
use mathlib.Core.List.{List}
use native.Mathlib.Omega.{arith}
use Rattle.format.specs.declared.refusal.Refusal.{Refusal}
use Rattle.format.specs.declared.refusal.Refusal.TheVariants.{TooManyTurns as too_many_turns}
use Rattle.terms.specs.Position.{Node}
use Rattle.solving.specs.Line.{Line}
use Rattle.solving.specs.Walk.{Fuel, Walked, solved, refused, turn, walk_until}
use Rattle.termination.specs.Walk.{no_limit}
use Rattle.termination.specs.Theory.Turns.{Halts, no_turn, one_turn}

module _ (fuel : Fuel) (view : ℕ → Node) where
  module _ (earns : List Line → Option Refusal) (stop : List Line → Bool) where
    -- The walk by its next turn, with what comes after it handed in.
    abbrev after_turn : (taken : ℕ) → List Line → (List Line → Option Refusal) → (List Line → Walked) → Option (List Line) → Walked
    after_turn taken table earns on o = elim o [ none ↦ solved table taken | some new ↦ elim (earns new) [ some r ↦ refused r | none ↦ elim (stop new) [ true ↦ solved new (suc taken) | false ↦ on new ] ] ]

    abbrev at_last_turn : (taken : ℕ) → List Line → Option (List Line) → Walked
    at_last_turn taken table o = elim o [ none ↦ solved table taken | some new ↦ refused too_many_turns ]

    pub freed : (left most : ℕ) → left ≤ most → (taken : ℕ) (table final : List Line) (turns : ℕ)
        → walk_until fuel view earns stop left taken table ≡ solved final turns → walk_until fuel view no_limit stop most taken table ≡ solved final turns
    unfolding walk_until no_limit
    freed zero zero l taken table final turns d = d
    freed zero (suc most) l taken table final turns d = go (turn fuel view table) d
      where
        go : (o : Option (List Line)) → at_last_turn taken table o ≡ solved final turns → after_turn taken table no_limit (walk_until fuel view no_limit stop most (suc taken)) o ≡ solved final turns
        go none d = d
        go (some new) d = let z : ◌≡◌ {A = ℕ} 0 1 = cc in absurd (omega arith)
    freed (suc left) zero l taken table final turns d = absurd (omega arith)
    freed (suc left) (suc most) l taken table final turns d = go (freed left most (omega arith) (suc taken)) (turn fuel view table) d
      where
        IH : Type 0
        IH = (table final : List Line) (turns : ℕ) → walk_until fuel view earns stop left (suc taken) table ≡ solved final turns
            → walk_until fuel view no_limit stop most (suc taken) table ≡ solved final turns

        stopped : IH → (new : List Line) (b : Bool)
            → (elim b as (λ x. Walked) [ true ↦ solved new (suc taken) | false ↦ walk_until fuel view earns stop left (suc taken) new ]) ≡ solved final turns
            → (elim b as (λ x. Walked) [ true ↦ solved new (suc taken) | false ↦ walk_until fuel view no_limit stop most (suc taken) new ]) ≡ solved final turns
        stopped ih new true d = d
        stopped ih new false d = ih new final turns d

        limited : IH → (new : List Line) (r : Option Refusal)
            → (elim r as (λ x. Walked) [ some r ↦ refused r | none ↦ elim (stop new) as (λ x. Walked) [ true ↦ solved new (suc taken) | false ↦ walk_until fuel view earns stop left (suc taken) new ] ]) ≡ solved final turns
            → (elim (stop new) as (λ x. Walked) [ true ↦ solved new (suc taken) | false ↦ walk_until fuel view no_limit stop most (suc taken) new ]) ≡ solved final turns
        limited ih new (some r) d = let z : ◌≡◌ {A = ℕ} 0 1 = cc in absurd (omega arith)
        limited ih new none d = stopped ih new (stop new) d

        go : IH → (o : Option (List Line)) → after_turn taken table earns (walk_until fuel view earns stop left (suc taken)) o ≡ solved final turns
            → after_turn taken table no_limit (walk_until fuel view no_limit stop most (suc taken)) o ≡ solved final turns
        go ih none d = d
        go ih (some new) d = limited ih new (earns new) d

  -- Where the turns end, whatever stops the walk before.
  halts_solved : (stop : List Line → Bool) {table : List Line} → Halts fuel view table → (taken : ℕ)
      → (final : List Line) × (left : ℕ) × (walk_until fuel view no_limit stop left taken table ≡ solved final (taken + left))
  unfolding walk_until no_limit
  halts_solved stop (no_turn {table = table} e) taken = let s : taken ≡ taken + 0 = omega arith in (table, 0, rw (e, walk_until) (ap (solved table) s))
  halts_solved stop (one_turn {table = table} {new = new} e h) taken = go (halts_solved stop h (suc taken)) (stop new) refl
    where
      Solved : List Line → ℕ → Type 0
      Solved table k = (final : List Line) × (left : ℕ) × (walk_until fuel view no_limit stop left k table ≡ solved final (k + left))

      go : Solved new (suc taken) → (b : Bool) → stop new ≡ b → Solved table taken
      go ih true d = let s : suc taken ≡ taken + 1 = omega arith in (new, 1, rw (e, d, walk_until) (ap (solved new) s))
      go ih false d =
          let (final, left, w) = ih in
          let s : suc taken + left ≡ taken + suc left = omega arith in
          (final, suc left, rw (e, d, walk_until) (rw s at w))

  pub halts_ends : (stop : List Line → Bool) {table : List Line} → Halts fuel view table
      → (final : List Line) × (turns : ℕ) × ((most : ℕ) → turns ≤ most → walk_until fuel view no_limit stop most 0 table ≡ solved final turns)
  halts_ends stop {table} h =
      let (final, turns, w) = halts_solved stop h 0 in
      let s : 0 + turns ≡ turns = omega arith in
      (final, turns, λ most l. freed no_limit stop turns most l 0 table final turns (w ∙ ap (solved final) s))
