-- The walk from its first table to its last.
use Rattle.std.specs.Prelude.{ℕ, zero, suc, ◌-◌, ◌<◌, ◌≡◌, refl, ◌↔◌, Bool, get_or, replicate}
use Rattle.std.proofs.Common.{inl, inr}
use Rattle.std.proofs.Math.Option.{Option, none, some}
use mathlib.Core.List.{List, [], ◌∷◌}
use Rattle.std.proofs.lemmas.List.{length-replicate}
use native.Mathlib.Omega.{arith}
use Rattle.format.specs.Limits.{variable_count, max_turns}
use Rattle.format.specs.declared.refusal.Refusal.{Refusal}
use Rattle.terms.specs.Term.{Term, Values}
use Rattle.terms.specs.Position.{Node}
use Rattle.terms.specs.Theory.View.{Layout, Model}
use Rattle.path_order.specs.Order.{◌≻◌}
use Rattle.solving.specs.Line.{no_bindings, unbound, lookup, greater, Line, line}
use Rattle.solving.specs.Walk.{Fuel, solved, over_limit, opening, turn, walk_within}
use Rattle.solving.specs.Holds.{SomeLineHolds}
use Rattle.solving.specs.Theory.Seen.{bound_variable}
use Rattle.solving.proofs.Theory.Reach.{Sufficient}
use Rattle.solving.specs.ForContracts.Bindings.{Proper}
use Rattle.solving.proofs.Theory.Table.{ProperTable, turn_proper}
use Rattle.solving.proofs.Theory.Fuel.{walk_until_fuel}
use Rattle.solving.proofs.Theory.Values.{bindings_hold}
use Rattle.solving.proofs.Theory.Exact.{turn_exact}
use Rattle.solving.specs.Theory.Invariant.{Ended, walk_keeps}
use Rattle.solving.proofs.Theory.Written.{InLimits, limits_kept}

-- The first table is proper, and says that the source's instance exceeds the target's.
replicate_none : (k v : ℕ) → ◌≡◌ {A = Option ℕ} (get_or (replicate k none) v none) none
replicate_none zero v = refl
replicate_none (suc k) zero = refl
replicate_none (suc k) (suc v) = replicate_none k v

pub nothing_bound : (vars v p : ℕ) → lookup (unbound vars) v ≡ some p → ⊥
nothing_bound vars v p e = let z : ◌≡◌ {A = ℕ} 0 1 = cc (replicate_none vars v) in omega arith

module _ {view : ℕ → Node} {vars n : ℕ} (lay : Layout view vars n) where
  pub unbound_proper : Proper view vars n (unbound vars)
  unbound_proper = record {
    slots = length-replicate vars none;
    rising = λ v p w e d. absurd (nothing_bound vars v p e);
    within = λ v p e. absurd (nothing_bound vars v p e);
    height = λ p. n - p;
    falls = record {
      down = λ p f c ps e i. omega (arith, lay.argument_behind p f c ps e i, lay.argument_within p f c ps e i);
      along = λ p q e. let (v, d, x) = bound_variable (unbound vars) (view p) q e in absurd (nothing_bound vars v q x);
    };
  }

  pub opening_proper : (s t : ℕ) → s < n → t < n → ProperTable view vars n (opening vars s t)
  unfolding opening
  opening_proper s t i j = ((unbound_proper, ((i, j), tt)), tt)

pub no_bindings_proper : {view : ℕ → Node} {n : ℕ} → Layout view variable_count n → Proper view variable_count n no_bindings
unfolding no_bindings
no_bindings_proper lay = unbound_proper lay

pub opening_says : (ρ : Values) (value : ℕ → Term) (s t : ℕ) → value s ≻ value t ↔ SomeLineHolds ρ value (opening variable_count s t)
unfolding opening
opening_says ρ value s t = (λ g. inl (bindings_hold ρ value (unbound variable_count) (record { meets = λ v p e. absurd (nothing_bound variable_count v p e) }), (g, tt)), back)
  where
    back : SomeLineHolds ρ value (line (unbound variable_count) (greater s t ∷ []) ∷ []) → value s ≻ value t
    back (inl h) = h.1.0
    back (inr h) = absurd h

-- The walk over `n` positions with fuel that suffices, whatever stops it.
module _ {fuel : Fuel} {view : ℕ → Node} {n : ℕ} (lay : Layout view variable_count n) (suf : Sufficient variable_count n fuel) (s t : ℕ) (i : s < n) (j : t < n) (stop : List Line → Bool) where
  -- What every table of the walk has.
  pub record Kept (table : List Line) : Type 0 where
    pub proper : ProperTable view variable_count n table
    pub limits : InLimits table

  pub walk_kept : (table : List Line) (turns : ℕ) → walk_within fuel view over_limit stop max_turns variable_count s t ≡ solved table turns → Ended fuel view stop (λ k. Kept) table turns 0 max_turns
  unfolding walk_within
  walk_kept table turns e = walk_keeps fuel view over_limit stop (λ k. Kept)
      (λ k old new h x y. record { proper = turn_proper lay suf old new h.proper x; limits = limits_kept new y })
      max_turns 0 (opening variable_count s t) table turns
      (record { proper = opening_proper lay s t i j; limits = record { short_lines = (omega arith, tt); few_lines = omega arith } })
      e

  pub walk_exact : {ρ : Values} {value : ℕ → Term} → Model view ρ value → (table : List Line) (turns : ℕ) → walk_within fuel view over_limit stop max_turns variable_count s t ≡ solved table turns
      → value s ≻ value t ↔ SomeLineHolds ρ value table
  unfolding walk_within
  walk_exact {ρ} {value} m table turns e =
      (walk_keeps fuel view over_limit stop (λ k. TableSays) (λ k. keeps) max_turns 0 (opening variable_count s t) table turns (opening_proper lay s t i j, opening_says ρ value s t) e).has.1
    where
      TableSays : List Line → Type 0
      TableSays table = ProperTable view variable_count n table × (value s ≻ value t ↔ SomeLineHolds ρ value table)

      keeps : (old new : List Line) → TableSays old → turn fuel view old ≡ some new → over_limit new ≡ none → TableSays new
      keeps old new k x y = let b = turn_exact lay suf m old new k.0 x in (turn_proper lay suf old new k.0 x, (λ g. b.0 (k.1.0 g), λ h. k.1.1 (b.1 h)))

-- No fuel that suffices changes the walk, whatever its limits and what stops it.
pub walk_fuel : {fuel₁ fuel₂ : Fuel} {view : ℕ → Node} {vars n : ℕ} → Layout view vars n → Sufficient vars n fuel₁ → Sufficient vars n fuel₂ → (over : List Line → Option Refusal)
    (stop : List Line → Bool) (most s t : ℕ) → s < n → t < n → walk_within fuel₁ view over stop most vars s t ≡ walk_within fuel₂ view over stop most vars s t
unfolding walk_within
walk_fuel {vars} lay a b over stop most s t i j = walk_until_fuel lay a b over stop most 0 (opening vars s t) (opening_proper lay s t i j)
