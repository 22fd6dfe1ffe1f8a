-- The walk with its limits and its stop test, by the tables that its turns come to.
use Prim.Native.Nat.{ℕ, zero, suc, ◌-◌, ◌≤◌, ◌<◌}
use Rattle.std.proofs.Math.Path.{◌≡◌, refl, sym, ap}
use Rattle.std.proofs.Common.{◌∙◌}
use Rattle.std.specs.Prelude.{Bool, true, false}
use Rattle.std.proofs.Math.Option.{Option, none, some}
use mathlib.Core.List.{List}
use native.Mathlib.Omega.{arith}
use Rattle.format.specs.declared.refusal.Refusal.{Refusal}
use Rattle.format.specs.declared.refusal.Refusal.TheVariants.{TooManyTurns as too_many_turns}
use Rattle.terms.specs.Position.{Node}
use Rattle.solving.specs.Line.{Line}
use Rattle.solving.specs.Walk.{Fuel, solved, refused, opening, turn, walk_until, walk_within}
use Rattle.solving.specs.Turns.{turn_within, table_after}

-- The walk from a table, by its next turn.
module _ (fuel : Fuel) (view : ℕ → Node) (over : List Line → Option Refusal) (stop : List Line → Bool) (taken : ℕ) (table : List Line) where
  pub until_ends : (left : ℕ) → turn fuel view table ≡ none → walk_until fuel view over stop left taken table ≡ solved table taken
  unfolding walk_until
  until_ends zero d = rw (d, walk_until)
  until_ends (suc left) d = rw (d, walk_until)

  module _ (new : List Line) (d : turn fuel view table ≡ some new) where
    pub until_too_long : walk_until fuel view over stop 0 taken table ≡ refused too_many_turns
    unfolding walk_until
    until_too_long = rw (d, walk_until)

    pub until_over : (left : ℕ) (r : Refusal) → over new ≡ some r → walk_until fuel view over stop (suc left) taken table ≡ refused r
    unfolding walk_until
    until_over left r x = rw (d, x, walk_until)

    until_on : (left : ℕ) → over new ≡ none → stop new ≡ false → walk_until fuel view over stop (suc left) taken table ≡ walk_until fuel view over stop left (suc taken) new
    unfolding walk_until
    until_on left x b = rw (d, x, b, walk_until)

    until_stops : (left : ℕ) → over new ≡ none → stop new ≡ true → walk_until fuel view over stop (suc left) taken table ≡ solved new (suc taken)
    unfolding walk_until
    until_stops left x b = rw (d, x, b, walk_until)

-- The walk from its first table.
module _ (fuel : Fuel) (view : ℕ → Node) (over : List Line → Option Refusal) (vars s t : ℕ) where
  abbrev pub after : ℕ → Option (List Line)
  after = table_after fuel view over vars s t

  -- The turn that came to a table.
  pub record Before (n : ℕ) (new : List Line) : Type 0 where
    pub table : List Line
    pub comes : after n ≡ some table
    pub turns : turn fuel view table ≡ some new
    pub allowed : over new ≡ none

  pub before : (n : ℕ) (new : List Line) → after (suc n) ≡ some new → Before n new
  unfolding table_after turn_within
  before n new e = outer (after n) refl e
    where
      inner : (table : List Line) → after n ≡ some table → (next : List Line) → turn fuel view table ≡ some next → (o : Option Refusal) → over next ≡ o
          → (elim o as (λ x. Option (List Line)) [ some r ↦ none | none ↦ some next ]) ≡ some new → Before n new
      inner table c next d (some r) x e = let z : ◌≡◌ {A = ℕ} 0 1 = cc in absurd (omega arith)
      inner table c next d none x e = let y : next ≡ new = cc in record { table = table; comes = c; turns = d ∙ ap some y; allowed = sym (ap over y) ∙ x }

      middle : (table : List Line) → after n ≡ some table → (o : Option (List Line)) → turn fuel view table ≡ o
          → (elim o as (λ x. Option (List Line)) [ none ↦ none | some next ↦ elim (over next) as (λ x. Option (List Line)) [ some r ↦ none | none ↦ some next ] ]) ≡ some new → Before n new
      middle table c none d e = let z : ◌≡◌ {A = ℕ} 0 1 = cc in absurd (omega arith)
      middle table c (some next) d e = inner table c next d (over next) refl e

      outer : (o : Option (List Line)) → after n ≡ o → (elim o as (λ x. Option (List Line)) [ none ↦ none | some table ↦ turn_within fuel view over table ]) ≡ some new → Before n new
      outer none c e = let z : ◌≡◌ {A = ℕ} 0 1 = cc in absurd (omega arith)
      outer (some table) c e = middle table c (turn fuel view table) refl e

  pub after_turn : (n : ℕ) (table new : List Line) → after n ≡ some table → turn fuel view table ≡ some new → over new ≡ none
      → after (suc n) ≡ some new
  unfolding table_after
  after_turn n table new c d x = rw (c, d, x, table_after, turn_within)

  pub same_table : (n : ℕ) (table other : List Line) → after n ≡ some table → after n ≡ some other → table ≡ other
  same_table n table other a b = cc

  module _ (stop : List Line → Bool) where
    -- No table after a turn, up to that after `n` turns, passes the stop test.
    abbrev pub Unstopped : ℕ → Type 0
    Unstopped n = (i : ℕ) (table : List Line) → 0 < i → i ≤ n → after i ≡ some table → stop table ≡ false

    -- The walk goes on from the table after `n` turns.
    pub walk_goes_on : (most n : ℕ) (table : List Line) → n ≤ most → after n ≡ some table → Unstopped n
        → walk_until fuel view over stop (most - n) n table ≡ walk_within fuel view over stop most vars s t
    unfolding table_after walk_within
    walk_goes_on most zero table h c u = let e : table ≡ opening vars s t = cc in let z : most - 0 ≡ most = omega arith in rw (e, z)
    walk_goes_on most (suc n) table h c u =
        let b = before n table c in
        let l : most - n ≡ suc (most - suc n) = omega arith in
        sym (until_on fuel view over stop n b.table table b.turns (most - suc n) b.allowed (u (suc n) table (omega arith) (omega arith) c))
        ∙ (ap (λ k. walk_until fuel view over stop k n b.table) (sym l)
        ∙ walk_goes_on most n b.table (omega arith) b.comes (λ i other p q x. u i other p (omega arith) x))

    -- It stops at the first table that passes the test.
    pub walk_stops : (most n : ℕ) (table : List Line) → suc n ≤ most → after (suc n) ≡ some table → stop table ≡ true → Unstopped n
        → walk_within fuel view over stop most vars s t ≡ solved table (suc n)
    walk_stops most n table h c p u =
        let b = before n table c in
        let l : most - n ≡ suc (most - suc n) = omega arith in
        sym (walk_goes_on most n b.table (omega arith) b.comes u)
        ∙ (ap (λ k. walk_until fuel view over stop k n b.table) l
        ∙ until_stops fuel view over stop n b.table table b.turns (most - suc n) b.allowed p)
