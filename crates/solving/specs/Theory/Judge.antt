-- The first holding line of a table is what its name says (document 01, 'Calls and lent memory': "first holding line counted from 1 or 0").
use Prim.Native.Nat.{ℕ, zero, suc, ◌<◌, ◌≤◌}
use Rattle.std.proofs.Math.Path.{◌≡◌, refl}
use Rattle.std.proofs.Math.Logic.{inl, inr}
use Rattle.std.specs.Prelude.{◌↔◌, length}
use Rattle.std.proofs.Math.Option.{some}
use mathlib.Core.List.{List, [], ◌∷◌}
use native.Mathlib.Omega.{arith}
use Rattle.format.specs.Lists.{entry}
use Rattle.terms.specs.Term.{Term, Values}
use Rattle.terms.specs.Equation.{value}
use Rattle.solving.specs.Line.{Line}
use Rattle.solving.specs.Holds.{LineHolds, SomeLineHolds}
use Rattle.solving.specs.Judge.{line_holds?, first_holding}

-- The count of a table from that of its lines after the first, where the first does not hold.
abbrev pub one_later : ℕ → ℕ
one_later n = elim n [ zero ↦ 0 | suc i ↦ suc (suc i) ]

one_later_pos : (n : ℕ) → (0 < one_later n) ↔ (0 < n)
one_later_pos zero = (λ h. h, λ h. h)
one_later_pos (suc n) = (λ h. omega arith, λ h. omega arith)

one_later_is : (n i : ℕ) → one_later n ≡ suc i → (j : ℕ) × (i ≡ suc j) × (n ≡ suc j)
one_later_is zero i e = absurd (omega arith)
one_later_is (suc n) i e = (n, omega arith, refl)

module _ (ρ : Values) (value : ℕ → Term) where
  abbrev ThisHolds : Line → Type 0
  ThisHolds = LineHolds ρ value

  abbrev counted : (l : Line) → Dec (ThisHolds l) → ℕ → ℕ
  counted l d n = elim d [ yes h ↦ 1 | no m ↦ one_later n ]

  -- By whether the first line holds.
  module _ (l : Line) (ls : List Line) where
    pub first_holding_here : ThisHolds l → first_holding ρ value (l ∷ ls) ≡ 1
    unfolding first_holding
    first_holding_here h = go (line_holds? ρ value l)
      where
        go : (d : Dec (ThisHolds l)) → counted l d (first_holding ρ value ls) ≡ 1
        go (yes x) = refl
        go (no n) = absurd (n h)

    pub first_holding_later : ¬ ThisHolds l → first_holding ρ value (l ∷ ls) ≡ one_later (first_holding ρ value ls)
    unfolding first_holding
    first_holding_later m = go (line_holds? ρ value l)
      where
        go : (d : Dec (ThisHolds l)) → counted l d (first_holding ρ value ls) ≡ one_later (first_holding ρ value ls)
        go (yes x) = absurd (m x)
        go (no n) = refl

  -- It is not 0 exactly if some line holds.
  some_holds : (table : List Line) → 0 < first_holding ρ value table → SomeLineHolds ρ value table
  unfolding first_holding
  some_holds [] h = absurd (omega arith)
  some_holds (l ∷ ls) h = go (line_holds? ρ value l) h (some_holds ls)
    where
      go : (d : Dec (ThisHolds l)) → 0 < counted l d (first_holding ρ value ls) → (0 < first_holding ρ value ls → SomeLineHolds ρ value ls) → SomeLineHolds ρ value (l ∷ ls)
      go (yes x) h later = inl x
      go (no n) h later = inr (later ((one_later_pos _).0 h))

  some_counted : (table : List Line) → SomeLineHolds ρ value table → 0 < first_holding ρ value table
  unfolding first_holding
  some_counted [] h = absurd h
  some_counted (l ∷ ls) h = go (line_holds? ρ value l) h (some_counted ls)
    where
      go : (d : Dec (ThisHolds l)) → SomeLineHolds ρ value (l ∷ ls) → (SomeLineHolds ρ value ls → 0 < first_holding ρ value ls) → 0 < counted l d (first_holding ρ value ls)
      go (yes x) h later = omega arith
      go (no n) (inl x) later = absurd (n x)
      go (no n) (inr x) later = (one_later_pos _).1 (later x)

  pub first_holding_pos : (table : List Line) → (0 < first_holding ρ value table) ↔ SomeLineHolds ρ value table
  first_holding_pos table = (some_holds table, some_counted table)

  -- The line at place `i`, counted from 0, holds, and none before it.
  pub record FirstHolds (table : List Line) (i : ℕ) : Type 0 where
    pub line_there : Line
    pub is_there : entry table i ≡ some line_there
    pub holds : ThisHolds line_there
    pub none_before : (j : ℕ) (l : Line) → j < i → entry table j ≡ some l → ¬ ThisHolds l

  first_here : (l : Line) (ls : List Line) → ThisHolds l → FirstHolds (l ∷ ls) 0
  unfolding entry
  first_here l ls h = record { line_there = l; is_there = refl; holds = h; none_before = λ j k b. absurd (omega arith) }

  first_later : (l : Line) (ls : List Line) (i : ℕ) → ¬ ThisHolds l → FirstHolds ls i → FirstHolds (l ∷ ls) (suc i)
  unfolding entry
  first_later l ls i n f = record { line_there = f.line_there; is_there = f.is_there; holds = f.holds; none_before = before }
    where
      before : (j : ℕ) (k : Line) → j < suc i → entry (l ∷ ls) j ≡ some k → ¬ ThisHolds k
      before zero k b e h = let d : l ≡ k = cc in n (rw d h)
      before (suc j) k b e h = f.none_before j k (omega arith) e h

  pub first_holding_is : (table : List Line) (i : ℕ) → first_holding ρ value table ≡ suc i → FirstHolds table i
  unfolding first_holding
  first_holding_is [] i h = absurd (omega arith)
  first_holding_is (l ∷ ls) i h = go (line_holds? ρ value l) h (first_holding_is ls)
    where
      go : (d : Dec (ThisHolds l)) → counted l d (first_holding ρ value ls) ≡ suc i → ((j : ℕ) → first_holding ρ value ls ≡ suc j → FirstHolds ls j)
          → FirstHolds (l ∷ ls) i
      go (yes x) h rest = let e : i ≡ 0 = omega arith in rw e (first_here l ls x)
      go (no n) h rest = let (j, x, y) = one_later_is _ i h in rw x (first_later l ls j n (rest j y))

  -- And the other way round: such a line is the first holding one.
  pub first_holding_at : (table : List Line) (i : ℕ) → FirstHolds table i → first_holding ρ value table ≡ suc i
  unfolding first_holding entry
  first_holding_at [] i f = let z : ◌≡◌ {A = ℕ} 0 1 = cc f.is_there in absurd (omega arith)
  first_holding_at (l ∷ ls) zero f = go (line_holds? ρ value l)
    where
      go : (d : Dec (ThisHolds l)) → counted l d (first_holding ρ value ls) ≡ 1
      go (yes x) = refl
      go (no n) = let e : l ≡ f.line_there = cc f.is_there in absurd (n (rw e f.holds))
  first_holding_at (l ∷ ls) (suc i) f =
      go (line_holds? ρ value l) (first_holding_at ls i (record {
        line_there = f.line_there;
        is_there = f.is_there;
        holds = f.holds;
        none_before = λ j k b e. f.none_before (suc j) k (omega arith) e;
      }))
    where
      go : (d : Dec (ThisHolds l)) → first_holding ρ value ls ≡ suc i → counted l d (first_holding ρ value ls) ≡ suc (suc i)
      go (yes x) e = absurd (f.none_before 0 l (omega arith) refl x)
      go (no n) e = rw e

-- It is the number of a line of the table, or 0.
pub first_holding_low : (ρ : Values) (value : ℕ → Term) (ls : List Line) → first_holding ρ value ls ≤ length ls
unfolding first_holding
first_holding_low ρ value [] = omega arith
first_holding_low ρ value (l ∷ ls) = go (line_holds? ρ value l) (first_holding ρ value ls) (first_holding_low ρ value ls)
  where
    go : (d : Dec (LineHolds ρ value l)) (n : ℕ) → n ≤ length ls → ◌≤◌ (elim d [ yes h ↦ 1 | no x ↦ elim n [ zero ↦ 0 | suc i ↦ suc (suc i) ] ]) (suc (length ls))
    go (yes h) n b = omega arith
    go (no x) zero b = omega arith
    go (no x) (suc i) b = omega arith
