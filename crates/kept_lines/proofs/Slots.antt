-- What holds before each turn of the loop over a line's bindings: all hold exactly if those that are left do.
use Prim.Native.Nat.{ℕ, suc, ◌+◌, ◌≤◌, ◌<◌}
use mathlib.Core.Path.{◌≡◌, sym, ap, subst, ◌∙◌}
use mathlib.Core.Logic.{◌↔◌}
use mathlib.Core.Bool.{Bool, true, false}
use mathlib.Core.Option.{none, some}
use mathlib.Core.List.{List, [], ◌∷◌, map}
use native.Mathlib.Numerals.{add-one}
use native.Mathlib.Omega.{arith}
use lib.ListN.{length, get_or}
use lib.Seq.{slice}
use Rattle.format.specs.Limits.{variable_count, no_position}
use Rattle.terms.specs.Term.{Term, Values}
use Rattle.solving.specs.Line.{Bindings, binding_byte}
use Rattle.solving.specs.Holds.{BindingsHold}
use Rattle.cells.specs.ForContracts.Cells.{SettledCells}
use Rattle.kept_lines.specs.ForContracts.Holding.{BindingTestable, BindingsTestable, BindingsAre, HasBinding, HasBindings}
use Rattle.kept_lines.proofs.Answer.{Tells, so, not_so, told_not}
use Rattle.kept_lines.proofs.Parts.{slice_first}

module _ (nodes sizes values table : List ℕ) (at : ℕ) where
  module _ (ρ : Values) (value : ℕ → Term) (θ : Bindings) where
    -- The slots from variable `v` upward.
    pub record SlotsLeft (v : ℕ) : Type 0 where
      pub left : Bindings
      pub whole : v + length left ≡ variable_count
      pub room : at + variable_count ≤ length table
      pub there : slice (at + v) (at + variable_count) table ≡ map binding_byte left
      pub testable : BindingsTestable nodes sizes values ρ value v left
      pub back : BindingsHold ρ value v left ↔ BindingsHold ρ value 0 θ

    -- The slot of variable `v`, by its byte.
    pub data Slot (v byte : ℕ) : Type 0 where
      free : byte ≡ no_position → SlotsLeft (v + 1) → Slot v byte
      bound : BindingTestable nodes sizes values ρ value v byte → (BindingsHold ρ value 0 θ → ρ v ≡ value byte) → (ρ v ≡ value byte → SlotsLeft (v + 1)) → Slot v byte

  pub record SlotsHold (v : ℕ) (ready cells : List ℕ) : Type 0 where
    pub settled : SettledCells nodes sizes values ready cells
    pub left : (ρ : Values) (value : ℕ → Term) (θ : Bindings) → BindingsAre nodes sizes values ρ value table at θ → SlotsLeft ρ value θ v

module _ {nodes sizes values table : List ℕ} {at : ℕ} where
  module _ {ρ : Values} {value : ℕ → Term} {θ : Bindings} where
    pub slot : {v : ℕ} → SlotsLeft nodes sizes values table at ρ value θ v → v < variable_count → Slot nodes sizes values table at ρ value θ v (get_or table (at + v) 0)
    unfolding binding_byte
    slot {v} s h = go s.left s.whole s.there s.testable s.back
      where
        next : (left : Bindings) → v + suc (length left) ≡ variable_count → slice (at + v + 1) (at + variable_count) table ≡ map binding_byte left
            → BindingsTestable nodes sizes values ρ value (suc v) left → BindingsHold ρ value (suc v) left ↔ BindingsHold ρ value 0 θ
            → SlotsLeft nodes sizes values table at ρ value θ (v + 1)
        next left w t x k =
            let e : at + v + 1 ≡ at + (v + 1) = omega arith in
            record {
              left = left;
              whole = omega arith;
              room = s.room;
              there = rw e at t;
              testable = subst (λ n. BindingsTestable nodes sizes values ρ value n left) (sym (add-one v)) x;
              back = subst (λ n. BindingsHold ρ value n left ↔ BindingsHold ρ value 0 θ) (sym (add-one v)) k;
            }

        go : (left : Bindings) → v + length left ≡ variable_count → slice (at + v) (at + variable_count) table ≡ map binding_byte left
            → BindingsTestable nodes sizes values ρ value v left → BindingsHold ρ value v left ↔ BindingsHold ρ value 0 θ
            → Slot nodes sizes values table at ρ value θ v (get_or table (at + v) 0)
        go [] w t x k = absurd (omega arith)
        go (none ∷ left) w t x k =
            let (b, r) = slice_first (at + v) (at + variable_count) table no_position (map binding_byte left) (omega arith) s.room t in
            free b (next left w r x k)
        go (some p ∷ left) w t x k =
            let (b, r) = slice_first (at + v) (at + variable_count) table p (map binding_byte left) (omega arith) s.room t in
            bound (subst (BindingTestable nodes sizes values ρ value v) (sym b) x.0) (λ h. (k.1 h).0 ∙ ap value (sym b)) (λ e. next left w r x.1 (λ h. k.0 (e ∙ ap value b, h), λ h. (k.1 h).1))

  pub slots_start : {ready cells : List ℕ} → SettledCells nodes sizes values ready cells → SlotsHold nodes sizes values table at 0 ready cells
  slots_start m = record {
    settled = m;
    left = λ ρ value θ b.
        let e : at ≡ at + 0 = omega arith in
        record {
          left = θ;
          whole = omega (arith, b.whole);
          room = b.room;
          there = ap (λ n. slice n (at + variable_count) table) (sym e) ∙ b.there;
          testable = b.testable;
          back = (λ h. h, λ h. h);
        };
  }

  module _ {v : ℕ} {ready cells : List ℕ} (s : SlotsHold nodes sizes values table at v ready cells) where
    -- The byte of variable `v`, as the code reads it.
    module _ (h : v < variable_count) {p : ℕ} (e : p ≡ get_or table (at + v) 0) where
      here : (ρ : Values) (value : ℕ → Term) (θ : Bindings) → BindingsAre nodes sizes values ρ value table at θ → Slot nodes sizes values table at ρ value θ v p
      here ρ value θ b = subst (Slot nodes sizes values table at ρ value θ v) (sym e) (slot (s.left ρ value θ b) h)

      module _ (l : p < no_position) where
        pub binding_there : HasBindings nodes sizes values table at → HasBinding nodes sizes values v p
        binding_there b = elim (here b.assigned b.value b.bindings b.are) [
          | free e n ↦ absurd (omega arith)
          | bound t w n ↦ record { assigned = b.assigned; value = b.value; testable = t }
        ]

        module _ {r : Bool} (tells : (ρ : Values) (value : ℕ → Term) → BindingTestable nodes sizes values ρ value v p → Tells r (ρ v ≡ value p)) where
          pub slot_fails : r ≡ false → (ρ : Values) (value : ℕ → Term) (θ : Bindings) → BindingsAre nodes sizes values ρ value table at θ → Tells false (BindingsHold ρ value 0 θ)
          slot_fails d ρ value θ b = elim (here ρ value θ b) [
            | free e n ↦ absurd (omega arith)
            | bound t w n ↦ not_so (λ x. told_not d (tells ρ value t) (w x))
          ]

          pub slot_holds : {ready_after cells_after : List ℕ} → r ≡ true → SettledCells nodes sizes values ready_after cells_after → SlotsHold nodes sizes values table at (v + 1) ready_after cells_after
          slot_holds d m = record {
            settled = m;
            left = λ ρ value θ b. elim (here ρ value θ b) [ free e n ↦ absurd (omega arith) | bound t w n ↦ n ((tells ρ value t).0 d) ];
          }

      pub slot_free : no_position ≤ p → SlotsHold nodes sizes values table at (v + 1) ready cells
      slot_free l = record {
        settled = s.settled;
        left = λ ρ value θ b. elim (here ρ value θ b) [ free e n ↦ n | bound t w n ↦ absurd (omega (arith, t.instance_there.inside)) ];
      }

    pub slots_done : variable_count ≤ v → (ρ : Values) (value : ℕ → Term) (θ : Bindings) → BindingsAre nodes sizes values ρ value table at θ → Tells true (BindingsHold ρ value 0 θ)
    slots_done h ρ value θ b = go x.left x.whole x.back
      where
        x : SlotsLeft nodes sizes values table at ρ value θ v
        x = s.left ρ value θ b

        go : (left : Bindings) → v + length left ≡ variable_count → BindingsHold ρ value v left ↔ BindingsHold ρ value 0 θ → Tells true (BindingsHold ρ value 0 θ)
        go [] w k = so (k.0 tt)
        go (o ∷ left) w k = absurd (omega arith)
