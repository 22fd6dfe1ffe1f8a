-- What holds before each turn of the loop over a line's inequalities: all hold exactly if those that are left do.
use Prim.Native.Nat.{ℕ, ◌+◌, ◌*◌, ◌≤◌, ◌<◌}
use mathlib.Core.Path.{◌≡◌, ◌∙◌}
use mathlib.Core.Logic.{◌↔◌}
use mathlib.Core.Bool.{Bool, true, false}
use mathlib.Core.List.{List, [], ◌∷◌}
use native.Mathlib.Omega.{arith}
use lib.ListN.{length, get_or}
use lib.Seq.{slice}
use Rattle.format.specs.Limits.{position_count}
use Rattle.terms.specs.Term.{Term, Values}
use Rattle.path_order.specs.Order.{◌≻◌}
use Rattle.solving.specs.Line.{Element, equal, greater, element_bytes}
use Rattle.solving.specs.Holds.{ElementsHold}
use Rattle.line_bytes.specs.declared.element.Relation.TheVariants.{Equal, Greater}
use Rattle.line_bytes.specs.declared.element.Element.{Element as Held}
use Rattle.line_bytes.specs.ForContracts.Resting.{meaning, marked}
use Rattle.line_bytes.specs.Theory.Element.{marked_greater, says_equal, says_greater}
use Rattle.cells.specs.ForContracts.Cells.{SettledCells}
use Rattle.kept_lines.specs.ForContracts.Holding.{ElementTestable, ElementsTestable, ElementsAre, HasInequality, HasElements}
use Rattle.kept_lines.proofs.Answer.{Tells, so, not_so, told_not}
use Rattle.kept_lines.proofs.Parts.{slice_first}

module _ (nodes sizes values table : List ℕ) (from end : ℕ) where
  module _ (ρ : Values) (value : ℕ → Term) (es : List Element) where
    -- The inequalities from byte `i` on.
    pub record PairsLeft (i : ℕ) : Type 0 where
      pub left : List Element
      pub are : ElementsAre nodes sizes values ρ value table i end left
      pub back : ElementsHold ρ value left ↔ ElementsHold ρ value es

    -- The inequality at `i`, by its two bytes.
    pub record Pair (i p q : ℕ) : Type 0 where
      pub ends : i + 2 ≤ end
      pub testable : ElementTestable nodes sizes values ρ value (greater p q)
      pub asked : ElementsHold ρ value es → value p ≻ value q
      pub others : value p ≻ value q → PairsLeft (i + 2)

  pub record PairsHold (i : ℕ) (ready cells : List ℕ) : Type 0 where
    pub settled : SettledCells nodes sizes values ready cells
    pub left : (ρ : Values) (value : ℕ → Term) (es : List Element) → ElementsAre nodes sizes values ρ value table from end es → PairsLeft ρ value es i

module _ {nodes sizes values table : List ℕ} {from end : ℕ} where
  module _ {ρ : Values} {value : ℕ → Term} {es : List Element} where
    pub pair : {i : ℕ} → PairsLeft nodes sizes values table from end ρ value es i → i < end
        → Pair nodes sizes values table from end ρ value es i (get_or table i 0) (get_or table (i + 1) 0)
    unfolding element_bytes
    pair {i} s h = go s.left s.are.ends s.are.there s.are.testable s.back
      where
        go : (left : List Element) → end ≡ i + 2 * length left → slice i end table ≡ element_bytes left → ElementsTestable nodes sizes values ρ value left
            → ElementsHold ρ value left ↔ ElementsHold ρ value es → Pair nodes sizes values table from end ρ value es i (get_or table i 0) (get_or table (i + 1) 0)
        go [] e t x k = absurd (omega arith)
        go (equal p q ∷ left) e t x k = absurd x.0
        go (greater p q ∷ left) e t x k =
            let (a, u) = slice_first i end table p (q ∷ element_bytes left) h s.are.room t in
            let (b, r) = slice_first (i + 1) end table q (element_bytes left) (omega arith) s.are.room u in
            let far : i + 1 + 1 ≡ i + 2 = omega arith in
            rw (a, b) (record {
              ends = omega arith;
              testable = x.0;
              asked = λ y. (k.1 y).0;
              others = λ y. record {
                left = left;
                are = record { ends = omega arith; room = s.are.room; there = rw far at r; testable = x.1 };
                back = (λ z. k.0 (y, z), λ z. (k.1 z).1);
              };
            })

  pub pairs_start : {ready cells : List ℕ} → SettledCells nodes sizes values ready cells → PairsHold nodes sizes values table from end from ready cells
  pairs_start m = record { settled = m; left = λ ρ value es a. record { left = es; are = a; back = (λ h. h, λ h. h) } }

  module _ {i : ℕ} {ready cells : List ℕ} (s : PairsHold nodes sizes values table from end i ready cells) where
    module _ (h : i < end) where
      -- The two bytes are there, and they are an inequality's.
      pub record PairThere : Type 0 where
        pub ends : i + 2 ≤ end
        pub room : i + 2 ≤ length table
        pub position : get_or table i 0 < position_count

      pub pair_there : HasElements nodes sizes values table from end → PairThere
      pair_there b =
          let l = s.left b.assigned b.value b.elements b.are in
          let p = pair l h in
          record { ends = p.ends; room = omega (arith, p.ends, l.are.room); position = p.testable.0.inside }

      -- The element that the code reads there.
      module _ (e : Held) (m : meaning e ≡ marked (get_or table i 0) (get_or table (i + 1) 0)) (b : HasElements nodes sizes values table from end) where
        read : meaning e ≡ greater (get_or table i 0) (get_or table (i + 1) 0)
        read = let t = pair_there b in m ∙ marked_greater (get_or table i 0) (get_or table (i + 1) 0) (omega (arith, t.position))

        pub no_equality : {p q : ℕ} → ¬ (e.relation ≡ Equal p q)
        no_equality {p} {q} r = let x = says_equal e p q r in let y = read in let z : ◌≡◌ {A = ℕ} 0 1 = cc in omega arith

        pub pair_read : {a b p q : ℕ} → e.relation ≡ Greater a b → p ≡ a → q ≡ b → (p ≡ get_or table i 0) × (q ≡ get_or table (i + 1) 0)
        pair_read {a} {b} r x y = let u = says_greater e a b r in let v = read in (cc, cc)

      module _ {p q : ℕ} (x : (p ≡ get_or table i 0) × (q ≡ get_or table (i + 1) 0)) where
        here : (ρ : Values) (value : ℕ → Term) (es : List Element) → ElementsAre nodes sizes values ρ value table from end es → Pair nodes sizes values table from end ρ value es i p q
        here ρ value es a = rw (x.0, x.1) (pair (s.left ρ value es a) h)

        pub inequality_there : HasElements nodes sizes values table from end → HasInequality nodes sizes values p q
        inequality_there b = record { assigned = b.assigned; value = b.value; testable = (here b.assigned b.value b.elements b.are).testable }

        module _ {r : Bool} (tells : (ρ : Values) (value : ℕ → Term) → ElementTestable nodes sizes values ρ value (greater p q) → Tells r (value p ≻ value q)) where
          pub pair_fails : r ≡ false → (ρ : Values) (value : ℕ → Term) (es : List Element) → ElementsAre nodes sizes values ρ value table from end es → Tells false (ElementsHold ρ value es)
          pair_fails e ρ value es a = let p = here ρ value es a in not_so (λ x. told_not e (tells ρ value p.testable) (p.asked x))

          pub pair_holds : {ready_after cells_after : List ℕ} → r ≡ true → SettledCells nodes sizes values ready_after cells_after
              → PairsHold nodes sizes values table from end (i + 2) ready_after cells_after
          pair_holds e m = record { settled = m; left = λ ρ value es a. let p = here ρ value es a in p.others ((tells ρ value p.testable).0 e) }

    pub pairs_done : end ≤ i → (ρ : Values) (value : ℕ → Term) (es : List Element) → ElementsAre nodes sizes values ρ value table from end es → Tells true (ElementsHold ρ value es)
    pairs_done h ρ value es a = go x.left x.are.ends x.back
      where
        x : PairsLeft nodes sizes values table from end ρ value es i
        x = s.left ρ value es a

        go : (left : List Element) → end ≡ i + 2 * length left → ElementsHold ρ value left ↔ ElementsHold ρ value es → Tells true (ElementsHold ρ value es)
        go [] e k = so (k.0 tt)
        go (y ∷ left) e k = absurd (omega arith)
