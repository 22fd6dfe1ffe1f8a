-- A line by its bindings and its elements, and what holds before each turn of the loop over lines: none of those passed holds.
use Prim.Native.Nat.{ℕ, suc, ◌+◌, ◌≤◌, ◌<◌}
use mathlib.Core.Path.{◌≡◌, refl, sym, ap, subst, ◌∙◌}
use mathlib.Core.Logic.{◌↔◌}
use mathlib.Core.Bool.{Bool, true, false}
use mathlib.Core.List.{List, [], ◌∷◌, map}
use native.Mathlib.Omega.{arith}
use lib.ListN.{length, length-append, length-map}
use lib.Seq.{slice}
use Rattle.format.specs.Limits.{variable_count}
use Rattle.terms.specs.Term.{Term, Values}
use Rattle.solving.specs.Line.{Bindings, Element, Line, line, binding_byte, element_bytes}
use Rattle.solving.specs.Holds.{BindingsHold, ElementsHold, LineHolds}
use Rattle.solving.specs.Judge.{first_holding}
use Rattle.solving.specs.Theory.Judge.{one_later, first_holding_here, first_holding_later}
use Rattle.line_bytes.specs.ForContracts.Layout.{first_element}
use Rattle.cells.specs.ForContracts.Cells.{SettledCells}
use Rattle.kept_lines.specs.declared.trimmed.KeptLines.{KeptLines}
use Rattle.kept_lines.specs.ForContracts.Trimmed.{trimmed, trimmed_lines}
use Rattle.kept_lines.specs.ForContracts.Holding.{LinesTestable, BindingsAre, ElementsAre, LineIs, LinesAre, HasBindings, HasElements, HasLine, HasLines}
use Rattle.kept_lines.proofs.Answer.{Tells, not_so, told_not}
use Rattle.kept_lines.proofs.Lengths.{counted_length}
use Rattle.kept_lines.proofs.Parts.{slice_front, slice_back, slice_first}
use Rattle.kept_lines.specs.Theory.Lengths.{length_trimmed}

module _ (nodes sizes values : List ℕ) (ρ : Values) (value : ℕ → Term) (table : List ℕ) where
  pub record LineParts (at end : ℕ) (l : Line) : Type 0 where
    pub bindings : Bindings
    pub elements : List Element
    pub bindings_are : BindingsAre nodes sizes values ρ value table at bindings
    pub elements_are : ElementsAre nodes sizes values ρ value table (at + first_element) end elements
    pub sized : length (trimmed l) ≡ counted_length table at
    pub holds : (BindingsHold ρ value 0 bindings × ElementsHold ρ value elements) ↔ LineHolds ρ value l

module _ {nodes sizes values : List ℕ} {ρ : Values} {value : ℕ → Term} {table : List ℕ} where
  pub line_parts : {at end : ℕ} (l : Line) → LineIs nodes sizes values ρ value table at end l → LineParts nodes sizes values ρ value table at end l
  unfolding trimmed
  line_parts {at} {end} (line θ es) i =
      let bs = map binding_byte θ in
      let slots = i.testable.0 in
      let b : length bs ≡ variable_count = length-map θ binding_byte ∙ slots in
      let n = length_trimmed θ es slots in
      let e = i.ends in
      let front = slice_front at end table bs (length es ∷ element_bytes es) i.there (omega arith) i.room in
      let back = slice_back at end table bs (length es ∷ element_bytes es) i.there in
      let (c, r) = slice_first (at + variable_count) end table (length es) (element_bytes es) (omega arith) i.room (rw b at back) in
      let far : at + variable_count + 1 ≡ at + first_element = omega arith in
      record {
        bindings = θ;
        elements = es;
        bindings_are = record { whole = slots; room = omega (arith, i.room); there = rw b at front; testable = i.testable.2 };
        elements_are = record { ends = omega arith; room = i.room; there = rw far at r; testable = i.testable.3 };
        sized = omega arith;
        holds = (λ h. h, λ h. h);
      }

module _ {nodes sizes values table : List ℕ} {at end : ℕ} where
  pub has_bindings : HasLine nodes sizes values table at end → HasBindings nodes sizes values table at
  has_bindings h = let p = line_parts h.this h.is in record { assigned = h.assigned; value = h.value; bindings = p.bindings; are = p.bindings_are }

  pub has_elements : HasLine nodes sizes values table at end → HasElements nodes sizes values table (at + first_element) end
  has_elements h = let p = line_parts h.this h.is in record { assigned = h.assigned; value = h.value; elements = p.elements; are = p.elements_are }

  -- Whether the line holds, from whether its bindings and its elements do.
  module _ {r : Bool} (tells : (ρ : Values) (value : ℕ → Term) (θ : Bindings) → BindingsAre nodes sizes values ρ value table at θ → Tells r (BindingsHold ρ value 0 θ)) where
    pub line_fails : r ≡ false → (ρ : Values) (value : ℕ → Term) (l : Line) → LineIs nodes sizes values ρ value table at end l → Tells false (LineHolds ρ value l)
    line_fails e ρ value l i = let p = line_parts l i in not_so (λ h. told_not e (tells ρ value p.bindings p.bindings_are) (p.holds.1 h).0)

    pub line_tells : {q : Bool} → r ≡ true
        → ((ρ : Values) (value : ℕ → Term) (es : List Element) → ElementsAre nodes sizes values ρ value table (at + first_element) end es → Tells q (ElementsHold ρ value es))
        → (ρ : Values) (value : ℕ → Term) (l : Line) → LineIs nodes sizes values ρ value table at end l → Tells q (LineHolds ρ value l)
    line_tells e others ρ value l i =
        let p = line_parts l i in
        let b = (tells ρ value p.bindings p.bindings_are).0 e in
        let t = others ρ value p.elements p.elements_are in
        (λ d. p.holds.0 (b, t.0 d), λ h. t.1 (p.holds.1 h).1)

module _ (nodes sizes values table : List ℕ) (lines : KeptLines) where
  module _ (ρ : Values) (value : ℕ → Term) (ls : List Line) where
    -- The lines from `at` on, of which the first is line `count`.
    pub record LinesLeft (at count : ℕ) : Type 0 where
      pub left : List Line
      pub are : LinesAre nodes sizes values ρ value table (record { from = at; end = lines.end }) left
      pub found : (n : ℕ) → first_holding ρ value left ≡ suc n → first_holding ρ value ls ≡ count + n
      pub none : first_holding ρ value left ≡ 0 → first_holding ρ value ls ≡ 0

    -- The line from `at` to `next`, line `count`.
    pub record LineHere (at count next : ℕ) : Type 0 where
      pub this : Line
      pub ends : next ≤ lines.end
      pub is : LineIs nodes sizes values ρ value table at next this
      pub here : LineHolds ρ value this → count ≡ first_holding ρ value ls
      pub others : ¬ LineHolds ρ value this → LinesLeft next (count + 1)

  -- A line has bytes, so that there are no more lines before `at` than bytes.
  pub record NoneHolds (at count : ℕ) (ready cells : List ℕ) : Type 0 where
    pub settled : SettledCells nodes sizes values ready cells
    pub some : 0 < count
    pub few : count ≤ at + 1
    pub left : (ρ : Values) (value : ℕ → Term) (ls : List Line) → LinesAre nodes sizes values ρ value table lines ls → LinesLeft ρ value ls at count

module _ {nodes sizes values table : List ℕ} {lines : KeptLines} where
  module _ {ρ : Values} {value : ℕ → Term} {ls : List Line} where
    line_here : {at count : ℕ} → LinesLeft nodes sizes values table lines ρ value ls at count → at < lines.end
        → LineHere nodes sizes values table lines ρ value ls at count (at + counted_length table at)
    unfolding trimmed_lines
    line_here {at} {count} s h = go s.left s.are.ends s.are.there s.are.testable s.found s.none
      where
        go : (left : List Line) → lines.end ≡ at + length (trimmed_lines left) → slice at lines.end table ≡ trimmed_lines left → LinesTestable nodes sizes values ρ value left
            → ((n : ℕ) → first_holding ρ value left ≡ suc n → first_holding ρ value ls ≡ count + n) → (first_holding ρ value left ≡ 0 → first_holding ρ value ls ≡ 0)
            → LineHere nodes sizes values table lines ρ value ls at count (at + counted_length table at)
        go [] e t x f z = absurd (omega arith)
        go (l ∷ rest) e t x f z =
            let a = length-append (trimmed l) (trimmed_lines rest) in
            let room = s.are.room in
            let there : LineIs nodes sizes values ρ value table at (at + length (trimmed l)) l =
            record { ends = refl; room = omega arith; there = slice_front at lines.end table (trimmed l) (trimmed_lines rest) t (omega arith) room; testable = x.0 } in
            subst (LineHere nodes sizes values table lines ρ value ls at count) (ap (at +◌) (line_parts l there).sized) (record {
              this = l;
              ends = omega arith;
              is = there;
              here = λ y. sym (f 0 (first_holding_here ρ value l rest y) ∙ omega arith);
              others = λ m. record {
                left = rest;
                are = record { ends = omega arith; room = room; there = slice_back at lines.end table (trimmed l) (trimmed_lines rest) t; testable = x.1 };
                found = λ k d. f (suc k) (first_holding_later ρ value l rest m ∙ ap one_later d) ∙ omega arith;
                none = λ d. z (first_holding_later ρ value l rest m ∙ ap one_later d);
              };
            })

  pub lines_start : {ready cells : List ℕ} → SettledCells nodes sizes values ready cells → NoneHolds nodes sizes values table lines lines.from 1 ready cells
  lines_start m = record {
    settled = m;
    some = omega arith;
    few = omega arith;
    left = λ ρ value ls a. record {
      left = ls;
      are = record { ends = a.ends; room = a.room; there = a.there; testable = a.testable };
      found = λ n e. e ∙ omega arith;
      none = λ e. e;
    };
  }

  module _ {at count : ℕ} {ready cells : List ℕ} (s : NoneHolds nodes sizes values table lines at count ready cells) where
    module _ (h : at < lines.end) where
      -- The line, of as many bytes as the code counts.
      module _ {n : ℕ} (e : n ≡ counted_length table at) where
        here : (ρ : Values) (value : ℕ → Term) (ls : List Line) → LinesAre nodes sizes values ρ value table lines ls → LineHere nodes sizes values table lines ρ value ls at count (at + n)
        here ρ value ls a = rw e (line_here (s.left ρ value ls a) h)

        pub line_ends : HasLines nodes sizes values table lines → (at + n ≤ lines.end) × (lines.end ≤ length table)
        line_ends b = ((here b.assigned b.value b.these b.are).ends, b.are.room)

        pub line_there : HasLines nodes sizes values table lines → HasLine nodes sizes values table at (at + n)
        line_there b = let l = here b.assigned b.value b.these b.are in record { assigned = b.assigned; value = b.value; this = l.this; is = l.is }

        module _ {r : Bool} (tells : (ρ : Values) (value : ℕ → Term) (l : Line) → LineIs nodes sizes values ρ value table at (at + n) l → Tells r (LineHolds ρ value l)) where
          pub first_found : r ≡ true → (ρ : Values) (value : ℕ → Term) (ls : List Line) → LinesAre nodes sizes values ρ value table lines ls → (0 < count) × (first_holding ρ value ls ≡ count)
          first_found d ρ value ls a = let l = here ρ value ls a in (s.some, sym (l.here ((tells ρ value l.this l.is).0 d)))

          pub lines_again : {ready_after cells_after : List ℕ} → r ≡ false → SettledCells nodes sizes values ready_after cells_after
              → NoneHolds nodes sizes values table lines (at + n) (count + 1) ready_after cells_after
          lines_again d m = record {
            settled = m;
            some = omega arith;
            few = omega (arith, s.few);
            left = λ ρ value ls a. let l = here ρ value ls a in l.others (told_not d (tells ρ value l.this l.is));
          }

    pub lines_done : lines.end ≤ at → (ρ : Values) (value : ℕ → Term) (ls : List Line) → LinesAre nodes sizes values ρ value table lines ls → first_holding ρ value ls ≡ 0
    unfolding trimmed_lines first_holding
    lines_done h ρ value ls a = go x.left x.are.ends x.are.testable x.none
      where
        x : LinesLeft nodes sizes values table lines ρ value ls at count
        x = s.left ρ value ls a

        go : (left : List Line) → lines.end ≡ at + length (trimmed_lines left) → LinesTestable nodes sizes values ρ value left → (first_holding ρ value left ≡ 0 → first_holding ρ value ls ≡ 0)
            → first_holding ρ value ls ≡ 0
        go [] e t z = z refl
        go (line θ es ∷ rest) e t z = absurd (omega (arith, length-append (trimmed (line θ es)) (trimmed_lines rest), length_trimmed θ es t.0.0))
