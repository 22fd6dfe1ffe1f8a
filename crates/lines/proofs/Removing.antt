-- An element is deleted from a line that rests in the memory.
use Prim.Native.Nat.{ℕ, suc, ◌+◌, ◌-◌, ◌*◌, ◌≤◌}
use mathlib.Core.Path.{◌≡◌, refl, sym, ap, ap₂, ◌∙◌}
use mathlib.Core.List.{List, [], ◌∷◌, ◌++◌, append_assoc}
use lib.ListN.{length, get_or, set, take, drop, length-append, length-drop, length-set}
use lib.Seq.{length-take-le, split_at}
use native.Mathlib.Numerals.{add-one}
use native.Mathlib.Omega.{arith}
use Rattle.format.specs.Limits.{variable_count, max_elements, no_position}
use Rattle.solving.specs.Line.{Element, greater}
use Rattle.lines.specs.declared.line.Line.{Line as LineValue}
use Rattle.line_bytes.specs.ForContracts.Layout.{count_place, first_element, reduced_place, line_bytes, placed}
use Rattle.line_bytes.specs.ForContracts.Resting.{marks, padding, resting_bytes}
use Rattle.line_bytes.specs.ForContracts.Room.{rest_after}
use Rattle.lines.specs.ForContracts.Line.{elements_from, ElementsFit, RemovalFits, Removes}
use Rattle.line_bytes.specs.Theory.Resting.{length_marks, marks_append, length_resting}
use Rattle.line_bytes.specs.Theory.Placed.{placed_length, set_placed}
use Rattle.line_bytes.specs.Theory.InPlace.{placed_same, placed_inside, counts_set}
use Rattle.line_bytes.specs.Theory.Shifted.{part_cut, shifted_left}
use Rattle.line_bytes.specs.Theory.Cut.{resting_cut, padding_after, length_padding}

-- The line's own bytes.
module _ (bs : List ℕ) (pre post : List Element) (e : Element) (r : ℕ) (slots : length bs ≡ variable_count) (few : length (pre ++ (e ∷ post)) ≤ max_elements) where
  abbrev whole_line : List ℕ
  whole_line = resting_bytes (record { bindings = bs; elements = pre ++ (e ∷ post); reduced = r })

  removed_there : (shifted cleared after : List ℕ) (end : ℕ) → shifted ≡ placed (first_element + 2 * length pre) (marks post) whole_line → end ≡ first_element + 2 * (length pre + length post)
      → cleared ≡ set (set shifted end no_position) (end + 1) no_position
      → after ≡ set (set cleared count_place (length pre + length post)) reduced_place (length pre)
      → after ≡ resting_bytes (record { bindings = bs; elements = pre ++ post; reduced = length pre })
  unfolding resting_bytes rest_after
  removed_there shifted cleared after end s x y z =
      let c = length (pre ++ (e ∷ post)) in
      let total = length pre + length post in
      let long : c ≡ length pre + suc (length post) = length-append pre (e ∷ post) in
      let both : length (pre ++ post) ≡ total = length-append pre post in
      let front = bs ++ (c ∷ marks pre) in
      let lf : length front ≡ first_element + 2 * length pre = omega (arith, length-append bs (c ∷ marks pre), length_marks pre) in
      let lp = length_marks post in
      let rest = padding c ++ (r ∷ []) in
      let from = first_element + 2 * length pre + 2 in
      let stop = from + length (marks post) in
      let cut = resting_cut bs pre post e r in
      let h : length front + 2 ≡ from = omega arith in
      let part = part_cut from stop whole_line front (marks (e ∷ [])) (marks post) rest h (length_marks (e ∷ [])) refl cut in
      let start : first_element + 2 * length pre ≡ from - 2 = omega arith in
      let stop_is : end ≡ stop - 2 = omega arith in
      let cleared_is : cleared ≡ front ++ (marks post ++ (no_position ∷ no_position ∷ rest)) =
      shifted_left from stop whole_line front (marks (e ∷ [])) (marks post) rest h (length_marks (e ∷ [])) refl cut shifted cleared
      (s ∙ ap₂ (λ i p. placed i p whole_line) start (sym part)) (y ∙ ap (λ i. set (set shifted i no_position) (i + 1) no_position) stop_is) in
      let fill : no_position ∷ no_position ∷ rest ≡ padding total ++ (r ∷ []) = padding_after 0 c total (r ∷ []) few (omega arith) (omega arith) in
      let mid = marks pre ++ (marks post ++ padding total) in
      let lm : length mid ≡ 2 * max_elements = omega (arith, length-append (marks pre) (marks post ++ padding total), length-append (marks post) (padding total), length_padding total, length_marks pre) in
      let opened : cleared ≡ bs ++ (c ∷ (mid ++ (r ∷ []))) = cleared_is ∙ (ap (λ l. front ++ (marks post ++ l)) fill ∙ simp append_assoc) in
      z
      ∙ (ap (λ b. set (set b count_place total) reduced_place (length pre)) opened
      ∙ (counts_set bs c r total (length pre) mid slots lm
      ∙ (ap (λ m. bs ++ (total ∷ m)) (sym (joined (marks_append pre post)))
      ∙ ap (λ m. bs ++ (m ∷ (marks (pre ++ post) ++ (padding m ++ (length pre ∷ []))))) (sym both))))
    where
      joined : marks (pre ++ post) ≡ marks pre ++ marks post
          → marks (pre ++ post) ++ (padding (length pre + length post) ++ (length pre ∷ [])) ≡ (marks pre ++ (marks post ++ padding (length pre + length post))) ++ (length pre ∷ [])
      joined d = ap (◌++ (padding (length pre + length post) ++ (length pre ∷ []))) d ∙ simp append_assoc

-- What the code may put.
module _ {l : LineValue} {place at : ℕ} {memory : List ℕ} (f : RemovalFits l place at memory) where
  pub removal_elements : (to : ℕ) → to ≡ place + first_element + 2 * at → ElementsFit l (at + 1) to memory
  removal_elements to e = record {
    few = omega (arith, f.holds.count_is, f.few);
    within = omega (arith, f.holds.count_is, f.inside);
    markable = rw (f.holds.elements_are (at + 1) (omega (arith, f.known))) f.markable;
    room = omega (arith, f.holds.count_is, f.inside, f.few, f.whole);
  }

-- What stands in the memory then.
pub removed : {l : LineValue} {place at : ℕ} {memory : List ℕ} → RemovalFits l place at memory → (m₁ m₂ m₃ m₄ : List ℕ) (to end : ℕ) → to ≡ place + first_element + 2 * at
    → end ≡ place + first_element + 2 * (l.count - 1) → m₁ ≡ placed to (marks (elements_from l (at + 1))) memory → m₂ ≡ set (set m₁ end no_position) (end + 1) no_position
    → m₃ ≡ set m₂ (place + count_place) (l.count - 1) → m₄ ≡ set m₃ (place + reduced_place) at → Removes l place at memory m₄
removed {l = l} {place = place} {at = at} {memory = memory} f m₁ m₂ m₃ m₄ to end x y a b c d = record {
  removes = λ s h there slots few inside known.
      let es = s.elements in
      let pre = take at es in
      let e = get_or es at (greater 0 0) in
      let post = drop (at + 1) es in
      let whole = f.whole in
      let count = h.count_is in
      let ln = length_resting s slots few in
      let cut : es ≡ pre ++ (e ∷ post) = split_at es at (greater 0 0) inside ∙ ap (λ n. pre ++ (e ∷ drop n es)) (sym (add-one at)) in
      let lpre : length pre ≡ at = length-take-le at es (omega arith) in
      let lpost : length post ≡ length es - (at + 1) = length-drop (at + 1) es in
      let line = resting_bytes s in
      let i = first_element + 2 * at in
      let j = first_element + 2 * (l.count - 1) in
      let lmarks : length (marks post) ≡ 2 * (length es - (at + 1)) = omega (arith, length_marks post) in
      let to_is : to ≡ place + i = omega arith in
      let end_is : end ≡ place + j = omega arith in
      let again : placed place line memory ≡ memory = placed_same place line_bytes line memory whole ln there in
      let line₁ = placed i (marks post) line in
      let l₁ : length line₁ ≡ line_bytes = placed_length i (marks post) line (omega arith) ∙ ln in
      let one : m₁ ≡ placed place line₁ memory =
      a
      ∙ (ap₂ (λ k es. placed k (marks es) memory) to_is (h.elements_are (at + 1) (omega arith))
      ∙ (ap (placed (place + i) (marks post)) (sym again) ∙ placed_inside place i (marks post) line memory (omega arith) (omega arith))) in
      let line₂ = set (set line₁ j no_position) (j + 1) no_position in
      let k : place + j + 1 ≡ place + (j + 1) = omega arith in
      let l₂ = length-set line₁ j no_position in
      let l₃ = length-set (set line₁ j no_position) (j + 1) no_position in
      let two : m₂ ≡ placed place line₂ memory =
      b
      ∙ (ap₂ (λ k m. set (set m k no_position) (k + 1) no_position) end_is one
      ∙ (ap (λ m. set m (place + j + 1) no_position) (set_placed place line₁ memory j no_position (omega arith) (omega arith))
      ∙ (ap (λ n. set (placed place (set line₁ j no_position) memory) n no_position) k
      ∙ set_placed place (set line₁ j no_position) memory (j + 1) no_position (omega arith) (omega arith)))) in
      let line₃ = set line₂ count_place (l.count - 1) in
      let l₄ = length-set line₂ count_place (l.count - 1) in
      let three : m₃ ≡ placed place line₃ memory =
      c ∙ (ap (λ m. set m (place + count_place) (l.count - 1)) two ∙ set_placed place line₂ memory count_place (l.count - 1) (omega arith) (omega arith)) in
      let line₄ = set line₃ reduced_place at in
      let four : m₄ ≡ placed place line₄ memory =
      d ∙ (ap (λ m. set m (place + reduced_place) at) three ∙ set_placed place line₃ memory reduced_place at (omega arith) (omega arith)) in
      let line_is : line ≡ resting_bytes (record { bindings = s.bindings; elements = pre ++ (e ∷ post); reduced = s.reduced }) =
      ap (λ x. resting_bytes (record { bindings = s.bindings; elements = x; reduced = s.reduced })) cut in
      let fewer : length (pre ++ (e ∷ post)) ≤ max_elements = omega (arith, ap length cut) in
      let total : l.count - 1 ≡ length pre + length post = omega arith in
      let start : i ≡ first_element + 2 * length pre = omega arith in
      let stop : j ≡ first_element + 2 * (length pre + length post) = omega arith in
      let last : line₄ ≡ resting_bytes (record { bindings = s.bindings; elements = pre ++ post; reduced = length pre }) =
      removed_there s.bindings pre post e s.reduced slots fewer line₁ line₂ line₄ j (ap₂ (λ n x. placed n (marks post) x) start line_is) stop refl
      (ap₂ (λ n r. set (set line₂ count_place n) reduced_place r) total (sym lpre)) in
      four ∙ ap (λ part. placed place part memory) (last ∙ ap (λ n. resting_bytes (record { bindings = s.bindings; elements = pre ++ post; reduced = n })) lpre);
}
