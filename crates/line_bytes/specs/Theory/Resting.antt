-- The bytes of a resting line.
use Rattle.std.specs.Prelude.{ℕ, zero, suc, ◌+◌, ◌-◌, ◌*◌, ◌≤◌, ◌<◌, ◌≡◌, refl, length, take}
use Rattle.std.proofs.Common.{sym, ap₂, ◌∙◌, length-append, arith}
use Rattle.std.proofs.Math.Path.{ap}
use mathlib.Core.List.{List, [], ◌∷◌, ◌++◌, append_assoc}
use Rattle.std.proofs.Math.ListN.{get_or, set}
use Rattle.std.proofs.lemmas.List.{length-replicate, get_or_at, set_at}
use Rattle.std.proofs.Math.Seq.{get_or-append-add, take_at}
use Rattle.format.specs.Limits.{variable_count, max_elements, record_bytes}
use Rattle.solving.specs.Line.{Element, equal, greater}
use Rattle.solving.specs.ForContracts.Within.{AllWithin}
use Rattle.line_bytes.specs.ForContracts.Layout.{count_place, first_element, reduced_place, line_bytes}
use Rattle.line_bytes.specs.ForContracts.Resting.{equality_mark, marked, marks, padding, RestingLine, resting_bytes}
use Rattle.line_bytes.specs.Theory.Element.{marked_greater, marked_equal}

pub length_marks : (es : List Element) → length (marks es) ≡ 2 * length es
unfolding marks
length_marks [] = refl
length_marks (equal p q ∷ es) = omega (arith, length_marks es)
length_marks (greater p q ∷ es) = omega (arith, length_marks es)

pub marks_append : (es fs : List Element) → marks (es ++ fs) ≡ marks es ++ marks fs
unfolding marks
marks_append [] fs = refl
marks_append (equal p q ∷ es) fs = ap (λ l. (equality_mark + p) ∷ q ∷ l) (marks_append es fs)
marks_append (greater p q ∷ es) fs = ap (λ l. p ∷ q ∷ l) (marks_append es fs)

module _ (l : RestingLine) (slots : length l.bindings ≡ variable_count) where
  abbrev rest_of : List ℕ
  rest_of = marks l.elements ++ (padding (length l.elements) ++ (l.reduced ∷ []))

  behind_bindings : (i : ℕ) → get_or (resting_bytes l) (variable_count + i) 0 ≡ get_or (length l.elements ∷ rest_of) i 0
  unfolding resting_bytes
  behind_bindings i = ap (λ n. get_or (resting_bytes l) (n + i) 0) (sym slots) ∙ get_or-append-add l.bindings (length l.elements ∷ rest_of) i 0

  pub count_there : get_or (resting_bytes l) count_place 0 ≡ length l.elements
  count_there = behind_bindings 0

  pub bindings_there : take variable_count (resting_bytes l) ≡ l.bindings
  unfolding resting_bytes
  bindings_there = take_at l.bindings _ variable_count slots

  -- The record, and behind it the count of elements that are known to be fully reduced.
  abbrev pub record_part : List ℕ
  record_part = l.bindings ++ (length l.elements ∷ (marks l.elements ++ padding (length l.elements)))

  pub resting_as_record : resting_bytes l ≡ record_part ++ (l.reduced ∷ [])
  unfolding resting_bytes
  resting_as_record = simp append_assoc

  module _ (few : length l.elements ≤ max_elements) where
    pub length_record_part : length record_part ≡ record_bytes
    unfolding padding
    length_record_part = simp (length-append, length-replicate) (omega (arith, slots, length_marks l.elements))

    pub reduced_there : get_or (resting_bytes l) reduced_place 0 ≡ l.reduced
    reduced_there = ap (λ b. get_or b reduced_place 0) resting_as_record ∙ get_or_at record_part l.reduced [] 0 reduced_place length_record_part

    pub record_there : take record_bytes (resting_bytes l) ≡ record_part
    record_there = ap (take record_bytes) resting_as_record ∙ take_at record_part (l.reduced ∷ []) record_bytes length_record_part

    pub length_resting : length (resting_bytes l) ≡ line_bytes
    length_resting = ap length resting_as_record ∙ (length-append record_part (l.reduced ∷ []) ∙ ap (◌+ 1) length_record_part)

    -- Another count of elements that are known to be fully reduced.
    pub set_reduced : (r : ℕ) → set (resting_bytes l) reduced_place r ≡ resting_bytes (record { bindings = l.bindings; elements = l.elements; reduced = r })
    unfolding resting_bytes
    set_reduced r = ap (λ b. set b reduced_place r) resting_as_record ∙ (set_at record_part l.reduced [] r reduced_place length_record_part ∙ simp append_assoc)

-- The two bytes of an element.
two_on : (x y : ℕ) (xs : List ℕ) (a b : ℕ) → a ≡ suc (suc b) → get_or (x ∷ y ∷ xs) a 0 ≡ get_or xs b 0
two_on x y xs a b e = ap (λ k. get_or (x ∷ y ∷ xs) k 0) e

marks_at : (es : List Element) (rest : List ℕ) (i n : ℕ) → i < length es → AllWithin n es → n ≤ equality_mark
    → marked (get_or (marks es ++ rest) (2 * i) 0) (get_or (marks es ++ rest) (2 * i + 1) 0) ≡ get_or es i (greater 0 0)
unfolding marks
marks_at [] rest i n h w k = absurd (omega arith)
marks_at (equal p q ∷ es) rest zero n h w k = marked_equal (equality_mark + p) q (omega arith) ∙ (let e : equality_mark + p - equality_mark ≡ p = omega arith in ap (λ x. equal x q) e)
marks_at (greater p q ∷ es) rest zero n h w k = marked_greater p q (omega (arith, w.0.0))
marks_at (equal p q ∷ es) rest (suc i) n h w k =
    ap₂ marked (two_on (equality_mark + p) q (marks es ++ rest) (2 * suc i) (2 * i) (omega arith)) (two_on (equality_mark + p) q (marks es ++ rest) (2 * suc i + 1) (2 * i + 1) (omega arith)) ∙ marks_at es rest i n (omega arith) w.1 k
marks_at (greater p q ∷ es) rest (suc i) n h w k =
    ap₂ marked (two_on p q (marks es ++ rest) (2 * suc i) (2 * i) (omega arith)) (two_on p q (marks es ++ rest) (2 * suc i + 1) (2 * i + 1) (omega arith)) ∙ marks_at es rest i n (omega arith) w.1 k

pub element_there : (l : RestingLine) → length l.bindings ≡ variable_count → (i n : ℕ) → i < length l.elements → AllWithin n l.elements → n ≤ equality_mark
    → marked (get_or (resting_bytes l) (first_element + 2 * i) 0) (get_or (resting_bytes l) (first_element + 2 * i + 1) 0) ≡ get_or l.elements i (greater 0 0)
element_there l slots i n h w k =
    let e : first_element + 2 * i ≡ variable_count + suc (2 * i) = omega arith in
    let d : first_element + 2 * i + 1 ≡ variable_count + suc (2 * i + 1) = omega arith in
    rw (d, e, behind_bindings l slots (suc (2 * i)), behind_bindings l slots (suc (2 * i + 1))) (marks_at l.elements (padding (length l.elements) ++ (l.reduced ∷ [])) i n h w k)
