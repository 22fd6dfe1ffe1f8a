-- The elements of a record, and what is printed of them.
use Prim.Native.Nat.{ℕ, zero, suc, ◌+◌, ◌-◌, ◌*◌, ◌≤◌, ◌<◌}
use mathlib.Core.Path.{◌≡◌, refl, sym, ap, ap₂, subst, ◌∙◌}
use mathlib.Core.List.{List, [], ◌∷◌, ◌++◌, map, flat_map, append_assoc, append-nil}
use native.Mathlib.Numerals.{add-one}
use native.Mathlib.Omega.{arith}
use lib.ListN.{length, get_or, take, replicate, length-map, get_or-append}
use lib.Seq.{take_all, get_or-append-add, get_or_at}
use Rattle.format.specs.Limits.{variable_count, max_elements, no_position, record_bytes}
use Rattle.terms.specs.Prefix.{prefix}
use Rattle.terms.specs.Equation.{Equation, term_at}
use Rattle.terms.specs.ForContracts.Limits.{positions}
use Rattle.solving.specs.Line.{Bindings, Element, equal, greater, binding_byte, element_bytes, record_of}
use Rattle.solving.specs.ForContracts.Within.{AllWithin}
use Rattle.listing.specs.Listing.{digits, element_terms}
use Rattle.listing.specs.ForContracts.Appended.{Appended}
use Rattle.listing.specs.Theory.Printed.{digits_append}
use Rattle.listing.specs.Theory.Appended.{appended_none, appended_join, appended_text}
use Rattle.solving.specs.Theory.Records.{length_element_bytes, length_record}
use Rattle.line_bytes.specs.ForContracts.Layout.{count_place, first_element}
use Rattle.frames.specs.ForContracts.Room.{term_room}
use Rattle.frames.specs.ForContracts.Line.{HasTerm, LineRecord, HasLineRecord}
use Rattle.frames.proofs.LineLaws.{TermPut}

-- Element `i` of these, and its bytes.
record PairAt (e : Equation) (n : ℕ) (es : List Element) (i : ℕ) : Type 0 where
  left : ℕ
  right : ℕ
  left_inside : left < n
  right_inside : right < n
  left_byte : get_or (element_bytes es) (2 * i) 0 ≡ left
  right_byte : get_or (element_bytes es) (2 * i + 1) 0 ≡ right
  next : flat_map (element_terms e) (take (suc i) es) ≡ flat_map (element_terms e) (take i es) ++ (prefix (term_at e left) ++ prefix (term_at e right))

later : {e : Equation} {n : ℕ} {es : List Element} {i : ℕ} (x : Element) (a b : ℕ) → element_bytes (x ∷ es) ≡ a ∷ b ∷ element_bytes es → PairAt e n es i → PairAt e n (x ∷ es) (suc i)
unfolding flat_map
later {e} {n} {es} {i} x a b k y =
    let f : 2 * suc i ≡ suc (suc (2 * i)) = omega arith in
    let g : 2 * suc i + 1 ≡ suc (suc (2 * i + 1)) = omega arith in
    record {
      left = y.left;
      right = y.right;
      left_inside = y.left_inside;
      right_inside = y.right_inside;
      left_byte = ap₂ (λ l m. get_or l m 0) k f ∙ y.left_byte;
      right_byte = ap₂ (λ l m. get_or l m 0) k g ∙ y.right_byte;
      next = ap (element_terms e x ++◌) y.next ∙ sym (append_assoc (element_terms e x) (flat_map (element_terms e) (take i es)) (prefix (term_at e y.left) ++ prefix (term_at e y.right)));
    }

pair_at : (e : Equation) (n : ℕ) (es : List Element) (i : ℕ) → AllWithin n es → i < length es → PairAt e n es i
unfolding element_bytes element_terms flat_map
pair_at e n [] i w h = absurd (omega arith)
pair_at e n (equal p q ∷ es) zero w h = record { left = p; right = q; left_inside = w.0.0; right_inside = w.0.1; left_byte = refl; right_byte = refl; next = append-nil (prefix (term_at e p) ++ prefix (term_at e q)) }
pair_at e n (greater p q ∷ es) zero w h = record { left = p; right = q; left_inside = w.0.0; right_inside = w.0.1; left_byte = refl; right_byte = refl; next = append-nil (prefix (term_at e p) ++ prefix (term_at e q)) }
pair_at e n (equal p q ∷ es) (suc i) w h = later (equal p q) p q refl (pair_at e n es i w.1 (omega arith))
pair_at e n (greater p q ∷ es) (suc i) w h = later (greater p q) p q refl (pair_at e n es i w.1 (omega arith))

module _ {bytes nodes sizes : List ℕ} {e : Equation} {θ : Bindings} {es : List Element} (r : LineRecord bytes nodes sizes e θ es) where
  abbrev filler : List ℕ
  filler = replicate (2 * (max_elements - length es)) no_position

  slots : length (map binding_byte θ) ≡ variable_count
  slots = length-map θ binding_byte ∙ r.written.slots

  split : bytes ≡ map binding_byte θ ++ (length es ∷ (element_bytes es ++ filler))
  unfolding record_of
  split = r.is ∙ append_assoc (map binding_byte θ) (length es ∷ element_bytes es) filler

  pub record_count : get_or bytes count_place 0 ≡ length es
  record_count = ap (λ l. get_or l count_place 0) split ∙ get_or_at (map binding_byte θ) (length es) (element_bytes es ++ filler) 0 count_place slots

  pub record_length : length bytes ≡ record_bytes
  record_length = ap length r.is ∙ length_record θ es r.written

  -- The bytes of the elements stand behind the count.
  element_byte : (k : ℕ) → k < 2 * length es → get_or bytes (first_element + k) 0 ≡ get_or (element_bytes es) k 0
  element_byte k h =
      let f : first_element + k ≡ length (map binding_byte θ) + suc k = omega (arith, slots) in
      ap₂ (λ l m. get_or l m 0) split f
      ∙ (get_or-append-add (map binding_byte θ) (length es ∷ (element_bytes es ++ filler)) (suc k) 0
      ∙ get_or-append (element_bytes es) filler 0 k (omega (arith, length_element_bytes es)))

  -- Element `i` as the code reads it.
  module _ (i : ℕ) (h : i < length es) where
    pair : PairAt e (positions e) es i
    pair = pair_at e (positions e) es i r.written.elements_within h

    left_is : get_or bytes (first_element + 2 * i) 0 ≡ pair.left
    left_is = element_byte (2 * i) (omega arith) ∙ pair.left_byte

    right_is : get_or bytes (first_element + 2 * i + 1) 0 ≡ pair.right
    right_is = let f : first_element + 2 * i + 1 ≡ first_element + (2 * i + 1) = omega arith in ap (λ m. get_or bytes m 0) f ∙ (element_byte (2 * i + 1) (omega arith) ∙ pair.right_byte)

    pub left_inside : get_or bytes (first_element + 2 * i) 0 < positions e
    left_inside = subst (◌< positions e) (sym left_is) pair.left_inside

    pub right_inside : get_or bytes (first_element + 2 * i + 1) 0 < positions e
    right_inside = subst (◌< positions e) (sym right_is) pair.right_inside

    pub one_more : flat_map (element_terms e) (take i es) ++ (prefix (term_at e (get_or bytes (first_element + 2 * i) 0)) ++ prefix (term_at e (get_or bytes (first_element + 2 * i + 1) 0)))
        ≡ flat_map (element_terms e) (take (i + 1) es)
    one_more =
        ap₂ (λ a b. flat_map (element_terms e) (take i es) ++ (prefix (term_at e a) ++ prefix (term_at e b))) left_is right_is
        ∙ (sym pair.next ∙ ap (λ m. flat_map (element_terms e) (take m es)) (sym (add-one i)))

-- The elements before element `i` are printed.
module _ (bytes nodes sizes before : List ℕ) (at : ℕ) where
  pub record ElementsPassed (out : List ℕ) (to i : ℕ) : Type 0 where
    pub within : i ≤ get_or bytes count_place 0
    pub reached : to ≤ at + i * (term_room + term_room)
    pub same_length : length out ≡ length before
    pub so_far : (e : Equation) (θ : Bindings) (es : List Element) → LineRecord bytes nodes sizes e θ es → Appended before at (digits (flat_map (element_terms e) (take i es))) out to

pub no_element_passed : (bytes nodes sizes before : List ℕ) (at : ℕ) → ElementsPassed bytes nodes sizes before at before at 0
unfolding flat_map digits
no_element_passed bytes nodes sizes before at = record { within = omega arith; reached = omega arith; same_length = refl; so_far = λ e θ es r. appended_none before at }

module _ {bytes nodes sizes before : List ℕ} {at : ℕ} {out : List ℕ} {to i : ℕ} (p : ElementsPassed bytes nodes sizes before at out to i) where
  pub element_passed : {a b : ℕ} {between after : List ℕ} {behind end : ℕ} → i < get_or bytes count_place 0
      → a ≡ get_or bytes (first_element + 2 * i) 0 → TermPut nodes sizes a out to between behind → behind ≤ to + term_room → length between ≡ length out
      → b ≡ get_or bytes (first_element + 2 * i + 1) 0 → TermPut nodes sizes b between behind after end → end ≤ behind + term_room → length after ≡ length between
      → ElementsPassed bytes nodes sizes before at after end (i + 1)
  element_passed {between = between} {after} {behind} {end} h ka x₀ a b kb y₀ k l = record { within = omega arith; reached = omega (arith, p.reached); same_length = l ∙ (b ∙ p.same_length); so_far = next }
    where
      x : TermPut nodes sizes (get_or bytes (first_element + 2 * i) 0) out to between behind
      x = subst (λ q. TermPut nodes sizes q out to between behind) ka x₀

      y : TermPut nodes sizes (get_or bytes (first_element + 2 * i + 1) 0) between behind after end
      y = subst (λ q. TermPut nodes sizes q between behind after end) kb y₀

      next : (e : Equation) (θ : Bindings) (es : List Element) → LineRecord bytes nodes sizes e θ es → Appended before at (digits (flat_map (element_terms e) (take (i + 1) es))) after end
      next e θ es r =
          let c : i < length es = omega (arith, record_count r) in
          let left = prefix (term_at e (get_or bytes (first_element + 2 * i) 0)) in
          let right = prefix (term_at e (get_or bytes (first_element + 2 * i + 1) 0)) in
          let terms = flat_map (element_terms e) (take i es) in
          let text : digits terms ++ (digits left ++ digits right) ≡ digits (flat_map (element_terms e) (take (i + 1) es)) =
          ap (digits terms ++◌) (sym (digits_append left right)) ∙ (sym (digits_append terms (left ++ right)) ∙ ap digits (one_more r i c)) in
          appended_text text (appended_join (digits terms) (digits left ++ digits right) (p.so_far e θ es r) (appended_join (digits left) (digits right) (x e r.sides (left_inside r i c)) (y e r.sides (right_inside r i c))))

  pub elements_passed : get_or bytes count_place 0 ≤ i → (e : Equation) (θ : Bindings) (es : List Element) → LineRecord bytes nodes sizes e θ es → Appended before at (digits (flat_map (element_terms e) es)) out to
  elements_passed h e θ es r = appended_text (ap (λ l. digits (flat_map (element_terms e) l)) (take_all i es (omega (arith, record_count r)))) (p.so_far e θ es r)

-- The terms of element `i` are there, and so are its bytes.
module _ {bytes nodes sizes : List ℕ} (r : HasLineRecord bytes nodes sizes) where
  pub few_elements : get_or bytes count_place 0 ≤ max_elements
  few_elements = omega (arith, record_count r.this, r.this.written.few_elements)

  pub all_bytes : length bytes ≡ record_bytes
  all_bytes = record_length r.this

  module _ {i : ℕ} (h : i < get_or bytes count_place 0) {q : ℕ} where
    pub left_there : q ≡ get_or bytes (first_element + 2 * i) 0 → HasTerm nodes sizes q
    left_there k = record { equation = r.equation; are = r.this.sides; inside = omega (arith, left_inside r.this i (omega (arith, record_count r.this))) }

    pub right_there : q ≡ get_or bytes (first_element + 2 * i + 1) 0 → HasTerm nodes sizes q
    right_there k = record { equation = r.equation; are = r.this.sides; inside = omega (arith, right_inside r.this i (omega (arith, record_count r.this))) }
