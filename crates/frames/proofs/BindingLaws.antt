-- The bindings of a record, and what is printed of them.
use Prim.Native.Nat.{ℕ, zero, suc, ◌+◌, ◌-◌, ◌*◌, ◌≤◌, ◌<◌}
use mathlib.Core.Path.{◌≡◌, refl, sym, ap, ap₂, subst, ◌∙◌}
use mathlib.Core.Option.{Option, none, some}
use mathlib.Core.List.{List, [], ◌∷◌, ◌++◌, map, append_assoc, append-nil}
use native.Mathlib.Numerals.{add-one}
use native.Mathlib.Omega.{arith}
use lib.ListN.{length, get_or, take, replicate, length-append, length-map, get_or-append}
use lib.Seq.{take_all}
use Rattle.format.specs.Limits.{first_variable, variable_count, max_elements, no_position}
use Rattle.terms.specs.Prefix.{prefix}
use Rattle.terms.specs.Equation.{Equation, term_at}
use Rattle.terms.specs.ForContracts.Limits.{positions}
use Rattle.terms.specs.Theory.Limits.{positions_few}
use Rattle.solving.specs.Line.{Bindings, lookup, Element, binding_byte, element_bytes, record_of}
use Rattle.listing.specs.Listing.{digits, binding_count, binding_terms}
use Rattle.listing.specs.ForContracts.Appended.{Appended}
use Rattle.listing.specs.Theory.Printed.{digits_append, length_digits}
use Rattle.listing.specs.Theory.Appended.{appended_none, appended_join, appended_text}
use Rattle.frames.specs.ForContracts.Room.{term_room}
use Rattle.frames.specs.ForContracts.Line.{HasTerm, LineRecord, HasLineRecord}
use Rattle.frames.proofs.LineLaws.{TermPut}

-- The slot of variable `v`, by its byte.
pub data Slot (n : ℕ) (θ : Bindings) (v byte : ℕ) : Type 0 where
  free : byte ≡ no_position → lookup θ v ≡ none → Slot n θ v byte
  bound : byte < n → lookup θ v ≡ some byte → Slot n θ v byte

slot_byte : (θ : Bindings) (v : ℕ) → v < length θ → get_or (map binding_byte θ) v 0 ≡ binding_byte (lookup θ v)
slot_byte [] v h = absurd (omega arith)
slot_byte (o ∷ θ) zero h = refl
slot_byte (o ∷ θ) (suc v) h = slot_byte θ v (omega arith)

module _ {bytes nodes sizes : List ℕ} {e : Equation} {θ : Bindings} {es : List Element} (r : LineRecord bytes nodes sizes e θ es) where
  record_byte : (v : ℕ) → v < variable_count → get_or bytes v 0 ≡ binding_byte (lookup θ v)
  unfolding record_of
  record_byte v h =
      let low : v < length (map binding_byte θ) = omega (arith, length-map θ binding_byte, r.written.slots) in
      let filler = replicate (2 * (max_elements - length es)) no_position in
      let rest = length es ∷ element_bytes es in
      let lower : v < length (map binding_byte θ ++ rest) = omega (arith, length-append (map binding_byte θ) rest) in
      ap (λ l. get_or l v 0) r.is
      ∙ (get_or-append (map binding_byte θ ++ rest) filler 0 v lower
      ∙ (get_or-append (map binding_byte θ) rest 0 v low
      ∙ slot_byte θ v (omega (arith, r.written.slots))))

  pub slot : (v : ℕ) → v < variable_count → Slot (positions e) θ v (get_or bytes v 0)
  unfolding binding_byte
  slot v h = go (lookup θ v) refl
    where
      go : (o : Option ℕ) → lookup θ v ≡ o → Slot (positions e) θ v (get_or bytes v 0)
      go none x = free (record_byte v h ∙ ap binding_byte x) x
      go (some p) x =
          let b : get_or bytes v 0 ≡ p = record_byte v h ∙ ap binding_byte x in
          bound (subst (◌< positions e) (sym b) (r.written.bound_within v p x)) (x ∙ ap some (sym b))

  pub positions_low : positions e < no_position
  positions_low = omega (arith, positions_few r.sides.is.limits)

-- One slot more.
count_free : (θ : Bindings) (v : ℕ) → lookup θ v ≡ none → binding_count (take (suc v) θ) ≡ binding_count (take v θ)
unfolding binding_count
count_free [] zero x = refl
count_free [] (suc v) x = refl
count_free (none ∷ θ) zero x = refl
count_free (some p ∷ θ) zero x = let z : ◌≡◌ {A = ℕ} 0 1 = cc in absurd (omega arith)
count_free (none ∷ θ) (suc v) x = count_free θ v x
count_free (some p ∷ θ) (suc v) x = ap suc (count_free θ v x)

count_bound : (θ : Bindings) (v p : ℕ) → lookup θ v ≡ some p → binding_count (take (suc v) θ) ≡ suc (binding_count (take v θ))
unfolding binding_count
count_bound [] zero p x = let z : ◌≡◌ {A = ℕ} 0 1 = cc in absurd (omega arith)
count_bound [] (suc v) p x = let z : ◌≡◌ {A = ℕ} 0 1 = cc in absurd (omega arith)
count_bound (none ∷ θ) zero p x = let z : ◌≡◌ {A = ℕ} 0 1 = cc in absurd (omega arith)
count_bound (some q ∷ θ) zero p x = refl
count_bound (none ∷ θ) (suc v) p x = count_bound θ v p x
count_bound (some q ∷ θ) (suc v) p x = ap suc (count_bound θ v p x)

terms_free : (e : Equation) (k : ℕ) (θ : Bindings) (v : ℕ) → lookup θ v ≡ none → binding_terms e k (take (suc v) θ) ≡ binding_terms e k (take v θ)
unfolding binding_terms
terms_free e k [] zero x = refl
terms_free e k [] (suc v) x = refl
terms_free e k (none ∷ θ) zero x = refl
terms_free e k (some p ∷ θ) zero x = let z : ◌≡◌ {A = ℕ} 0 1 = cc in absurd (omega arith)
terms_free e k (none ∷ θ) (suc v) x = terms_free e (suc k) θ v x
terms_free e k (some p ∷ θ) (suc v) x = ap (λ l. (first_variable + k) ∷ prefix (term_at e p) ++ l) (terms_free e (suc k) θ v x)

terms_bound : (e : Equation) (k n : ℕ) (θ : Bindings) (v p : ℕ) → n ≡ k + v → lookup θ v ≡ some p
    → binding_terms e k (take (suc v) θ) ≡ binding_terms e k (take v θ) ++ ((first_variable + n) ∷ prefix (term_at e p))
unfolding binding_terms
terms_bound e k n [] zero p h x = let z : ◌≡◌ {A = ℕ} 0 1 = cc in absurd (omega arith)
terms_bound e k n [] (suc v) p h x = let z : ◌≡◌ {A = ℕ} 0 1 = cc in absurd (omega arith)
terms_bound e k n (none ∷ θ) zero p h x = let z : ◌≡◌ {A = ℕ} 0 1 = cc in absurd (omega arith)
terms_bound e k n (some q ∷ θ) zero p h x =
    let a : q ≡ p = cc in
    let b : k ≡ n = omega arith in
    ap₂ (λ m r. (first_variable + m) ∷ prefix (term_at e r) ++ []) b a ∙ append-nil ((first_variable + n) ∷ prefix (term_at e p))
terms_bound e k n (none ∷ θ) (suc v) p h x = terms_bound e (suc k) n θ v p (omega arith) x
terms_bound e k n (some q ∷ θ) (suc v) p h x =
    let first = (first_variable + k) ∷ prefix (term_at e q) in
    ap (first ++◌) (terms_bound e (suc k) n θ v p (omega arith) x) ∙ sym (append_assoc first (binding_terms e (suc k) (take v θ)) ((first_variable + n) ∷ prefix (term_at e p)))

-- The bound variables before `v` are counted.
pub record Counted (bytes : List ℕ) (n v : ℕ) : Type 0 where
  pub low : n ≤ v
  pub within : v ≤ variable_count
  pub so_far : (nodes sizes : List ℕ) (e : Equation) (θ : Bindings) (es : List Element) → LineRecord bytes nodes sizes e θ es → n ≡ binding_count (take v θ)

pub none_counted : (bytes : List ℕ) → Counted bytes 0 0
unfolding binding_count
none_counted bytes = record { low = omega arith; within = omega arith; so_far = λ nodes sizes e θ es r. refl }

module _ {bytes : List ℕ} {n v : ℕ} (c : Counted bytes n v) (h : v < variable_count) where
  pub counted_bound : get_or bytes v 0 < no_position → Counted bytes (n + 1) (v + 1)
  counted_bound l = record {
    low = omega (arith, c.low);
    within = omega arith;
    so_far = λ nodes sizes e θ es r. elim (slot r v h) [
      | free b x ↦ absurd (omega arith)
      | bound b x ↦ ap (◌+ 1) (c.so_far nodes sizes e θ es r) ∙ (add-one (binding_count (take v θ)) ∙ (sym (count_bound θ v (get_or bytes v 0) x) ∙ ap (λ m. binding_count (take m θ)) (sym (add-one v))))
    ];
  }

  pub counted_free : no_position ≤ get_or bytes v 0 → Counted bytes n (v + 1)
  counted_free l = record {
    low = omega (arith, c.low);
    within = omega arith;
    so_far = λ nodes sizes e θ es r. elim (slot r v h) [
      | free b x ↦ c.so_far nodes sizes e θ es r ∙ (sym (count_free θ v x) ∙ ap (λ m. binding_count (take m θ)) (sym (add-one v)))
      | bound b x ↦ absurd (omega (arith, positions_low r))
    ];
  }

pub counted_moved : {bytes : List ℕ} {n n' v : ℕ} → n' ≡ n → Counted bytes n v → Counted bytes n' v
counted_moved {bytes} {v = v} x c = subst (λ n. Counted bytes n v) (sym x) c

pub all_counted : {bytes : List ℕ} {n v : ℕ} → Counted bytes n v → variable_count ≤ v → (nodes sizes : List ℕ) (e : Equation) (θ : Bindings) (es : List Element) → LineRecord bytes nodes sizes e θ es → n ≡ binding_count θ
all_counted {v = v} c h nodes sizes e θ es r = c.so_far nodes sizes e θ es r ∙ ap binding_count (take_all v θ (omega (arith, r.written.slots)))

-- The bound variables before `v` are printed.
module _ (bytes nodes sizes before : List ℕ) (at : ℕ) where
  pub record BindingsPassed (out : List ℕ) (to v : ℕ) : Type 0 where
    pub within : v ≤ variable_count
    pub reached : to ≤ at + v * (2 + term_room)
    pub same_length : length out ≡ length before
    pub so_far : (e : Equation) (θ : Bindings) (es : List Element) → LineRecord bytes nodes sizes e θ es → Appended before at (digits (binding_terms e 0 (take v θ))) out to

pub no_binding_passed : (bytes nodes sizes before : List ℕ) (at : ℕ) → BindingsPassed bytes nodes sizes before at before at 0
unfolding binding_terms digits
no_binding_passed bytes nodes sizes before at = record { within = omega arith; reached = omega arith; same_length = refl; so_far = λ e θ es r. appended_none before at }

module _ {bytes nodes sizes before : List ℕ} {at : ℕ} {out : List ℕ} {to v : ℕ} (p : BindingsPassed bytes nodes sizes before at out to v) (h : v < variable_count) where
  pub free_passed : no_position ≤ get_or bytes v 0 → BindingsPassed bytes nodes sizes before at out to (v + 1)
  free_passed l = record {
    within = omega arith;
    reached = omega (arith, p.reached);
    same_length = p.same_length;
    so_far = λ e θ es r. elim (slot r v h) [
      | free b x ↦ appended_text (ap digits (sym (terms_free e 0 θ v x) ∙ ap (λ m. binding_terms e 0 (take m θ)) (sym (add-one v)))) (p.so_far e θ es r)
      | bound b x ↦ absurd (omega (arith, positions_low r))
    ];
  }

  module _ (l : get_or bytes v 0 < no_position) where
    pub bound_there : {q : ℕ} → q ≡ get_or bytes v 0 → HasLineRecord bytes nodes sizes → HasTerm nodes sizes q
    bound_there k r = elim (slot r.this v h) [
      | free b x ↦ absurd (omega arith)
      | bound b x ↦ record { equation = r.equation; are = r.this.sides; inside = omega arith }
    ]

    pub bound_passed : {q : ℕ} {between after : List ℕ} {behind end : ℕ} → q ≡ get_or bytes v 0 → Appended out to (digits ((first_variable + v) ∷ [])) between behind
        → TermPut nodes sizes q between behind after end → end ≤ behind + term_room → length after ≡ length between → BindingsPassed bytes nodes sizes before at after end (v + 1)
    bound_passed {between = between} {after} {behind} {end} k x y₀ z w = record {
      within = omega arith;
      reached = omega (arith, p.reached, x.ends, length_digits ((first_variable + v) ∷ []));
      same_length = w ∙ (x.same_length ∙ p.same_length);
      so_far = λ e θ es r. elim (slot r v h) [
        | free b q ↦ absurd (omega arith)
        | bound b q ↦ appended_text (text e θ q) (appended_join _ _ (p.so_far e θ es r) (appended_join (digits ((first_variable + v) ∷ [])) (digits (prefix (term_at e (get_or bytes v 0)))) x (y e r.sides b)))
      ];
    }
      where
        y : TermPut nodes sizes (get_or bytes v 0) between behind after end
        y = subst (λ q. TermPut nodes sizes q between behind after end) k y₀

        text : (e : Equation) (θ : Bindings) → lookup θ v ≡ some (get_or bytes v 0)
            → digits (binding_terms e 0 (take v θ)) ++ (digits ((first_variable + v) ∷ []) ++ digits (prefix (term_at e (get_or bytes v 0)))) ≡ digits (binding_terms e 0 (take (v + 1) θ))
        text e θ q =
            let term = prefix (term_at e (get_or bytes v 0)) in
            ap (digits (binding_terms e 0 (take v θ)) ++◌) (sym (digits_append ((first_variable + v) ∷ []) term))
            ∙ (sym (digits_append (binding_terms e 0 (take v θ)) ((first_variable + v) ∷ term))
            ∙ ap digits (sym (terms_bound e 0 v θ v (get_or bytes v 0) (omega arith) q) ∙ ap (λ m. binding_terms e 0 (take m θ)) (sym (add-one v))))

pub passed_moved : {bytes nodes sizes before : List ℕ} {at : ℕ} {out out' : List ℕ} {to to' v : ℕ} → out' ≡ out → to' ≡ to → BindingsPassed bytes nodes sizes before at out to v → BindingsPassed bytes nodes sizes before at out' to' v
passed_moved {bytes} {nodes} {sizes} {before} {at} {out} {to = to} {to'} {v} x y p =
    subst (λ l. BindingsPassed bytes nodes sizes before at l to' v) (sym x) (subst (λ n. BindingsPassed bytes nodes sizes before at out n v) (sym y) p)

pub bindings_passed : {bytes nodes sizes before : List ℕ} {at : ℕ} {out : List ℕ} {to v : ℕ} → BindingsPassed bytes nodes sizes before at out to v → variable_count ≤ v
    → (e : Equation) (θ : Bindings) (es : List Element) → LineRecord bytes nodes sizes e θ es → Appended before at (digits (binding_terms e 0 θ)) out to
bindings_passed {v = v} p h e θ es r = appended_text (ap (λ l. digits (binding_terms e 0 l)) (take_all v θ (omega (arith, r.written.slots)))) (p.so_far e θ es r)
