-- Lines at rest, looked at for one without binding and element.
use Prim.Native.Nat.{ℕ, zero, suc, ◌+◌, ◌-◌, ◌*◌, ◌≤◌, ◌<◌}
use mathlib.Core.Path.{◌≡◌, refl, sym, ap, ◌∙◌}
use mathlib.Core.Bool.{Bool, true, false, ◌||◌}
use mathlib.Core.List.{List, [], ◌∷◌, map}
use lib.ListN.{length, get_or, take, drop, length-drop}
use lib.Seq.{slice, take_at, drop_at, drop-drop, get_or-take, get_or-drop, length-take-le}
use Rattle.std.specs.List.{between}
use Rattle.std.specs.Bool.{Decides, one_answer}
use borrow.Author.Tests.{lt-ltb, le-ltb}
use native.Mathlib.Decide.{dec_lt}
use native.Mathlib.Omega.{arith}
use Rattle.format.specs.Limits.{variable_count, no_position}
use Rattle.format.specs.Lists.{any, all}
use Rattle.solving.specs.Line.{Element}
use Rattle.solving.specs.Always.{is_unbound, is_empty}
use Rattle.bindings.specs.ForContracts.Bindings.{binding_of, bindings_of}
use Rattle.bindings.specs.Theory.Bindings.{readable_slots}
use Rattle.line_bytes.specs.ForContracts.Resting.{RestingLine, line_of, resting_bytes}
use Rattle.line_bytes.specs.ForContracts.Layout.{count_place, line_bytes}
use Rattle.line_bytes.specs.ForContracts.Room.{lines_bytes}
use Rattle.line_bytes.specs.Theory.Resting.{count_there, bindings_there}
use Rattle.line_bytes.specs.Theory.InPlace.{slice_is}
use Rattle.walking.specs.ForContracts.Walking.{AllWellFormed}
use Rattle.walking.specs.Theory.Walking.{well_formed_length}
use Rattle.stopping.specs.ForContracts.Empty.{EmptyAt, AnyEmpty}

-- 1. One line.
all_free : (bs : List ℕ) → ((j : ℕ) → j < length bs → no_position ≤ get_or bs j 0) → all is_unbound (bindings_of bs) ≡ true
unfolding bindings_of binding_of all is_unbound
all_free [] h = refl
all_free (b ∷ bs) h = rw (le-ltb b no_position (h 0 (omega arith)), is_unbound, all) (all_free bs (λ j l. h (suc j) (omega arith)))

free_all : (bs : List ℕ) → all is_unbound (bindings_of bs) ≡ true → (j : ℕ) → j < length bs → no_position ≤ get_or bs j 0
unfolding bindings_of binding_of all is_unbound
free_all [] e j h = absurd (omega arith)
free_all (b ∷ bs) e j h = go (free_all bs) (dec_lt b no_position) j h
  where
    go : (all is_unbound (bindings_of bs) ≡ true → (j : ℕ) → j < length bs → no_position ≤ get_or bs j 0) → Dec (b < no_position) → (j : ℕ) → j < length (b ∷ bs) → no_position ≤ get_or (b ∷ bs) j 0
    go rest (yes l) j h = let z = rw (lt-ltb b no_position l, is_unbound, all) at e in cc
    go rest (no l) zero h = omega arith
    go rest (no l) (suc j) h = rest (rw (le-ltb b no_position (omega arith), is_unbound, all) at e) j (omega arith)

module _ (memory : List ℕ) (place : ℕ) (room : place + line_bytes ≤ length memory) where
  module _ (l : RestingLine) (slots : length l.bindings ≡ variable_count) (there : slice place (place + line_bytes) memory ≡ resting_bytes l) where
    byte_there : (i : ℕ) → i < line_bytes → get_or memory (place + i) 0 ≡ get_or (resting_bytes l) i 0
    byte_there i h =
        sym (get_or-drop place (take (place + line_bytes) memory) i 0 ∙ get_or-take (place + line_bytes) memory (place + i) 0 (omega arith))
        ∙ ap (λ b. get_or b i 0) there

    count_is : get_or memory (place + count_place) 0 ≡ length l.elements
    count_is = byte_there count_place (omega arith) ∙ count_there l slots

    binding_is : (i : ℕ) → i < variable_count → get_or memory (place + i) 0 ≡ get_or l.bindings i 0
    binding_is i h = byte_there i (omega arith) ∙ (sym (get_or-take variable_count (resting_bytes l) i 0 h) ∙ ap (λ b. get_or b i 0) (bindings_there l slots))

    no_elements : (es : List Element) → l.elements ≡ es → length es ≡ 0 → is_empty (line_of l) ≡ all is_unbound (bindings_of l.bindings)
    unfolding is_empty line_of
    no_elements [] e h = rw e
    no_elements (x ∷ es) e h = absurd (omega arith)

    some_element : (es : List Element) → l.elements ≡ es → 0 < length es → is_empty (line_of l) ≡ false
    unfolding is_empty line_of
    some_element [] e h = absurd (omega arith)
    some_element (x ∷ es) e h = rw e

  pub has_elements : 0 < get_or memory (place + count_place) 0 → EmptyAt memory place false
  has_elements h = record { tells = λ l slots there. some_element l slots there l.elements refl (omega (arith, count_is l slots there)) }

  pub has_nothing : {r : Bool} → get_or memory (place + count_place) 0 ≡ 0 → ((i : ℕ) → get_or memory i 0 < 256)
      → Decides r ((k : ℕ) → k < length (between place (place + variable_count) memory) → get_or (between place (place + variable_count) memory) k 0 ≡ no_position) → EmptyAt memory place r
  has_nothing {r} c small d = record {
    tells = λ l slots there.
        let part = between place (place + variable_count) memory in
        let n : length part ≡ variable_count = length-take-le (place + variable_count - place) (drop place memory) (omega (arith, length-drop place memory)) ∙ omega arith in
        let same : (k : ℕ) → k < variable_count → get_or part k 0 ≡ get_or l.bindings k 0 =
        λ k h. get_or-take (place + variable_count - place) (drop place memory) k 0 (omega arith) ∙ (get_or-drop place memory k 0 ∙ binding_is l slots there k h) in
        let all_of : Decides r ((k : ℕ) → k < length l.bindings → no_position ≤ get_or l.bindings k 0) =
        (λ e k h. omega (arith, same k (omega arith), d.0 e k (omega arith)), λ p. d.1 (λ k h. omega (arith, same k (omega arith), p k (omega arith), binding_is l slots there k (omega arith), small (place + k)))) in
        no_elements l slots there l.elements refl (omega (arith, count_is l slots there))
        ∙ one_answer (all is_unbound (bindings_of l.bindings)) r (free_all l.bindings, all_free l.bindings) all_of;
  }

-- 2. One after the other: the lines from place `i` on tell what all of them tell.
pub record Left (memory : List ℕ) (i end : ℕ) (nodes sizes : List ℕ) (answer : Bool) : Type 0 where
  pub lines : List RestingLine
  pub well_formed : AllWellFormed nodes sizes lines
  pub there : drop (i * line_bytes) memory ≡ lines_bytes lines
  pub tells : any is_empty (map line_of (take (end - i) lines)) ≡ answer

pub record Looking (memory : List ℕ) (first end i : ℕ) : Type 0 where
  pub left : (nodes sizes : List ℕ) (ls : List RestingLine) → AllWellFormed nodes sizes ls → drop (first * line_bytes) memory ≡ lines_bytes ls
      → Left memory i end nodes sizes (any is_empty (map line_of (take (end - first) ls)))

pub looking_start : (memory : List ℕ) (first end : ℕ) → Looking memory first end first
looking_start memory first end = record { left = λ nodes sizes ls w t. record { lines = ls; well_formed = w; there = t; tells = refl } }

pub looking_done : {memory : List ℕ} {first end i : ℕ} → Looking memory first end i → end ≤ i → AnyEmpty memory first end false
unfolding any
looking_done {end = end} {i = i} k h = record {
  tells = λ nodes sizes ls w t.
      let l = k.left nodes sizes ls w t in
      let z : end - i ≡ 0 = omega arith in
      sym l.tells ∙ ap (λ n. any is_empty (map line_of (take n l.lines))) z;
}

module _ {memory : List ℕ} {first end i : ℕ} (k : Looking memory first end i) (h : i < end) (room : end * line_bytes ≤ length memory) where
  abbrev here : ℕ
  here = i * line_bytes

  module _ {nodes sizes : List ℕ} (l : RestingLine) (ls : List RestingLine) (w : AllWellFormed nodes sizes (l ∷ ls)) (t : drop here memory ≡ lines_bytes (l ∷ ls)) where
    first_bytes : slice here (here + line_bytes) memory ≡ resting_bytes l
    unfolding lines_bytes
    first_bytes = slice_is here line_bytes memory (omega arith) ∙ (ap (take line_bytes) t ∙ take_at (resting_bytes l) (lines_bytes ls) line_bytes (well_formed_length l w.0))

    next_bytes : drop ((i + 1) * line_bytes) memory ≡ lines_bytes ls
    unfolding lines_bytes
    next_bytes =
        let e : (i + 1) * line_bytes ≡ here + line_bytes = omega arith in
        ap (λ n. drop n memory) e
        ∙ (sym (drop-drop line_bytes here memory) ∙ (ap (drop line_bytes) t ∙ drop_at (resting_bytes l) (lines_bytes ls) line_bytes (well_formed_length l w.0)))

    told : {r : Bool} → EmptyAt memory here r → is_empty (line_of l) ≡ r
    told e = e.tells l (readable_slots w.0.readable) first_bytes

  -- There is a line at the here, and more behind it.
  record Next (nodes sizes : List ℕ) (answer : Bool) : Type 0 where
    line : RestingLine
    others : List RestingLine
    well_formed : AllWellFormed nodes sizes (line ∷ others)
    there : drop here memory ≡ lines_bytes (line ∷ others)
    tells : (is_empty (line_of line) || any is_empty (map line_of (take (end - (i + 1)) others))) ≡ answer

  next_line : {nodes sizes : List ℕ} {answer : Bool} → Left memory i end nodes sizes answer → Next nodes sizes answer
  unfolding any lines_bytes
  next_line {nodes = nodes} {sizes = sizes} {answer = answer} f = go f.lines f.well_formed f.there f.tells
    where
      go : (ls : List RestingLine) → AllWellFormed nodes sizes ls → drop here memory ≡ lines_bytes ls → any is_empty (map line_of (take (end - i) ls)) ≡ answer → Next nodes sizes answer
      go [] w t a = absurd (omega (arith, length-drop here memory, ap length t))
      go (l ∷ ls) w t a =
          let e : end - i ≡ suc (end - (i + 1)) = omega arith in
          record { line = l; others = ls; well_formed = w; there = t; tells = ap (λ n. any is_empty (map line_of (take n (l ∷ ls)))) (sym e) ∙ a }

  pub looking_found : EmptyAt memory here true → AnyEmpty memory first end true
  looking_found e = record {
    tells = λ nodes sizes ls w t.
        let n = next_line (k.left nodes sizes ls w t) in
        let x = told n.line n.others n.well_formed n.there e in
        sym n.tells ∙ rw x;
  }

  pub looking_next : EmptyAt memory here false → Looking memory first end (i + 1)
  looking_next e = record {
    left = λ nodes sizes ls w t.
        let n = next_line (k.left nodes sizes ls w t) in
        let x = told n.line n.others n.well_formed n.there e in
        record { lines = n.others; well_formed = n.well_formed.1; there = next_bytes n.line n.others n.well_formed n.there; tells = rw x at n.tells };
  }
