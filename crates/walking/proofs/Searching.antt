-- The first unfinished line is filled in, and looked through for the leftmost element that is not fully reduced.
use Prim.Native.Nat.{ℕ, suc, ◌+◌, ◌*◌, ◌≤◌, ◌<◌}
use mathlib.Core.Path.{◌≡◌, refl, sym, ap, ap₂, subst, ◌∙◌}
use mathlib.Core.Option.{some}
use mathlib.Core.List.{List, [], ◌∷◌, ◌++◌, map}
use lib.ListN.{length, get_or, set, take, drop, length-set, get_or-map}
use lib.Seq.{slice, take-suc, take_all, split_at, length-take-le, get_or-take, get_or-drop, get_or-set_same, get_or-set_other}
use native.Mathlib.Decide.{dec_lt, ℕ_discrete}
use native.Mathlib.Numerals.{add-one}
use native.Mathlib.Omega.{arith}
use Rattle.format.specs.Limits.{variable_count, max_elements, max_lines, max_turns}
use Rattle.format.specs.Theory.Lists.{every_append, every_at}
use Rattle.solving.specs.Line.{greater, Line}
use Rattle.solving.specs.ForContracts.Within.{Within}
use Rattle.solving.specs.Walk.{treat, enough, fully_reduced}
use Rattle.bindings.specs.ForContracts.Bindings.{Readable, bindings_of}
use Rattle.bindings.specs.Theory.Bindings.{readable_slots}
use Rattle.bindings.specs.ForContracts.PrefixForm.{view_of}
use Rattle.line_bytes.specs.declared.element.Element.{Element as Held}
use Rattle.lines.specs.declared.line.Line.{Line as LineValue}
use Rattle.line_bytes.specs.ForContracts.Layout.{count_place, first_element, reduced_place, line_bytes}
use Rattle.line_bytes.specs.ForContracts.Resting.{said, meaning, marked, RestingLine, line_of, resting_bytes}
use Rattle.lines.specs.ForContracts.Line.{HasHead, elements_from, Carries}
use Rattle.line_bytes.specs.Theory.Resting.{count_there, reduced_there, element_there}
use Rattle.lines.specs.Theory.Line.{unfilled, elements_hold}
use Rattle.treating.specs.declared.treat.Treatment.{Treatment}
use Rattle.treating.specs.declared.treat.Treatment.TheVariants.{Reduced}
use Rattle.walking.specs.declared.walk.Walk.{Walk}
use Rattle.treating.specs.ForContracts.Treatment.{Treated}
use Rattle.walking.specs.ForContracts.WellFormed.{KnownReduced, WellFormed}
use Rattle.walking.specs.ForContracts.Walking.{HoldsTable, table_reached, Walking, Finishing, TreatingLine}
use Rattle.walking.proofs.Walking.{first_there, first_bindings}

pub below_limit : {n : ℕ} → n ≤ max_turns → (n ≡ max_turns → ⊥) → n < max_turns
below_limit {n = n} l e = go (dec_lt n max_turns)
  where
    go : Dec (n < max_turns) → n < max_turns
    go (yes h) = h
    go (no h) = absurd (e (omega arith))

-- 1. The first unfinished line.
pub record Open (nodes sizes memory : List ℕ) (w : Walk) : Type 0 where
  pub finished : List Line
  pub first : RestingLine
  pub others : List RestingLine
  pub holds : HoldsTable nodes sizes memory w.done w.top finished (first ∷ others)
  pub comes : table_reached nodes sizes w ≡ some (finished ++ map line_of (first ∷ others))

-- 2. The elements from the first one that is not known to be reduced up to `i` are filled in.
pub record Filling (memory : List ℕ) (place : ℕ) (start line : LineValue) (i : ℕ) : Type 0 where
  pub same_bindings : line.bindings ≡ start.bindings
  pub same_count : line.count ≡ start.count
  pub same_reduced : line.reduced ≡ start.reduced
  pub places : length line.elements ≡ max_elements
  pub started : start.reduced ≤ i
  pub filled : (j : ℕ) → start.reduced ≤ j → j < i
      → meaning (get_or line.elements j unfilled) ≡ marked (get_or memory (place + first_element + 2 * j) 0) (get_or memory (place + first_element + 2 * j + 1) 0)

pub filling_start : (memory : List ℕ) (place : ℕ) (line : LineValue) → length line.elements ≡ max_elements → Filling memory place line line line.reduced
filling_start memory place line p =
    record { same_bindings = refl; same_count = refl; same_reduced = refl; places = p; started = omega arith; filled = λ j a b. absurd (omega arith) }

pub filling_next : {memory : List ℕ} {place : ℕ} {start line : LineValue} {i : ℕ} → Filling memory place start line i → i < max_elements → (e : Held)
    → meaning e ≡ marked (get_or memory (place + first_element + 2 * i) 0) (get_or memory (place + first_element + 2 * i + 1) 0)
    → Filling memory place start (record { bindings = line.bindings; count = line.count; reduced = line.reduced; elements = set line.elements i e }) (i + 1)
filling_next {memory = memory} {place = place} {start = start} {line = line} {i = i} f h e x = record {
  same_bindings = f.same_bindings;
  same_count = f.same_count;
  same_reduced = f.same_reduced;
  places = length-set line.elements i e ∙ f.places;
  started = omega (arith, f.started);
  filled = λ j a b. go j a b (ℕ_discrete j i);
}
  where
    go : (j : ℕ) → start.reduced ≤ j → j < i + 1 → Dec (j ≡ i)
        → meaning (get_or (set line.elements i e) j unfilled) ≡ marked (get_or memory (place + first_element + 2 * j) 0) (get_or memory (place + first_element + 2 * j + 1) 0)
    go j a b (yes d) = rw d (ap meaning (get_or-set_same line.elements i e unfilled (omega (arith, f.places))) ∙ x)
    go j a b (no d) =
        let c : j < i = go' (dec_lt j i) in
        ap meaning (get_or-set_other line.elements i j e unfilled d) ∙ f.filled j a c
      where
        go' : Dec (j < i) → j < i
        go' (yes l) = l
        go' (no l) = absurd (d (omega arith))

module _ {nodes sizes memory : List ℕ} {w : Walk} (k : Walking nodes sizes memory w) (h : w.top < max_lines) where
  pub opened : Open nodes sizes memory w
  opened = go k.unfinished k.holds k.comes
    where
      go : (ls : List RestingLine) → HoldsTable nodes sizes memory w.done w.top k.finished ls
          → table_reached nodes sizes w ≡ some (k.finished ++ map line_of ls) → Open nodes sizes memory w
      go [] m l = absurd (omega (arith, m.top_is))
      go (first ∷ others) m l = record { finished = k.finished; first = first; others = others; holds = m; comes = l }

  pub place_there : w.top * line_bytes + line_bytes ≤ length memory
  place_there = omega (arith, k.holds.length_is)

  abbrev place : ℕ
  place = w.top * line_bytes

  pub first_well_formed : WellFormed nodes sizes opened.first
  first_well_formed = opened.holds.all_well_formed.0

  slots : length opened.first.bindings ≡ variable_count
  slots = readable_slots first_well_formed.readable

  byte_there : (i : ℕ) → i < line_bytes → get_or memory (place + i) 0 ≡ get_or (resting_bytes opened.first) i 0
  byte_there i l =
      sym (get_or-drop place (take (place + line_bytes) memory) i 0 ∙ get_or-take (place + line_bytes) memory (place + i) 0 (omega arith))
      ∙ ap (λ b. get_or b i 0) (first_there opened.holds)

  module _ {start : LineValue} (d : HasHead memory place start) where
    pub head_count : start.count ≡ length opened.first.elements
    head_count = d.count_is ∙ (byte_there count_place (omega arith) ∙ count_there opened.first slots)

    pub head_few : start.count ≤ max_elements
    head_few = omega (arith, head_count, first_well_formed.few)

    head_reduced : start.reduced ≡ opened.first.reduced
    head_reduced = d.reduced_is ∙ (byte_there reduced_place (omega arith) ∙ reduced_there opened.first slots first_well_formed.few)

    pub head_bindings : start.bindings ≡ opened.first.bindings
    head_bindings = d.bindings_are ∙ first_bindings opened.holds

    pub head_readable : Readable nodes sizes start.bindings
    head_readable = rw head_bindings first_well_formed.readable

    pub filled_holds : {line : LineValue} {i : ℕ} → Filling memory place start line i → start.count ≤ i → Carries line opened.first
    filled_holds {line = line} {i = i} f l =
        elements_hold line opened.first f.places first_well_formed.few (f.same_bindings ∙ head_bindings) (f.same_count ∙ head_count) (f.same_reduced ∙ head_reduced) (λ j a b.
        let n = head_count in
        let m = head_few in
        let c = f.same_count in
        let r = head_reduced in
        let x : place + first_element + 2 * j ≡ place + (first_element + 2 * j) = omega arith in
        let y : place + first_element + 2 * j + 1 ≡ place + (first_element + 2 * j + 1) = omega arith in
        f.filled j (omega arith) (omega arith)
        ∙ (ap₂ marked (ap (λ n. get_or memory n 0) x ∙ byte_there (first_element + 2 * j) (omega arith)) (ap (λ n. get_or memory n 0) y ∙ byte_there (first_element + 2 * j + 1) (omega arith))
        ∙ element_there opened.first slots j (length nodes) (omega arith) first_well_formed.within (omega (arith, k.laid.few))))

-- 3. The elements before `i` are fully reduced.
pub record Searching (nodes sizes memory : List ℕ) (place : ℕ) (line : LineValue) (i : ℕ) : Type 0 where
  pub so_far : (s : RestingLine) → WellFormed nodes sizes s → slice place (place + line_bytes) memory ≡ resting_bytes s → Carries line s
      → (i ≤ length s.elements) × (s.reduced ≤ i) × KnownReduced nodes sizes s.bindings (take i s.elements)

pub searching_start : (nodes sizes memory : List ℕ) (place : ℕ) (line : LineValue) → Searching nodes sizes memory place line line.reduced
searching_start nodes sizes memory place line = record {
  so_far = λ s d e h. let r = h.reduced_is in (omega (arith, d.known), omega arith, rw r d.reduced_known);
}

-- The element that is looked at.
looked_at : {l : LineValue} {s : RestingLine} {i : ℕ} → Carries l s → s.reduced ≤ i → i < l.count → meaning (get_or l.elements i unfilled) ≡ get_or s.elements i (greater 0 0)
unfolding elements_from meaning said
looked_at {l = l} {s = s} {i = i} h a b =
    let part = slice i l.count l.elements in
    let e : i + 0 ≡ i = omega arith in
    let own : get_or (elements_from l i) 0 (greater 0 0) ≡ meaning (get_or l.elements i unfilled) =
    get_or-map meaning part 0 unfilled
    ∙ ap meaning (get_or-drop i (take l.count l.elements) 0 unfilled ∙ (ap (λ n. get_or (take l.count l.elements) n unfilled) e ∙ get_or-take l.count l.elements i unfilled b)) in
    sym own ∙ (ap (λ es. get_or es 0 (greater 0 0)) (h.elements_are i a) ∙ (get_or-drop i s.elements 0 (greater 0 0) ∙ ap (λ n. get_or s.elements n (greater 0 0)) e))

module _ {nodes sizes memory : List ℕ} {place : ℕ} {line : LineValue} {i : ℕ} (f : Searching nodes sizes memory place line i) (below : i < line.count) where
  pub searching_within : (s : RestingLine) → WellFormed nodes sizes s → slice place (place + line_bytes) memory ≡ resting_bytes s → Carries line s → Within (length nodes) (meaning (get_or line.elements i unfilled))
  searching_within s d e h =
      let (a, b, c) = f.so_far s d e h in
      rw (looked_at h b below) (every_at (Within (length nodes)) s.elements i (greater 0 0) d.within (omega (arith, h.count_is)))

  pub searching_next : (t : Treatment) → Treated nodes sizes line.bindings (meaning (get_or line.elements i unfilled)) t → t ≡ Reduced → Searching nodes sizes memory place line (i + 1)
  searching_next t y z = record {
    so_far = λ s d e h.
        let (a, b, c) = f.so_far s d e h in
        let m : i < length s.elements = omega (arith, h.count_is) in
        let x = get_or s.elements i (greater 0 0) in
        let u : Treated nodes sizes s.bindings x Reduced = rw (sym (looked_at h b below), sym h.bindings_are, sym z) y in
        (omega arith, omega arith, rw (add-one i, take-suc s.elements i (greater 0 0) m) (every_append (λ e. treat enough (view_of nodes sizes) (bindings_of s.bindings) e ≡ fully_reduced) (take i s.elements) (x ∷ []) c (u.asks, tt)));
  }

-- 4. One is not fully reduced, or all are.
module _ {nodes sizes memory : List ℕ} {w : Walk} (k : Walking nodes sizes memory w) (h : w.top < max_lines) {line : LineValue} (own : Carries line (opened k h).first) {i : ℕ}
    (f : Searching nodes sizes memory (w.top * line_bytes) line i) where
  so_far : (i ≤ length (opened k h).first.elements) × ((opened k h).first.reduced ≤ i) × KnownReduced nodes sizes (opened k h).first.bindings (take i (opened k h).first.elements)
  so_far = f.so_far (opened k h).first (first_well_formed k h) (first_there (opened k h).holds) own

  pub looking_asks : i < line.count → Within (length nodes) (meaning (get_or line.elements i unfilled))
  looking_asks b = searching_within f b (opened k h).first (first_well_formed k h) (first_there (opened k h).holds) own

  pub finishing : line.count ≤ i → Finishing nodes sizes memory w
  finishing b = record {
    laid = k.laid;
    finished = (opened k h).finished;
    first = (opened k h).first;
    others = (opened k h).others;
    holds = (opened k h).holds;
    turns_within = k.turns_within;
    comes = (opened k h).comes;
    all_reduced = rw (take_all i (opened k h).first.elements (omega (arith, own.count_is))) at so_far.2;
  }

  pub treating : i < line.count → (t : Treatment) → Treated nodes sizes line.bindings (meaning (get_or line.elements i unfilled)) t → TreatingLine nodes sizes memory w line i t
  treating b t y =
      let first = (opened k h).first in
      let m : i < length first.elements = omega (arith, own.count_is) in
      record {
        treating = record {
          laid = k.laid;
          finished = (opened k h).finished;
          first = first;
          others = (opened k h).others;
          holds = (opened k h).holds;
          turns_within = k.turns_within;
          comes = (opened k h).comes;
          pre = take i first.elements;
          element = get_or first.elements i (greater 0 0);
          post = drop (suc i) first.elements;
          split = split_at first.elements i (greater 0 0) m;
          at_is = length-take-le i first.elements so_far.0;
          not_passed = so_far.1;
          pre_reduced = so_far.2;
          treated = rw (sym (looked_at own so_far.1 b), sym own.bindings_are) y;
        };
        line_holds = own;
      }

-- 5. The same of the line that was filled in, in terms of its head.
module _ {nodes sizes memory : List ℕ} {w : Walk} (k : Walking nodes sizes memory w) (h : w.top < max_lines) {start line : LineValue} {j : ℕ} (d : HasHead memory (w.top * line_bytes) start)
    (f : Filling memory (w.top * line_bytes) start line j) (full : start.count ≤ j) {i : ℕ} (s : Searching nodes sizes memory (w.top * line_bytes) line i) where
  own_line : Carries line (opened k h).first
  own_line = filled_holds k h d f full

  pub filled_readable : Readable nodes sizes line.bindings
  filled_readable = rw f.same_bindings (head_readable k h d)

  pub filled_few : line.count ≤ max_elements
  filled_few = omega (arith, f.same_count, head_few k h d)

  pub head_within : i < line.count → Within (length nodes) (meaning (get_or line.elements i unfilled))
  head_within b = looking_asks k h own_line s b

  module _ (b : i < line.count) (t : Treatment) (y : Treated nodes sizes line.bindings (meaning (get_or line.elements i unfilled)) t) where
    pub head_next : t ≡ Reduced → Searching nodes sizes memory (w.top * line_bytes) line (i + 1)
    head_next z = searching_next s b t y z

    pub head_treating : (memory' : List ℕ) → memory' ≡ memory → TreatingLine nodes sizes memory' w line i t
    head_treating memory' m = subst (λ b. TreatingLine nodes sizes b w line i t) (sym m) (treating k h own_line s b t y)

  pub head_finishing : line.count ≤ i → (memory' : List ℕ) → memory' ≡ memory → Finishing nodes sizes memory' w
  head_finishing b memory' m = subst (λ b. Finishing nodes sizes b w) (sym m) (finishing k h own_line s b)
