-- The lines of the choices of an inequality, one group behind the other.
use Prim.Native.Nat.{ℕ, zero, suc, min, ◌+◌, ◌*◌, ◌≤◌, ◌<◌}
use mathlib.Core.Path.{◌≡◌, refl, sym, ap, ap₂, subst, ◌∙◌}
use mathlib.Core.List.{List, [], ◌∷◌, ◌++◌, map, map-append, append-nil}
use lib.ListN.{length, get_or, set, length-append, length-set}
use lib.Dec.{ltb, ltb→lt, nltb→le}
use mathlib.Core.Bool.{false}
use native.Mathlib.Decide.{ℕ_discrete, dec_lt}
use native.Mathlib.Omega.{arith}
use Rattle.format.specs.Limits.{max_elements}
use Rattle.solving.specs.Line.{Element}
use Rattle.solving.specs.Walk.{argument_choices, exceeds_each, lexicographic_choices, choices}
use Rattle.bindings.specs.ForContracts.PrefixForm.{arguments_of}
use Rattle.bindings.specs.ForContracts.Count.{HasRow, CountsRow}
use Rattle.treating.specs.declared.split.CountedArguments.{CountedArguments}
use Rattle.treating.specs.declared.treat.Sides.{Sides}
use Rattle.line_bytes.specs.ForContracts.Resting.{marks, RestingLine, resting_bytes}
use Rattle.line_bytes.specs.ForContracts.Layout.{first_element, reduced_place, count_place, line_bytes, placed}
use Rattle.line_bytes.specs.ForContracts.Room.{lines_bytes, Gap, front_bytes, back_bytes, WideningFits, Widened}
use Rattle.treating.specs.ForContracts.Choices.{ExceedingFit, FillsExceeding, choices_bytes, ArgumentsFit, PushesArguments, LexicographicFit, PushesLexicographic}
use Rattle.treating.specs.declared.split.Choices.{Choices}
use Rattle.treating.specs.ForContracts.Children.{child}
use Rattle.treating.specs.ForContracts.Splitting.{AllLong, CountsLastChoices, TooLong, span_of, HasArguments, ChoicesOf, Splitting, ChoicesFit}
use Rattle.bindings.specs.Theory.PrefixForm.{row_unique}
use Rattle.line_bytes.specs.Theory.Resting.{length_marks, length_resting, count_there, set_reduced}
use Rattle.line_bytes.specs.Theory.Placed.{placed_behind, placed_length}
use Rattle.line_bytes.specs.Theory.InPlace.{lines_append}
use Rattle.treating.proofs.ChoiceLines.{child_bytes, children_bytes, exceeds_long, lexicographic_long, lexicographic_count, choices_less, choices_more, choices_same}
use Rattle.treating.specs.Theory.Choices.{argument_long}

-- 1. How many choices come last.
pub last_more : (f g m n : ℕ) → g < f → CountsLastChoices f g m n 1
last_more f g m n h = record {
  counts = λ p q ss ts x y. record { lasts = exceeds_each p ts ∷ []; are = choices_more p q f g ss ts h; long = (exceeds_long p ts, tt); count = refl };
  few = omega arith;
}

pub last_same : (f g m n r : ℕ) → f ≡ g → r ≡ min m n → CountsLastChoices f g m n r
last_same f g m n r h e = record {
  counts = λ p q ss ts x y. record {
    lasts = lexicographic_choices p ss ts;
    are = choices_same p q f g ss ts h;
    long = lexicographic_long p ss ts;
    count = lexicographic_count p ss ts ∙ (ap₂ min x y ∙ sym e);
  };
  few = omega (arith, e);
}

pub last_none : (f g m n : ℕ) → f ≤ g → (f ≡ g → ⊥) → CountsLastChoices f g m n 0
last_none f g m n h k = record {
  counts = λ p q ss ts x y. record { lasts = []; are = choices_less p q f g ss ts (less f g h k) ∙ sym (append-nil (argument_choices ss q)); long = tt; count = refl };
  few = omega arith;
}
  where
    less : (f g : ℕ) → f ≤ g → (f ≡ g → ⊥) → f < g
    less f g h k = go (dec_lt f g)
      where
        go : Dec (f < g) → f < g
        go (yes l) = l
        go (no l) = absurd (k (omega arith))

-- What the code finds of the arguments, and of the choices.
module _ {sizes : List ℕ} {p : ℕ} (h : HasArguments sizes p) (size : ℕ) where
  pub arguments_row : size ≡ get_or sizes p 0 → HasRow sizes (p + 1) (p + size)
  arguments_row e = rw e (record { starts = arguments_of sizes p; row = h.row; within = h.within })

  pub arguments_counted : (r : ℕ) → size ≡ get_or sizes p 0 → CountsRow sizes (p + 1) (p + size) r → ◌≡◌ {A = CountedArguments} (record { row = record { from = p + 1; end = p + size }; count = r }) (span_of sizes p)
  arguments_counted r e c =
      let n : r ≡ length (arguments_of sizes p) = c.counts (arguments_of sizes p) (rw e h.row) in
      rw (n, e)

pub choices_counted : {nodes sizes : List ℕ} {at last : ℕ} {sides terms : Sides} {left right : CountedArguments} → left ≡ span_of sizes terms.left → right ≡ span_of sizes terms.right
    → CountsLastChoices (get_or nodes terms.left 0) (get_or nodes terms.right 0) left.count right.count last
    → ChoicesOf nodes sizes at sides terms
    (record { at = at; p = sides.left; q = sides.right; f = get_or nodes terms.left 0; g = get_or nodes terms.right 0; left = left; right = right; last = last })
choices_counted {nodes = nodes} {sizes = sizes} {last = last} {terms = terms} {left = left} x y c = record {
  is = rw (x, y);
  count_last_choices = subst (λ n. CountsLastChoices (get_or nodes terms.left 0) (get_or nodes terms.right 0) n (length (arguments_of sizes terms.right)) last) (ap (λ (a : CountedArguments). a.count) x)
      (subst (λ n. CountsLastChoices (get_or nodes terms.left 0) (get_or nodes terms.right 0) left.count n last) (ap (λ (a : CountedArguments). a.count) y) c);
}

pub positive : {n : ℕ} → (n ≡ 0 → ⊥) → 0 < n
positive {n = zero} h = absurd (h refl)
positive {n = suc n} h = omega arith

-- The room for the choices does not depend on how the rows were found.
pub room_for : {sizes line memory : List ℕ} {d : Choices} {to : ℕ} {bindings : List ℕ} {pre post : List Element} {ss ts : List ℕ}
    → Splitting sizes line d bindings pre post ss ts → ChoicesFit sizes line memory d to
    → to + line_bytes * length (choices d.p d.q d.f d.g ss ts) ≤ length memory
room_for s c = rw (row_unique s.left_row c.facts.left_row, row_unique s.right_row c.facts.right_row) c.room

pub too_long_none : (last elements : ℕ) → last ≡ 0 → TooLong last elements false
too_long_none last elements e = record { tells = λ h. let z : ◌≡◌ {A = ℕ} 0 1 = cc in absurd (omega arith); fits = λ h i. absurd (omega arith) }

pub too_long_some : (last elements : ℕ) → (last ≡ 0 → ⊥) → TooLong last elements (ltb max_elements elements)
too_long_some last elements n = record { tells = λ h. (positive n, ltb→lt max_elements elements (rw h tt)); fits = λ h i. nltb→le max_elements elements (rw h tt) }

-- 2. The line with the count of its reduced elements changed.
module _ {sizes line : List ℕ} {d : Choices} {bindings : List ℕ} {pre post : List Element} {ss ts : List ℕ} (s : Splitting sizes line d bindings pre post ss ts) where
  abbrev at : ℕ
  at = d.at

  abbrev p : ℕ
  p = d.p

  abbrev q : ℕ
  q = d.q

  abbrev f : ℕ
  f = d.f

  abbrev g : ℕ
  g = d.g

  -- Where the arguments of f stand, and those of g.
  abbrev k : ℕ
  k = d.left.row.from

  abbrev m : ℕ
  m = d.left.row.end

  abbrev l : ℕ
  l = d.right.row.from

  abbrev n : ℕ
  n = d.right.row.end

  abbrev count : ℕ
  count = d.right.count

  abbrev last : ℕ
  last = d.last

  abbrev single : RestingLine
  single = child bindings pre post (s.element ∷ [])

  pub marked_line : (line₁ : List ℕ) → line₁ ≡ set line reduced_place at → line₁ ≡ resting_bytes single
  marked_line line₁ e =
      e
      ∙ (ap (λ b. set b reduced_place at) s.line_is
      ∙ (set_reduced (record { bindings = bindings; elements = pre ++ (s.element ∷ post); reduced = s.reduced }) s.slots (omega (arith, length-append pre (s.element ∷ post), s.few)) at
      ∙ ap (λ r. resting_bytes (record { bindings = bindings; elements = pre ++ (s.element ∷ post); reduced = r })) (sym s.at_is)))

  abbrev front_of : ℕ → List ℕ
  front_of c = front_bytes bindings (length pre + c + length post) pre

  abbrev back_of : ℕ → List ℕ
  back_of c = back_bytes (length pre + c + length post) post (length pre)

  pub length_front : (c : ℕ) → length (front_of c) ≡ 2 * at + first_element
  unfolding front_bytes
  length_front c = length-append bindings _ ∙ omega (arith, s.slots, length_marks pre, s.at_is)

  single_gap : (line₁ : List ℕ) → line₁ ≡ set line reduced_place at → Gap line₁ (front_of 1) 1 (back_of 1)
  single_gap line₁ e = record { gap = marks (s.element ∷ []); is = marked_line line₁ e ∙ child_bytes bindings pre post (s.element ∷ []); room = length_marks (s.element ∷ []) }

  length_single : (line₁ : List ℕ) → line₁ ≡ set line reduced_place at → length line₁ ≡ line_bytes
  length_single line₁ e = ap length (marked_line line₁ e) ∙ length_resting single s.slots (omega (arith, length-append pre (s.element ∷ post), s.few))

  pub line_long : length line ≡ line_bytes
  line_long = sym (length-set line reduced_place at) ∙ length_single (set line reduced_place at) refl

  choices_count : length (choices p q f g ss ts) ≡ length (argument_choices ss q) + last
  choices_count = let a = s.last_choices in ap length a.are ∙ (length-append (argument_choices ss q) a.lasts ∙ ap (length (argument_choices ss q) +◌) a.count)

  -- 3. What the functions that put the lines ask for.
  pub arguments_fit : (line₁ memory : List ℕ) (to place : ℕ) → line₁ ≡ set line reduced_place at → place ≡ 2 * at + first_element → to + line_bytes * length (choices p q f g ss ts) ≤ length memory
      → ArgumentsFit sizes place q k m to line₁ memory
  arguments_fit line₁ memory to place e x room = record {
    starts = ss;
    row = s.left_row;
    within = s.left_within;
    low = omega (arith, s.left_within, s.few_sizes);
    whole = length_single line₁ e;
    place = omega (arith, s.few, s.at_is);
    room = omega (arith, choices_count);
  }

  pub room_fits : (line₁ : List ℕ) → line₁ ≡ set line reduced_place at → 0 < last → WideningFits at count line₁
  room_fits line₁ e h =
      let c : get_or line₁ count_place 0 ≡ length (pre ++ (s.element ∷ post)) = ap (λ b. get_or b count_place 0) (marked_line line₁ e) ∙ count_there single s.slots in
      let d = length-append pre (s.element ∷ post) in
      record { whole = length_single line₁ e; few = omega (arith, s.few); inside = omega (arith, s.at_is); room = omega (arith, s.last_few h) }

  widened_gap : (line₁ line₂ : List ℕ) → line₁ ≡ set line reduced_place at → Widened at count line₁ line₂ → Gap line₂ (front_of count) count (back_of count)
  widened_gap line₁ line₂ e w = w.opens bindings pre post s.element (length pre) s.slots s.at_is (marked_line line₁ e)

  pub exceeding_fits : (line₂ : List ℕ) (place : ℕ) → length line₂ ≡ line_bytes → place ≡ 2 * at + first_element → 0 < last → ExceedingFit sizes place l n line₂
  exceeding_fits line₂ place e x h = record {
    starts = ts;
    row = s.right_row;
    within = s.right_within;
    low = omega (arith, s.right_within, s.few_sizes);
    room = omega (arith, s.last_few h, s.at_is, s.count_is);
  }

  exceeding_filled : (line₁ line₂ line₃ : List ℕ) (place : ℕ) → line₁ ≡ set line reduced_place at → Widened at count line₁ line₂ → place ≡ 2 * at + first_element → FillsExceeding sizes place p l n line₂ line₃
      → line₃ ≡ front_of count ++ (marks (exceeds_each p ts) ++ back_of count)
  exceeding_filled line₁ line₂ line₃ place e w x u =
      u.fills ts (front_of count) (back_of count) s.right_row (length_front count ∙ sym x)
      (subst (λ c. Gap line₂ (front_of count) c (back_of count)) (sym s.count_is) (widened_gap line₁ line₂ e w))

  -- 4. The lines that are put.
  arguments_put : (line₁ memory memory₁ : List ℕ) (to place next : ℕ) → line₁ ≡ set line reduced_place at → place ≡ 2 * at + first_element → PushesArguments sizes place q k m to line₁ memory memory₁ next
      → (memory₁ ≡ placed to (lines_bytes (map (child bindings pre post) (argument_choices ss q))) memory) × (next ≡ to + line_bytes * length (argument_choices ss q))
  arguments_put line₁ memory memory₁ to place next e x u =
      let (a, b) = u.pushes ss (front_of 1) (back_of 1) s.left_row (length_front 1 ∙ sym x) (single_gap line₁ e) in
      (a ∙ ap (λ part. placed to part memory) (sym (children_bytes bindings pre post 1 (argument_choices ss q) (argument_long ss q))), b)

  pub only_arguments : (line₁ memory memory₁ : List ℕ) (to place next : ℕ) → line₁ ≡ set line reduced_place at → place ≡ 2 * at + first_element → PushesArguments sizes place q k m to line₁ memory memory₁ next → last ≡ 0
      → memory₁ ≡ placed to (lines_bytes (map (child bindings pre post) (choices p q f g ss ts))) memory
  only_arguments line₁ memory memory₁ to place next e x u z =
      let a = s.last_choices in
      (arguments_put line₁ memory memory₁ to place next e x u).0 ∙ ap (λ css. placed to (lines_bytes (map (child bindings pre post) css)) memory) (sym (a.are ∙ no_lasts a.lasts (a.count ∙ z)))
    where
      no_lasts : (css : List (List Element)) → length css ≡ 0 → argument_choices ss q ++ css ≡ argument_choices ss q
      no_lasts [] h = append-nil (argument_choices ss q)
      no_lasts (c ∷ css) h = absurd (omega arith)

  -- Two groups, one behind the other.
  both_groups : (memory memory₁ memory₂ : List ℕ) (to next : ℕ) (lasts : List (List Element)) → choices p q f g ss ts ≡ argument_choices ss q ++ lasts → AllLong count lasts → to ≤ length memory
      → (memory₁ ≡ placed to (lines_bytes (map (child bindings pre post) (argument_choices ss q))) memory) → next ≡ to + length (lines_bytes (map (child bindings pre post) (argument_choices ss q)))
      → memory₂ ≡ placed next (choices_bytes (front_of count) (back_of count) lasts) memory₁
      → memory₂ ≡ placed to (lines_bytes (map (child bindings pre post) (choices p q f g ss ts))) memory
  both_groups memory memory₁ memory₂ to next lasts c w room a b d =
      let one = lines_bytes (map (child bindings pre post) (argument_choices ss q)) in
      let two = lines_bytes (map (child bindings pre post) lasts) in
      let whole : lines_bytes (map (child bindings pre post) (choices p q f g ss ts)) ≡ one ++ two =
      ap (λ css. lines_bytes (map (child bindings pre post) css)) c
      ∙ (ap lines_bytes (map-append (child bindings pre post) (argument_choices ss q) lasts) ∙ lines_append (map (child bindings pre post) (argument_choices ss q)) (map (child bindings pre post) lasts)) in
      d
      ∙ (ap₂ (λ i part. placed i part memory₁) b (sym (children_bytes bindings pre post count lasts w))
      ∙ (ap (placed (to + length one) two) a
      ∙ (placed_behind to one two memory room ∙ ap (λ part. placed to part memory) (sym whole))))

  length_children : (c : ℕ) (css : List (List Element)) → AllLong c css → length pre + (c + length post) ≤ max_elements → length (lines_bytes (map (child bindings pre post) css)) ≡ line_bytes * length css
  unfolding lines_bytes
  length_children c [] h k = refl
  length_children c (cs ∷ css) h k =
      let a = length-append pre (cs ++ post) in
      let b = length-append cs post in
      let one : length (resting_bytes (child bindings pre post cs)) ≡ line_bytes = length_resting (child bindings pre post cs) s.slots (omega (arith, h.0)) in
      length-append (resting_bytes (child bindings pre post cs)) (lines_bytes (map (child bindings pre post) css)) ∙ omega (arith, length_children c css h.1 k)

  arguments_length : length (lines_bytes (map (child bindings pre post) (argument_choices ss q))) ≡ line_bytes * length (argument_choices ss q)
  arguments_length = length_children 1 (argument_choices ss q) (argument_long ss q) s.few

  module _ (line₁ line₂ line₃ memory memory₁ : List ℕ) (to place next : ℕ) (e : line₁ ≡ set line reduced_place at) (x : place ≡ 2 * at + first_element) (some_last : 0 < last)
      (room : to + line_bytes * length (choices p q f g ss ts) ≤ length memory) (u : PushesArguments sizes place q k m to line₁ memory memory₁ next)
      (w : Widened at count line₁ line₂) (v : FillsExceeding sizes place p l n line₂ line₃) where
    put_there : (memory₁ ≡ placed to (lines_bytes (map (child bindings pre post) (argument_choices ss q))) memory) × (next ≡ to + line_bytes * length (argument_choices ss q))
    put_there = arguments_put line₁ memory memory₁ to place next e x u

    pub memory_long : length memory₁ ≡ length memory
    memory_long = ap length put_there.0 ∙ placed_length to _ memory (omega (arith, arguments_length, choices_count))

    next_there : next ≡ to + length (lines_bytes (map (child bindings pre post) (argument_choices ss q)))
    next_there = put_there.1 ∙ ap (to +◌) (sym arguments_length)

    pub one_more_fits : next + line_bytes ≤ length memory₁
    one_more_fits = omega (arith, put_there.1, memory_long, choices_count)

    pub pushed_more : (memory₂ : List ℕ) → g < f → memory₂ ≡ placed next line₃ memory₁ → memory₂ ≡ placed to (lines_bytes (map (child bindings pre post) (choices p q f g ss ts))) memory
    unfolding choices_bytes
    pushed_more memory₂ h d =
        both_groups memory memory₁ memory₂ to next (exceeds_each p ts ∷ []) (choices_more p q f g ss ts h) (exceeds_long p ts ∙ s.count_is, tt) (omega (arith, room)) put_there.0 next_there
        (d ∙ ap (λ part. placed next part memory₁) (exceeding_filled line₁ line₂ line₃ place e w x v ∙ sym (append-nil (front_of count ++ (marks (exceeds_each p ts) ++ back_of count)))))

    -- Where some choices come last and f is not greater, the symbols are the same.
    same_symbols : f ≤ g → f ≡ g
    same_symbols h = go (ℕ_discrete f g) (dec_lt f g)
      where
        none_last : f < g → ⊥
        none_last i = let a = choices_less p q f g ss ts i in omega (arith, some_last, choices_count, ap length a)

        go : Dec (f ≡ g) → Dec (f < g) → f ≡ g
        go (yes d) i = d
        go (no d) (yes i) = absurd (none_last i)
        go (no d) (no i) = absurd (d (omega arith))

    same_count : f ≤ g → length (choices p q f g ss ts) ≡ length (argument_choices ss q) + length (lexicographic_choices p ss ts)
    same_count h = ap length (choices_same p q f g ss ts (same_symbols h)) ∙ length-append (argument_choices ss q) (lexicographic_choices p ss ts)

    pub lexicographic_fits : f ≤ g → length line₃ ≡ line_bytes → LexicographicFit sizes place k m l n next line₃ memory₁
    lexicographic_fits h y = record {
      whole_side = p;
      left = ss;
      right = ts;
      left_row = s.left_row;
      right_row = s.right_row;
      left_within = s.left_within;
      right_within = s.right_within;
      left_low = omega (arith, s.left_within, s.few_sizes);
      right_low = omega (arith, s.right_within, s.few_sizes);
      whole = y;
      places = omega (arith, s.last_few some_last, s.at_is, s.count_is);
      room = omega (arith, put_there.1, memory_long, same_count h);
    }

    pub pushed_same : (memory₂ : List ℕ) (r : ℕ) → f ≤ g → PushesLexicographic sizes place k m l n next line₃ memory₁ memory₂ r
        → memory₂ ≡ placed to (lines_bytes (map (child bindings pre post) (choices p q f g ss ts))) memory
    pushed_same memory₂ r h d =
        both_groups memory memory₁ memory₂ to next (lexicographic_choices p ss ts) (choices_same p q f g ss ts (same_symbols h))
        (subst (λ c. AllLong c (lexicographic_choices p ss ts)) s.count_is (lexicographic_long p ss ts)) (omega (arith, room)) put_there.0 next_there
        (d.pushes p ss ts (front_of count) (back_of count) s.left_row s.right_row (length_front count ∙ sym x) (exceeding_filled line₁ line₂ line₃ place e w x v)).0
