-- The turns of the walk, by what the element asks for.
use Prim.Native.Nat.{ℕ, ◌+◌, ◌*◌, ◌≤◌, ◌<◌}
use mathlib.Core.Path.{◌≡◌, refl, sym, ap, ap₂, subst, ◌∙◌}
use mathlib.Core.Option.{Option, none, some}
use mathlib.Core.List.{List, [], ◌∷◌, ◌++◌, append-nil}
use lib.ListN.{length, get_or, set, take, drop, length-take, get_or-eq_default}
use lib.Seq.{slice, take-take, take_at, drop-append-add, get_or-take, get_or-drop}
use native.Mathlib.Decide.{dec_lt}
use native.Mathlib.Nat.{min-le_left}
use native.Mathlib.Omega.{arith}
use Rattle.format.specs.Limits.{variable_count, max_elements, max_lines, max_turns, no_position, record_bytes}
use Rattle.format.specs.declared.refusal.Refusal.TheVariants.{TooManyTurns as too_many_turns}
use Rattle.format.specs.Theory.Lists.{every_drop}
use Rattle.solving.specs.Line.{Bindings, Element, equal, greater, line as line_with, record_of}
use Rattle.solving.specs.Walk.{enough, becomes, unified, unify, treat, treat_line}
use Rattle.solving.specs.ForContracts.Written.{Inequalities}
use Rattle.solving.specs.ForContracts.Within.{Within, AllWithin}
use Rattle.std.specs.Prelude.{⊤, Some, None}
use Rattle.bindings.specs.ForContracts.PrefixForm.{view_of}
use Rattle.bindings.specs.ForContracts.Bindings.{bindings_of, Readable}
use Rattle.unifying.specs.declared.unifier.Unifier.{Unifier}
use Rattle.unifying.specs.ForContracts.Unify.{answered}
use Rattle.unifying.specs.ForContracts.Unifier.{Unifies}
use Rattle.bindings.specs.Theory.Bindings.{readable_slots}
use Rattle.unifying.specs.Theory.Unify.{unified_readable}
use Rattle.lines.specs.declared.line.Line.{Line as LineValue}
use Rattle.line_bytes.specs.ForContracts.Layout.{reduced_place, line_bytes, placed}
use Rattle.line_bytes.specs.ForContracts.Resting.{equality_mark, Markable, RestingLine, line_of, resting_bytes}
use Rattle.line_bytes.specs.ForContracts.Room.{lines_bytes}
use Rattle.lines.specs.ForContracts.Line.{RemovalFits, Removes}
use Rattle.line_bytes.specs.Theory.Placed.{placed_none}
use Rattle.line_bytes.specs.Theory.InPlace.{slice_is, rebound}
use Rattle.line_bytes.specs.Theory.Record.{record_written}
use Rattle.treating.specs.declared.treat.Sides.{Sides}
use Rattle.treating.specs.declared.treat.Treatment.{Treatment}
use Rattle.treating.specs.declared.treat.Treatment.TheVariants.{Reduced, DropLine, DropElement, Unify}
use Rattle.walking.specs.declared.walk.Walk.{Walk}
use Rattle.treating.specs.ForContracts.Treatment.{Treated}
use Rattle.treating.specs.ForContracts.Children.{child}
use Rattle.treating.specs.Theory.Treatment.{unified_not, asks_becomes}
use Rattle.walking.specs.ForContracts.WellFormed.{KnownReduced, WellFormed}
use Rattle.walking.specs.ForContracts.Walking.{Finishing, Treating, TreatingLine, TreatingCount, GoesOn, Earns}
use Rattle.walking.proofs.Turn.{around}
use Rattle.walking.proofs.Walking.{first_there, first_bindings, refused_turns, turned, finished_on}
use Rattle.walking.proofs.Children.{first_treated, children_lines, element_within, length_split, child_well_formed, rebound_well_formed}

-- A finished line has inequalities only.
pub reduced_inequalities : (nodes sizes bs : List ℕ) (es : List Element) → KnownReduced nodes sizes bs es → Inequalities es
unfolding treat
reduced_inequalities nodes sizes bs [] h = tt
reduced_inequalities nodes sizes bs (equal p q ∷ es) h = absurd (unified_not (unify enough (view_of nodes sizes) enough.unify_depth (bindings_of bs) p q) h.0)
reduced_inequalities nodes sizes bs (greater p q ∷ es) h = (tt, reduced_inequalities nodes sizes bs es h.1)

-- The walk a turn further on.
abbrev pub after_turn : Walk → ℕ → Walk
after_turn w top = record { source = w.source; target = w.target; done = w.done; top = top; turns = w.turns + 1 }

-- 1. The line is finished.
-- A part of a buffer of bytes has only bytes.
slice_low : (at n top : ℕ) (buffer : List ℕ) → ((i : ℕ) → get_or buffer i 0 ≤ top) → (i : ℕ) → get_or (slice at n buffer) i 0 ≤ top
slice_low at n top buffer h i = rw (get_or-drop at (take n buffer) i 0) (go (dec_lt (at + i) n))
  where
    go : Dec (at + i < n) → get_or (take n buffer) (at + i) 0 ≤ top
    go (yes l) = rw (get_or-take n buffer (at + i) 0 l) (h (at + i))
    go (no l) = rw (get_or-eq_default (take n buffer) 0 {n = at + i} (omega (arith, length-take n buffer, min-le_left n (length buffer)))) (omega arith)

module _ {nodes sizes memory : List ℕ} {w : Walk} (f : Finishing nodes sizes memory w) where
  pub finishing_fits : (w.done * record_bytes ≤ w.top * line_bytes) × (w.top * line_bytes + record_bytes ≤ length memory)
  finishing_fits = let m = f.holds in (omega (arith, m.ordered), omega (arith, m.length_is, m.top_is))

  pub finishing_done : (w.done + 1 ≤ max_lines) × (w.top + 1 ≤ max_lines)
  finishing_done = let m = f.holds in (omega (arith, m.top_is, m.ordered), omega (arith, m.top_is))

  pub finishing_goes_on : (memory' : List ℕ) → ((i : ℕ) → get_or memory i 0 ≤ no_position)
      → memory' ≡ placed (w.done * record_bytes) (slice (w.top * line_bytes) (w.top * line_bytes + record_bytes) memory) memory
      → GoesOn nodes sizes memory' w (record { source = w.source; target = w.target; done = w.done + 1; top = w.top + 1; turns = w.turns })
  finishing_goes_on memory' small e =
      let s = f.holds.all_well_formed.0 in
      let place = w.top * line_bytes in
      let there = first_there f.holds in
      let low : (i : ℕ) → get_or (resting_bytes f.first) i 0 ≤ no_position =
      subst (λ b. (i : ℕ) → get_or b i 0 ≤ no_position) there (slice_low place (place + line_bytes) no_position memory small) in
      let front : slice place (place + record_bytes) memory ≡ take record_bytes (slice place (place + line_bytes) memory) =
      slice_is place record_bytes memory (omega (arith, finishing_fits.1))
      ∙ (sym (take-take record_bytes line_bytes (drop place memory) (omega arith)) ∙ ap (take record_bytes) (sym (slice_is place line_bytes memory (omega (arith, finishing_fits.1))))) in
      let r : slice place (place + record_bytes) memory ≡ record_of (line_of f.first) =
      front
      ∙ (ap (take record_bytes) there
      ∙ record_written f.first (readable_slots s.readable) s.few low (reduced_inequalities nodes sizes f.first.bindings f.first.elements f.all_reduced)) in
      finished_on nodes sizes memory w f.finished f.first f.others f.holds f.comes f.laid f.turns_within memory' f.all_reduced
      (e ∙ ap (λ part. placed (w.done * record_bytes) part memory) r)

pub treating_as : {nodes sizes memory : List ℕ} {w : Walk} {l : LineValue} {at : ℕ} {t u : Treatment} → TreatingLine nodes sizes memory w l at t → t ≡ u → TreatingLine nodes sizes memory w l at u
treating_as {nodes = nodes} {sizes = sizes} {memory = memory} {w = w} {l = l} {at = at} g e = subst (TreatingLine nodes sizes memory w l at) e g

pub treating_counted : {nodes sizes memory : List ℕ} {w : Walk} {l : LineValue} {at : ℕ} {t : Treatment} → TreatingLine nodes sizes memory w l at t → w.turns < max_turns
    → TreatingCount nodes sizes memory w l.count at t
treating_counted g h = record { treating = g.treating; count_is = g.line_holds.count_is; turns_below = h }

module _ {nodes sizes memory : List ℕ} {w : Walk} {at : ℕ} {t : Treatment} (g : Treating nodes sizes memory w at t) where
  well_formed_first : WellFormed nodes sizes g.first
  well_formed_first = g.holds.all_well_formed.0

  pub treating_top : w.top < max_lines
  treating_top = omega (arith, g.holds.top_is)

  pub treating_place : w.top * line_bytes + line_bytes ≤ length memory
  treating_place = omega (arith, g.holds.top_is, g.holds.length_is)

  pub few_elements : length g.pre + (1 + length g.post) ≤ max_elements
  few_elements = omega (arith, well_formed_first.few, length_split g.first well_formed_first g.pre g.element g.post g.split)

  -- "8, a turn beyond 10,000"
  pub too_long_walk : (t ≡ Reduced → ⊥) → w.turns ≡ max_turns → Earns nodes sizes w too_many_turns
  too_long_walk n d =
      let (ms, b) = asks_becomes nodes sizes g.first.bindings g.element t g.treated n in
      refused_turns nodes sizes memory w g.finished g.first g.others g.holds g.comes _
      (first_treated nodes sizes g.first g.pre g.element g.post ms g.split g.pre_reduced b) (omega arith)

  module _ (below : w.turns < max_turns) where
    -- 2. The line is deleted.
    goes_without : treat enough (view_of nodes sizes) (bindings_of g.first.bindings) g.element ≡ becomes [] → GoesOn nodes sizes memory w (after_turn w (w.top + 1))
    unfolding lines_bytes
    goes_without x =
        turned nodes sizes memory w g.finished g.first g.others g.holds g.comes below g.laid memory (w.top + 1) [] tt (omega arith) (omega (arith, g.holds.ordered))
        (sym (placed_none ((w.top + 1) * line_bytes) memory) ∙ no_lines)
        (first_treated nodes sizes g.first g.pre g.element g.post [] g.split g.pre_reduced x)
      where
        no_lines : placed ((w.top + 1) * line_bytes) [] memory ≡ placed ((w.top + 1) * line_bytes) (lines_bytes []) memory
        no_lines = refl

    -- 3. The line is replaced by one.
    goes_with : (memory' : List ℕ) (l : RestingLine) → WellFormed nodes sizes l → treat_line enough (view_of nodes sizes) (line_of g.first) ≡ some (line_of l ∷ [])
        → memory' ≡ placed (w.top * line_bytes) (resting_bytes l) memory → GoesOn nodes sizes memory' w (after_turn w w.top)
    unfolding lines_bytes
    goes_with memory' l s x e =
        turned nodes sizes memory w g.finished g.first g.others g.holds g.comes below g.laid memory' w.top (l ∷ []) (s, tt) (omega arith) g.holds.ordered
        (e ∙ ap (λ part. placed (w.top * line_bytes) part memory) (sym (append-nil (resting_bytes l))))
        x

    -- "l a variable occurring in r (or r itself): delete the line"
    pub line_dropped : t ≡ DropLine → GoesOn nodes sizes memory w (after_turn w (w.top + 1))
    line_dropped d = goes_without (subst (Treated nodes sizes g.first.bindings g.element) d g.treated).asks

    -- The line without the element.
    abbrev shorter : RestingLine
    shorter = child g.first.bindings g.pre g.post []

    shorter_well_formed : WellFormed nodes sizes shorter
    shorter_well_formed = child_well_formed g.first well_formed_first g.pre g.element g.post g.split g.pre_reduced [] tt (omega (arith, few_elements))

-- The line by its named parts.
module _ {nodes sizes memory : List ℕ} {w : Walk} {l : LineValue} {at : ℕ} {t : Treatment} (h : TreatingLine nodes sizes memory w l at t) where
  abbrev g : Treating nodes sizes memory w at t
  g = h.treating

  own_bindings : l.bindings ≡ g.first.bindings
  own_bindings = h.line_holds.bindings_are

  markable_within : (n : ℕ) (es : List Element) → n ≤ equality_mark → AllWithin n es → Markable es
  markable_within n [] k u = tt
  markable_within n (equal p q ∷ es) k u = (omega (arith, u.0.0), markable_within n es k u.1)
  markable_within n (greater p q ∷ es) k u = markable_within n es k u.1

  at_inside : at < length g.first.elements
  at_inside = omega (arith, g.at_is, length_split g.first (well_formed_first g) g.pre g.element g.post g.split)

  pub removal_fits : RemovalFits l (w.top * line_bytes) at memory
  removal_fits = record {
    resting = g.first;
    holds = h.line_holds;
    there = first_there g.holds;
    whole = treating_place g;
    slots = readable_slots (well_formed_first g).readable;
    few = (well_formed_first g).few;
    markable = markable_within (length nodes) (drop (at + 1) g.first.elements) (omega (arith, g.laid.few)) (every_drop (Within (length nodes)) (at + 1) g.first.elements (well_formed_first g).within);
    known = g.not_passed;
    inside = at_inside;
  }

  -- The rest of the elements, in front of the one that is deleted and behind it.
  rest_is : take at g.first.elements ++ drop (at + 1) g.first.elements ≡ g.pre ++ g.post
  rest_is =
      let n : at + 1 ≡ length g.pre + 1 = omega (arith, g.at_is) in
      ap₂ ◌++◌
      (ap (take at) g.split ∙ take_at g.pre (g.element ∷ g.post) at g.at_is)
      (ap₂ drop n g.split ∙ drop-append-add g.pre (g.element ∷ g.post) 1)

  removed : (memory' : List ℕ) → Removes l (w.top * line_bytes) at memory memory'
      → memory' ≡ placed (w.top * line_bytes) (resting_bytes (record { bindings = g.first.bindings; elements = g.pre ++ g.post; reduced = length g.pre })) memory
  removed memory' u =
      u.removes g.first h.line_holds (first_there g.holds) (readable_slots (well_formed_first g).readable) (well_formed_first g).few at_inside g.not_passed
      ∙ ap₂ (λ es n. placed (w.top * line_bytes) (resting_bytes (record { bindings = g.first.bindings; elements = es; reduced = n })) memory) rest_is (sym g.at_is)

  module _ (below : w.turns < max_turns) where
    -- "Else r a variable occurring in l: delete the element."
    pub element_dropped : (memory' : List ℕ) → t ≡ DropElement → Removes l (w.top * line_bytes) at memory memory' → GoesOn nodes sizes memory' w (after_turn w w.top)
    element_dropped memory' d u =
        let bs = g.first.bindings in
        let x : treat enough (view_of nodes sizes) (bindings_of bs) g.element ≡ becomes (line_with (bindings_of bs) [] ∷ []) = (subst (Treated nodes sizes bs g.element) d g.treated).asks in
        goes_with g below memory' (shorter g below) (shorter_well_formed g below)
        (first_treated nodes sizes g.first g.pre g.element g.post (line_with (bindings_of bs) [] ∷ []) g.split g.pre_reduced x ∙ ap some (sym (children_lines bs g.pre g.post ([] ∷ []))))
        (removed memory' u)

    -- 4. "Equality: unify".
    module _ (sides : Sides) (d : t ≡ Unify sides) where
      element_equal : g.element ≡ equal sides.left sides.right
      element_equal = (subst (Treated nodes sizes g.first.bindings g.element) d g.treated).asks

      pub equal_within : (sides.left < length nodes) × (sides.right < length nodes)
      equal_within =
          let k : Within (length nodes) (equal sides.left sides.right) = rw element_equal at (element_within g.first (well_formed_first g) g.pre g.element g.post g.split) in
          k

      pub line_readable : Readable nodes sizes l.bindings
      line_readable = rw own_bindings (well_formed_first g).readable

      treated_equal : (o : Option Bindings) → unify enough (view_of nodes sizes) enough.unify_depth (bindings_of g.first.bindings) sides.left sides.right ≡ o
          → treat enough (view_of nodes sizes) (bindings_of g.first.bindings) g.element ≡ unified o
      unfolding treat
      treated_equal o e = ap (treat enough (view_of nodes sizes) (bindings_of g.first.bindings)) element_equal ∙ ap unified e

      module _ (r : Unifier) (u : Unifies nodes sizes l.bindings sides.left sides.right r) where
        told : unify enough (view_of nodes sizes) enough.unify_depth (bindings_of g.first.bindings) sides.left sides.right ≡ answered r.answer (bindings_of r.bindings)
        told = ap (λ b. unify enough (view_of nodes sizes) enough.unify_depth (bindings_of b) sides.left sides.right) (sym own_bindings) ∙ u.tells

        -- "Failure deletes the line".
        pub unify_failed : r.answer ≡ None → GoesOn nodes sizes memory w (after_turn w (w.top + 1))
        unfolding unified answered
        unify_failed a = goes_without g below (treated_equal none (told ∙ ap (λ o. answered o (bindings_of r.bindings)) a))

        module _ {found : ⊤} (a : r.answer ≡ Some found) where
          some_unifier : unify enough (view_of nodes sizes) enough.unify_depth (bindings_of g.first.bindings) sides.left sides.right ≡ some (bindings_of r.bindings)
          unfolding answered
          some_unifier = told ∙ ap (λ o. answered o (bindings_of r.bindings)) a

          treated_some : treat_line enough (view_of nodes sizes) (line_of g.first) ≡ some (line_with (bindings_of r.bindings) (g.pre ++ g.post) ∷ [])
          unfolding unified around
          treated_some =
              first_treated nodes sizes g.first g.pre g.element g.post (line_with (bindings_of r.bindings) [] ∷ []) g.split g.pre_reduced
              (treated_equal (some (bindings_of r.bindings)) some_unifier)

          -- "success the element", with the bindings that were there,
          pub unify_kept : (memory' : List ℕ) → slice (w.top * line_bytes) (w.top * line_bytes + variable_count) memory ≡ r.bindings → Removes l (w.top * line_bytes) at memory memory'
              → GoesOn nodes sizes memory' w (after_turn w w.top)
          unfolding line_of
          unify_kept memory' e v =
              goes_with g below memory' (shorter g below) (shorter_well_formed g below)
              (treated_some ∙ ap (λ b. some (line_with (bindings_of b) (g.pre ++ g.post) ∷ [])) (sym e ∙ first_bindings g.holds))
              (removed memory' v)

          -- or with others, under which no element has been looked at.
          pub unify_changed : (memory' memory'' : List ℕ) → Removes l (w.top * line_bytes) at memory memory'
              → memory'' ≡ set (placed (w.top * line_bytes) r.bindings memory') (w.top * line_bytes + reduced_place) 0 → GoesOn nodes sizes memory'' w (after_turn w w.top)
          unfolding line_of
          unify_changed memory' memory'' v e =
              let place = w.top * line_bytes in
              let s = shorter_well_formed g below in
              let read : Readable nodes sizes r.bindings = unified_readable r.bindings (well_formed_first g).readable sides.left sides.right enough.unify_depth equal_within.0 equal_within.1 some_unifier in
              goes_with g below memory'' (record { bindings = r.bindings; elements = g.pre ++ g.post; reduced = 0 })
              (rebound_well_formed g.first (well_formed_first g) g.pre g.element g.post g.split r.bindings read)
              treated_some
              (e ∙ (ap (λ m. set (placed place r.bindings m) (place + reduced_place) 0) (removed memory' v)
              ∙ rebound place r.bindings (record { bindings = g.first.bindings; elements = g.pre ++ g.post; reduced = length g.pre }) memory (treating_place g) (readable_slots s.readable) s.few u.whole))
