-- The memory of the walk from turn to turn.
use Prim.Native.Nat.{ℕ, suc, ◌+◌, ◌-◌, ◌*◌, ◌≤◌, ◌<◌}
use mathlib.Core.Path.{◌≡◌, refl, sym, ap, ◌∙◌}
use mathlib.Core.Bool.{Bool, true, false, ◌||◌}
use mathlib.Core.Option.{some}
use mathlib.Core.List.{List, [], ◌∷◌, ◌++◌, map, map-append, append_assoc, append-nil}
use lib.ListN.{length, take, drop, length-append, length-map}
use lib.Seq.{slice, take-append-le, take-take, drop_at, take_at, drop-drop, length-take-le}
use borrow.Author.Tests.{le-ltb}
use native.Mathlib.Omega.{arith}
use Rattle.format.specs.Lists.{any}
use Rattle.format.specs.Theory.Lists.{any_append, every_append}
use Rattle.format.specs.Limits.{variable_count, max_elements, max_lines, max_turns, record_bytes}
use Rattle.format.specs.declared.refusal.Refusal.{Refusal}
use Rattle.format.specs.declared.refusal.Refusal.TheVariants.{TooManyTurns as too_many_turns, TooManyElements as too_many_elements, TooManyLines as too_many_lines}
use Rattle.solving.specs.Line.{Line, record_of, records}
use Rattle.terms.specs.Position.{Node}
use Rattle.solving.specs.Walk.{enough, treat_line, turn, crowded, over_limit}
use Rattle.solving.specs.Turns.{table_after}
use Rattle.walking.specs.declared.walk.Walk.{Walk}
use Rattle.bindings.specs.ForContracts.PrefixForm.{view_of, InPrefixForm}
use Rattle.bindings.specs.ForContracts.Bindings.{bindings_of}
use Rattle.line_bytes.specs.ForContracts.Resting.{RestingLine, line_of, resting_bytes}
use Rattle.line_bytes.specs.ForContracts.Layout.{line_bytes, placed}
use Rattle.line_bytes.specs.ForContracts.Room.{lines_bytes}
use Rattle.walking.specs.ForContracts.WellFormed.{KnownReduced, WellFormed}
use Rattle.walking.specs.ForContracts.Walking.{AllWellFormed, HoldsTable, table_reached, GoesOn, Earns, FinishedLine}
use Rattle.solving.specs.Theory.Turns.{until_too_long, until_over, after_turn, same_table}
use Rattle.solving.specs.Theory.Records.{length_record_of}
use Rattle.bindings.specs.Theory.Bindings.{length_bindings, readable_slots}
use Rattle.line_bytes.specs.Theory.Placed.{placed_length, placed_back, drop_placed}
use Rattle.line_bytes.specs.Theory.InPlace.{slice_is, lines_append}
use Rattle.line_bytes.specs.Theory.Resting.{bindings_there}
use Rattle.walking.proofs.Turn.{leftmost_none, turn_some, short_append, finished_short, crowded_middle, over_elements, over_lines, within_limits}
use Rattle.walking.specs.Theory.Walking.{well_formed_length}

-- 1. Parts of a buffer.
pub placed_front : (k at : ℕ) (part buffer : List ℕ) → k ≤ at → at ≤ length buffer → take k (placed at part buffer) ≡ take k buffer
unfolding placed
placed_front k at part buffer h l =
    let e = length-take-le at buffer l in
    take-append-le k (take at buffer) (part ++ drop (at + length part) buffer) (omega arith) ∙ take-take k at buffer h

pub length_lines : (nodes sizes : List ℕ) (ls : List RestingLine) → AllWellFormed nodes sizes ls → length (lines_bytes ls) ≡ length ls * line_bytes
unfolding lines_bytes
length_lines nodes sizes [] h = refl
length_lines nodes sizes (l ∷ ls) h = length-append (resting_bytes l) (lines_bytes ls) ∙ omega (arith, well_formed_length l h.0, length_lines nodes sizes ls h.1)

pub well_formed_short : (nodes sizes : List ℕ) (ls : List RestingLine) → AllWellFormed nodes sizes ls → any crowded (map line_of ls) ≡ false
unfolding any line_of crowded
well_formed_short nodes sizes [] h = refl
well_formed_short nodes sizes (l ∷ ls) h = rw (le-ltb max_elements (length l.elements) h.0.few, well_formed_short nodes sizes ls h.1, any)

module _ {nodes sizes memory : List ℕ} {done top : ℕ} {finished : List Line} {first : RestingLine} {others : List RestingLine} (m : HoldsTable nodes sizes memory done top finished (first ∷ others)) where
  -- The first unfinished line stands at its place, the others behind it.
  place_within : top * line_bytes + line_bytes ≤ length memory
  place_within = omega (arith, m.length_is, m.top_is)

  pub first_there : slice (top * line_bytes) (top * line_bytes + line_bytes) memory ≡ resting_bytes first
  unfolding lines_bytes
  first_there =
      slice_is (top * line_bytes) line_bytes memory (omega (arith, place_within))
      ∙ (ap (take line_bytes) m.lines_are ∙ take_at (resting_bytes first) (lines_bytes others) line_bytes (well_formed_length first m.all_well_formed.0))

  pub first_bindings : slice (top * line_bytes) (top * line_bytes + variable_count) memory ≡ first.bindings
  first_bindings =
      let p = place_within in
      slice_is (top * line_bytes) variable_count memory (omega arith)
      ∙ (sym (take-take variable_count line_bytes (drop (top * line_bytes) memory) (omega arith))
      ∙ (ap (take variable_count) (sym (slice_is (top * line_bytes) line_bytes memory (omega arith)) ∙ first_there) ∙ bindings_there first (readable_slots m.all_well_formed.0.readable)))

  others_there : drop ((top + 1) * line_bytes) memory ≡ lines_bytes others
  unfolding lines_bytes
  others_there =
      let e : (top + 1) * line_bytes ≡ top * line_bytes + line_bytes = omega arith in
      ap (λ n. drop n memory) e
      ∙ (sym (drop-drop line_bytes (top * line_bytes) memory)
      ∙ (ap (drop line_bytes) m.lines_are ∙ drop_at (resting_bytes first) (lines_bytes others) line_bytes (well_formed_length first m.all_well_formed.0)))

  -- 3. The line is replaced by others.
  pub replaced : (memory' : List ℕ) (top' : ℕ) (children : List RestingLine) → AllWellFormed nodes sizes children → top' + length children ≡ top + 1 → done ≤ top'
      → memory' ≡ placed (top' * line_bytes) (lines_bytes children) memory → HoldsTable nodes sizes memory' done top' finished (children ++ others)
  replaced memory' top' children s t o e =
      let k = length_lines nodes sizes children s in
      let w = place_within in
      let b : top' * line_bytes + length (lines_bytes children) ≡ (top + 1) * line_bytes = omega arith in
      record {
        length_is = ap length e ∙ (placed_length (top' * line_bytes) (lines_bytes children) memory (omega arith) ∙ m.length_is);
        records_are = ap (take (done * record_bytes)) e ∙ (placed_front (done * record_bytes) (top' * line_bytes) (lines_bytes children) memory (omega arith) (omega arith) ∙ m.records_are);
        lines_are =
            ap (drop (top' * line_bytes)) e
            ∙ (placed_back (top' * line_bytes) (lines_bytes children) memory (omega arith)
            ∙ (ap (λ n. lines_bytes children ++ drop n memory) b
            ∙ (ap (lines_bytes children ++◌) others_there ∙ sym (lines_append children others))));
        done_is = m.done_is;
        top_is = omega (arith, m.top_is, length-append children others);
        ordered = o;
        all_finished = m.all_finished;
        all_well_formed = every_append (WellFormed nodes sizes) children others s m.all_well_formed.1;
      }

-- What no line had before, only the new ones can have.
no_line_had : (has : Line → Bool) (xs : List Line) (l : Line) (zs : List Line) → any has (xs ++ (l ∷ zs)) ≡ false → (any has xs ≡ false) × (any has zs ≡ false)
unfolding any
no_line_had has xs l zs h = go (any has xs) refl (has l) refl (sym (any_append has xs (l ∷ zs)) ∙ h)
  where
    go : (a : Bool) → any has xs ≡ a → (b : Bool) → has l ≡ b → (any has xs || (has l || any has zs)) ≡ false → (any has xs ≡ false) × (any has zs ≡ false)
    go true x b y e = let z : ◌≡◌ {A = ℕ} 0 1 = cc in absurd (omega arith)
    go false x true y e = let z : ◌≡◌ {A = ℕ} 0 1 = cc in absurd (omega arith)
    go false x false y e = (x, sym (rw (x, y)) ∙ e)

or_false : (b : Bool) → (b || false) ≡ b
or_false true = refl
or_false false = refl

only_middle : (has : Line → Bool) (xs : List Line) (l : Line) (ys zs : List Line) → any has (xs ++ (l ∷ zs)) ≡ false → any has (xs ++ (ys ++ zs)) ≡ any has ys
only_middle has xs l ys zs h =
    let (a, b) = no_line_had has xs l zs h in
    any_append has xs (ys ++ zs) ∙ (rw a (any_append has ys zs) ∙ (ap (any has ys ||◌) b ∙ or_false (any has ys)))

-- 2. The walk goes on from the new table, or is refused.
module _ (nodes sizes memory : List ℕ) (w : Walk) (finished : List Line) (first : RestingLine) (others : List RestingLine) (m : HoldsTable nodes sizes memory w.done w.top finished (first ∷ others))
    (comes : table_reached nodes sizes w ≡ some (finished ++ map line_of (first ∷ others))) where
  abbrev view : ℕ → Node
  view = view_of nodes sizes

  abbrev former : List Line
  former = finished ++ map line_of (first ∷ others)

  own_table : (table : List Line) → table_reached nodes sizes w ≡ some table → table ≡ former
  own_table table c = same_table enough view over_limit variable_count w.source w.target w.turns table former c comes

  table_turns : (new : List Line) → treat_line enough view (line_of first) ≡ some new → turn enough view former ≡ some (finished ++ (new ++ map line_of others))
  table_turns new x = turn_some view finished (line_of first) (map line_of others) new m.all_finished x

  pub refused_turns : (new : List Line) → treat_line enough view (line_of first) ≡ some new → max_turns ≤ w.turns → Earns nodes sizes w too_many_turns
  refused_turns new x h table c stop =
      let e : max_turns - w.turns ≡ 0 = omega arith in
      rw (own_table table c, e) (until_too_long enough view over_limit stop w.turns former (finished ++ (new ++ map line_of others)) (table_turns new x))

  module _ (below : w.turns < max_turns) where
    one_left : max_turns - w.turns ≡ suc (max_turns - (w.turns + 1))
    one_left = omega arith

    refused_over : (new : List Line) (r : Refusal) → treat_line enough view (line_of first) ≡ some new → over_limit (finished ++ (new ++ map line_of others)) ≡ some r → Earns nodes sizes w r
    refused_over new r x o table c stop =
        rw (own_table table c, one_left) (until_over enough view over_limit stop w.turns former (finished ++ (new ++ map line_of others)) (table_turns new x) (max_turns - (w.turns + 1)) r o)

    pub refused_elements : (new : List Line) → treat_line enough view (line_of first) ≡ some new → any crowded new ≡ true → Earns nodes sizes w too_many_elements
    refused_elements new x h = refused_over new too_many_elements x (over_elements (finished ++ (new ++ map line_of others)) (crowded_middle finished new (map line_of others) h))

    length_table : (new : List Line) → length (finished ++ (new ++ map line_of others)) ≡ w.done + length new + (max_lines - (w.top + 1))
    length_table new =
        length-append finished (new ++ map line_of others)
        ∙ omega (arith, length-append new (map line_of others), length-map others line_of, m.done_is, m.top_is)

    short_table : (new : List Line) → any crowded new ≡ false → any crowded (finished ++ (new ++ map line_of others)) ≡ false
    short_table new h =
        short_append finished (new ++ map line_of others) (finished_short (view_of nodes sizes) finished m.all_finished)
        (short_append new (map line_of others) h (well_formed_short nodes sizes others m.all_well_formed.1))

    pub refused_lines : (new : List Line) → treat_line enough view (line_of first) ≡ some new → any crowded new ≡ false → w.top + 1 < w.done + length new
        → Earns nodes sizes w too_many_lines
    refused_lines new x h l =
        refused_over new too_many_lines x (over_lines (finished ++ (new ++ map line_of others)) (short_table new h) (omega (arith, length_table new, m.top_is)))

    module _ (laid : InPrefixForm nodes sizes) (memory' : List ℕ) (top' : ℕ) (children : List RestingLine) (sound : AllWellFormed nodes sizes children) (count : top' + length children ≡ w.top + 1) (ordered : w.done ≤ top')
        (placed_there : memory' ≡ placed (top' * line_bytes) (lines_bytes children) memory)
        (x : treat_line enough (view_of nodes sizes) (line_of first) ≡ some (map line_of children)) where
      abbrev further_on : Walk
      further_on = record { source = w.source; target = w.target; done = w.done; top = top'; turns = w.turns + 1 }

      abbrev new_table : List Line
      new_table = finished ++ (map line_of children ++ map line_of others)

      turned_table : finished ++ map line_of (children ++ others) ≡ new_table
      turned_table = ap (finished ++◌) (map-append line_of children others)

      -- The others have what they had.
      turned_new : (has : Line → Bool) → ((table : List Line) → table_reached nodes sizes w ≡ some table → any has table ≡ false)
          → any has (finished ++ map line_of (children ++ others)) ≡ any has (map line_of (take (w.top + 1 - top') (children ++ others)))
      turned_new has before =
          let a : take (w.top + 1 - top') (children ++ others) ≡ children = take_at children others (w.top + 1 - top') (omega arith) in
          ap (any has) turned_table ∙ (only_middle has finished (line_of first) (map line_of children) (map line_of others) (before former comes) ∙ ap (λ ls. any has (map line_of ls)) (sym a))

      pub turned : GoesOn nodes sizes memory' w further_on
      turned =
          let l = length-map children line_of in
          let o = within_limits new_table (short_table (map line_of children) (well_formed_short nodes sizes children sound)) (omega (arith, length_table (map line_of children), m.top_is)) in
          let e : suc w.turns ≡ w.turns + 1 = omega arith in
          record {
            walking = record {
              laid = laid;
              finished = finished;
              unfinished = children ++ others;
              holds = replaced m memory' top' children sound count ordered placed_there;
              turns_within = omega arith;
              comes =
                  ap (table_after enough view over_limit variable_count w.source w.target) (sym e)
                  ∙ (after_turn enough view over_limit variable_count w.source w.target w.turns former new_table comes (table_turns (map line_of children) x) o
                  ∙ ap some (sym turned_table));
            };
            further = record { same_source = refl; same_target = refl; top_within = omega (arith, m.top_is); one_turn = omega arith; falls = omega (arith, m.top_is) };
            only_new = turned_new;
          }

records_one_more : (fs : List Line) (l : Line) → records (fs ++ (l ∷ [])) ≡ records fs ++ record_of l
unfolding records
records_one_more [] l = append-nil (record_of l)
records_one_more (f ∷ fs) l = ap (record_of f ++◌) (records_one_more fs l) ∙ sym (append_assoc (record_of f) (records fs) (record_of l))

placed_through : (at : ℕ) (part buffer : List ℕ) → at ≤ length buffer → take (at + length part) (placed at part buffer) ≡ take at buffer ++ part
unfolding placed
placed_through at part buffer l =
    let e = length-take-le at buffer l in
    ap (take (at + length part)) (sym (append_assoc (take at buffer) part (drop (at + length part) buffer)))
    ∙ take_at (take at buffer ++ part) (drop (at + length part) buffer) (at + length part) (length-append (take at buffer) part ∙ ap (◌+ length part) e)

module _ (nodes sizes memory : List ℕ) (w : Walk) (finished : List Line) (first : RestingLine) (others : List RestingLine) (m : HoldsTable nodes sizes memory w.done w.top finished (first ∷ others))
    (comes : table_reached nodes sizes w ≡ some (finished ++ map line_of (first ∷ others))) where
  abbrev line_on : Walk
  line_on = record { source = w.source; target = w.target; done = w.done + 1; top = w.top + 1; turns = w.turns }

  same_lines : (finished ++ (line_of first ∷ [])) ++ map line_of others ≡ finished ++ map line_of (first ∷ others)
  same_lines = append_assoc finished (line_of first ∷ []) (map line_of others)

  pub finished_on : InPrefixForm nodes sizes → w.turns ≤ max_turns → (memory' : List ℕ) → KnownReduced nodes sizes first.bindings first.elements
      → memory' ≡ placed (w.done * record_bytes) (record_of (line_of first)) memory → GoesOn nodes sizes memory' w line_on
  unfolding line_of treat_line crowded
  finished_on laid within memory' r e =
      let s = m.all_well_formed.0 in
      let k : length (record_of (line_of first)) ≡ record_bytes = length_record_of (bindings_of first.bindings) first.elements (length_bindings first.bindings ∙ readable_slots s.readable) s.few in
      let p : (w.done + 1) * record_bytes ≡ w.done * record_bytes + length (record_of (line_of first)) = omega arith in
      let room : w.done * record_bytes + record_bytes ≤ length memory = omega (arith, m.length_is, m.top_is, m.ordered) in
      record {
        walking = record {
          laid = laid;
          finished = finished ++ (line_of first ∷ []);
          unfinished = others;
          holds = record {
            length_is = ap length e ∙ (placed_length (w.done * record_bytes) (record_of (line_of first)) memory (omega arith) ∙ m.length_is);
            records_are =
                ap (take ((w.done + 1) * record_bytes)) e
                ∙ (ap (λ n. take n (placed (w.done * record_bytes) (record_of (line_of first)) memory)) p
                ∙ (placed_through (w.done * record_bytes) (record_of (line_of first)) memory (omega arith)
                ∙ (ap (◌++ record_of (line_of first)) m.records_are ∙ sym (records_one_more finished (line_of first)))));
            lines_are =
                ap (drop ((w.top + 1) * line_bytes)) e
                ∙ (drop_placed ((w.top + 1) * line_bytes) (w.done * record_bytes) (record_of (line_of first)) memory (omega arith) (omega (arith, m.ordered)) ∙ others_there m);
            done_is = length-append finished (line_of first ∷ []) ∙ omega (arith, m.done_is);
            top_is = omega (arith, m.top_is);
            ordered = omega (arith, m.ordered);
            all_finished = every_append (FinishedLine (view_of nodes sizes)) finished (line_of first ∷ []) m.all_finished (
              record {
                nothing_left = leftmost_none (view_of nodes sizes) (bindings_of first.bindings) first.elements r;
                short = le-ltb max_elements (length first.elements) s.few;
              },
              tt,
            );
            all_well_formed = m.all_well_formed.1;
          };
          turns_within = within;
          comes = comes ∙ ap some (sym same_lines);
        };
        further = record { same_source = refl; same_target = refl; top_within = omega (arith, m.top_is); one_turn = omega arith; falls = omega (arith, m.top_is) };
        only_new = λ has before. let z : w.top + 1 - (w.top + 1) ≡ 0 = omega arith in
            ap (any has) same_lines ∙ (before _ comes ∙ ap (λ n. any has (map line_of (take n others))) (sym z));
      }
