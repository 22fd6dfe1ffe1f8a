-- The walk from its first line to its end.
use Prim.Native.Nat.{ℕ, ◌+◌, ◌-◌, ◌*◌, ◌≤◌, ◌<◌}
use mathlib.Core.Path.{◌≡◌, refl, sym, ap, subst, ◌∙◌}
use mathlib.Core.Bool.{Bool, false}
use mathlib.Core.Option.{some}
use mathlib.Core.List.{List, [], ◌∷◌, ◌++◌}
use lib.ListN.{length, take, drop, replicate}
use lib.Seq.{drop-length, take-append-le}
use native.Mathlib.Decide.{dec_lt}
use native.Mathlib.Omega.{arith}
use Rattle.format.specs.Buffer.{written}
use Rattle.format.specs.Limits.{variable_count, no_position, max_lines, record_bytes}
use Rattle.format.specs.declared.refusal.Refusal.{Refusal}
use Rattle.format.specs.Theory.Lists.{false_true}
use Rattle.solving.specs.Line.{no_bindings, records}
use Rattle.solving.specs.Walk.{Walked, solved, enough, over_limit, opening, walk}
use Rattle.solving.specs.Turns.{table_after}
use Rattle.solving.specs.Theory.Turns.{same_table}
use Rattle.solving.proofs.Theory.Whole.{no_bindings_proper}
use Rattle.walking.specs.declared.walk.Walk.{Walk}
use Rattle.std.specs.Prelude.{Result, Ok, Err}
use Rattle.solve_equation.specs.declared.positions.Solved.{Solved}
use Rattle.solve_equation.specs.ForContracts.Reports.{Reports, Leaves, LeavesWalk}
use Rattle.bindings.specs.ForContracts.PrefixForm.{view_of, InPrefixForm}
use Rattle.bindings.specs.ForContracts.Bindings.{bindings_of, Readable}
use Rattle.line_bytes.specs.ForContracts.Resting.{resting_bytes}
use Rattle.lines.specs.ForContracts.Line.{opening_line}
use Rattle.line_bytes.specs.ForContracts.Layout.{line_bytes, placed}
use Rattle.line_bytes.specs.ForContracts.Room.{lines_bytes}
use Rattle.walking.specs.ForContracts.WellFormed.{WellFormed}
use Rattle.walking.specs.ForContracts.Walking.{memory_bytes, Walking}
use Rattle.stopping.specs.ForContracts.Ends.{stop_test, stopping_walk, EndsAt, WalkEnds}
use Rattle.bindings.specs.Theory.PrefixForm.{form_layout}
use Rattle.line_bytes.specs.Theory.Placed.{placed_length, placed_back}
use Rattle.lines.specs.Theory.Line.{opening_means}
use Rattle.walking.specs.Theory.Walking.{well_formed_length, ended}

-- 1. The opening line.
module _ {nodes sizes : List ℕ} (laid : InPrefixForm nodes sizes) (s t : ℕ) (i : s < length nodes) (j : t < length nodes) where
  opening_readable : Readable nodes sizes (replicate variable_count no_position)
  unfolding bindings_of no_bindings
  opening_readable = record { laid = laid; proper = no_bindings_proper (form_layout laid) }

  opening_well_formed : WellFormed nodes sizes (opening_line s t)
  unfolding opening_line
  opening_well_formed = record { readable = opening_readable; within = ((i, j), tt); few = omega arith; known = omega arith; reduced_known = tt }

  -- The last place of the memory.
  abbrev first_place : ℕ
  first_place = max_lines - 1

  abbrev at_first : Walk
  at_first = record { source = s; target = t; done = 0; top = first_place; turns = 0 }

  pub opening_walks : (memory memory' line : List ℕ) → length memory ≡ memory_bytes → line ≡ resting_bytes (opening_line s t) → memory' ≡ placed (first_place * line_bytes) line memory
      → Walking nodes sizes memory' at_first
  unfolding lines_bytes records table_after opening no_bindings
  opening_walks memory memory' line l b e =
      let k : length line ≡ line_bytes = ap length b ∙ well_formed_length (opening_line s t) opening_well_formed in
      let room : first_place * line_bytes + length line ≡ length memory = omega arith in
      record {
        laid = laid;
        finished = [];
        unfinished = opening_line s t ∷ [];
        holds = record {
          length_is = ap length e ∙ (placed_length (first_place * line_bytes) line memory (omega arith) ∙ l);
          records_are = refl;
          lines_are =
              ap (drop (first_place * line_bytes)) e
              ∙ (placed_back (first_place * line_bytes) line memory (omega arith)
              ∙ (ap (λ n. line ++ drop n memory) room
              ∙ (ap (line ++◌) (drop-length memory) ∙ ap (◌++ []) b)));
          done_is = refl;
          top_is = refl;
          ordered = omega arith;
          all_finished = tt;
          all_well_formed = (opening_well_formed, tt);
        };
        turns_within = omega arith;
        comes = ap (λ l. some (l ∷ [])) (sym (opening_means s t));
      }

-- 2. The walk from its first line.
pub ends_between : {nodes sizes memory : List ℕ} {stops : Bool} {s t source target : ℕ} {a : Result Walk Refusal} → s ≡ source → t ≡ target → WalkEnds nodes sizes memory stops s t a → WalkEnds nodes sizes memory stops source target a
ends_between {nodes = nodes} {sizes = sizes} {memory = memory} {stops = stops} {t = t} {source = source} {a = a} x y c =
    subst (λ t. WalkEnds nodes sizes memory stops source t a) y (subst (λ s. WalkEnds nodes sizes memory stops s t a) x c)

-- 3. The end of the walk, told. Nothing has stopped it, so that no line is left unfinished.
comes_walk : (nodes sizes : List ℕ) (source target : ℕ) → stopping_walk false nodes sizes source target ≡ walk enough (view_of nodes sizes) source target
unfolding walk stop_test
comes_walk nodes sizes source target = refl

module _ {nodes sizes memory : List ℕ} (source target : ℕ) where
  all_finished : {v : Walk} → EndsAt nodes sizes memory false source target v → max_lines ≤ v.top
  all_finished {v} k = go (dec_lt v.top max_lines)
    where
      go : Dec (v.top < max_lines) → max_lines ≤ v.top
      go (yes l) = false_true (k.stopped l).0
      go (no l) = omega arith

  pub solved_leaves : (v : Walk) → WalkEnds nodes sizes memory false source target (Ok v) → LeavesWalk nodes sizes source target memory (Ok (record { lines = v.done; turns = v.turns }))
  solved_leaves v c =
      let k = c.end in
      let x = ended nodes sizes memory v k.walking (all_finished k) in
      let same = same_table enough (view_of nodes sizes) over_limit variable_count v.source v.target v.turns _ _ k.walking.comes x.comes in
      record {
        ends = (
          k.walking.finished,
          sym (comes_walk nodes sizes source target) ∙ (k.walked ∙ ap (λ t. solved t v.turns) same),
          sym x.count_is,
          omega (arith, k.walking.holds.ordered, k.walking.holds.top_is),
          x.records_are,
        );
      }

  pub refused_leaves : (why : Refusal) → WalkEnds nodes sizes memory false source target (Err why) → LeavesWalk nodes sizes source target memory (Err why)
  refused_leaves why c = record { ends = sym (comes_walk nodes sizes source target) ∙ c.end }

-- 4. The records are copied to the table.
module _ {w : Walked} {memory : List ℕ} where
  pub few_lines : (s : Solved) → Leaves w memory (Ok s) → s.lines ≤ max_lines
  few_lines s k = k.ends.3

  pub solved_tells : (s : Solved) → Leaves w memory (Ok s) → length memory ≡ memory_bytes → (behind table table' : List ℕ) → table' ≡ written (take (s.lines * record_bytes) (memory ++ behind)) table
      → Reports w table table' (Ok s)
  solved_tells s k l behind table table' t =
      let (ls, x, y, f, z) = k.ends in
      let front = take-append-le (s.lines * record_bytes) memory behind (omega (arith, f, l)) in
      record { ends = (ls, x, y, t ∙ ap (λ part. written part table) (front ∙ z)) }

  pub refused_tells : (why : Refusal) → Leaves w memory (Err why) → (table : List ℕ) → Reports w table table (Err why)
  refused_tells why k table = record { ends = (k.ends, refl) }
