-- What holds before each turn of the loop that keeps lines: those passed stand in the table, one behind the other.
use Prim.Native.Nat.{ℕ, ◌+◌, ◌-◌, ◌*◌, ◌≤◌, ◌<◌}
use mathlib.Core.Path.{◌≡◌, refl, sym, ap, ap₂, subst, ◌∙◌}
use mathlib.Core.List.{List, [], ◌∷◌, ◌++◌, map, append_assoc, append-nil}
use native.Mathlib.Omega.{arith}
use lib.ListN.{length, get_or, take, drop, replicate, length-append, length-map}
use lib.Seq.{slice, length-take-le, drop-append-add, drop-drop}
use Rattle.format.specs.Limits.{max_elements, no_position, record_bytes, table_bytes}
use Rattle.format.specs.Theory.Parts.{part_slice}
use Rattle.terms.specs.ForContracts.Stored.{PartAt}
use Rattle.solving.specs.Line.{Line, line, binding_byte, element_bytes, record_of, records}
use Rattle.solving.specs.ForContracts.Written.{WrittenLines}
use Rattle.solving.specs.Theory.Records.{length_record}
use Rattle.line_bytes.specs.ForContracts.Layout.{count_place, placed}
use Rattle.line_bytes.specs.Theory.Placed.{placed_length, placed_none, placed_behind}
use Rattle.std.specs.Prelude.{None, Some}
use Rattle.kept_lines.specs.ForContracts.Trimmed.{trimmed, trimmed_lines, RecordsAre, HasRecords, KeptAs}
use Rattle.kept_lines.proofs.Lengths.{counted_length}
use Rattle.kept_lines.proofs.Parts.{length_part, part_room, part_rest, part_byte}
use Rattle.kept_lines.specs.Theory.Lengths.{length_trimmed}

-- What stands behind a part that is put into a buffer stays.
drop_placed : (n at : ℕ) (part buffer : List ℕ) → at + length part ≤ n → at ≤ length buffer → drop n (placed at part buffer) ≡ drop n buffer
unfolding placed
drop_placed n at part buffer h k =
    let front = take at buffer in
    let rest = drop (at + length part) buffer in
    let d = n - (at + length part) in
    let seam : length (front ++ part) ≡ at + length part = length-append front part ∙ ap (◌+ length part) (length-take-le at buffer k) in
    let far : n ≡ length (front ++ part) + d = omega arith in
    let back : at + length part + d ≡ n = omega arith in
    ap₂ drop far (sym (append_assoc front part rest))
    ∙ (drop-append-add (front ++ part) rest d
    ∙ (drop-drop d (at + length part) buffer
    ∙ ap (λ m. drop m buffer) back))

module _ (bytes before : List ℕ) (start : ℕ) where
  -- Of these lines those before line `i` are kept, as `done`.
  pub record KeptSoFar (ls : List Line) (table : List ℕ) (to i : ℕ) : Type 0 where
    pub done : List ℕ
    pub left : List Line
    pub positions : ℕ
    pub written : WrittenLines positions left
    pub counted : i + length left ≡ length ls
    pub there : PartAt bytes (i * record_bytes) (records left)
    pub split : trimmed_lines ls ≡ done ++ trimmed_lines left
    pub reached : to ≡ start + length done
    pub stands : table ≡ placed start done before

  -- Line `i` of these, whose bytes without filler are `n`.
  pub record NextLine (ls : List Line) (table : List ℕ) (to i n : ℕ) : Type 0 where
    pub there : i * record_bytes + n ≤ length bytes
    pub needs_room : to + n ≤ start + length (trimmed_lines ls)
    pub kept : (after : List ℕ) → after ≡ placed to (slice (i * record_bytes) (i * record_bytes + n) bytes) table → KeptSoFar ls after (to + n) (i + 1)

  pub record Keeping (lines : ℕ) (table : List ℕ) (to i : ℕ) : Type 0 where
    pub fits : to ≤ table_bytes
    pub same_length : length table ≡ length before
    pub so_far : (ls : List Line) → RecordsAre bytes lines ls → KeptSoFar ls table to i

module _ {bytes before : List ℕ} {start : ℕ} (low : start ≤ length before) where
  pub keeping_start : {lines : ℕ} → start ≤ table_bytes → Keeping bytes before start lines before start 0
  keeping_start fits = record {
    fits = fits;
    same_length = refl;
    so_far = λ ls r. record {
      done = [];
      left = ls;
      positions = r.positions;
      written = r.written;
      counted = omega arith;
      there = r.first;
      split = refl;
      reached = omega arith;
      stands = sym (placed_none start before);
    };
  }

  next_line : {ls : List Line} {table : List ℕ} {to i : ℕ} → KeptSoFar bytes before start ls table to i → i < length ls
      → NextLine bytes before start ls table to i (counted_length bytes (i * record_bytes))
  unfolding trimmed trimmed_lines record_of records
  next_line {ls} {table} {to} {i} k h = go k.left k.written k.counted k.there k.split
    where
      at : ℕ
      at = i * record_bytes

      go : (left : List Line) → WrittenLines k.positions left → i + length left ≡ length ls → PartAt bytes at (records left)
          → trimmed_lines ls ≡ k.done ++ trimmed_lines left → NextLine bytes before start ls table to i (counted_length bytes at)
      go [] w c p s = absurd (omega arith)
      go (line θ es ∷ rest) w c p s = record { there = there; needs_room = room; kept = kept }
        where
          this : List ℕ
          this = trimmed (line θ es)

          filler : List ℕ
          filler = replicate (2 * (max_elements - length es)) no_position

          others : List ℕ
          others = records rest ++ p.rest

          whole : drop at bytes ≡ record_of (line θ es) ++ others
          whole = p.is ∙ append_assoc (record_of (line θ es)) (records rest) p.rest

          part : drop at bytes ≡ this ++ (filler ++ others)
          part = whole ∙ append_assoc this filler others

          count : get_or bytes (at + count_place) 0 ≡ length es
          count =
              part_byte at bytes (map binding_byte θ) (length es) (element_bytes es ++ (filler ++ others)) count_place
              (part ∙ append_assoc (map binding_byte θ) (length es ∷ element_bytes es) (filler ++ others))
              (length-map θ binding_byte ∙ w.0.slots)

          size : length this ≡ counted_length bytes at
          size = omega (arith, length_trimmed θ es w.0.slots, count)

          there : at + counted_length bytes at ≤ length bytes
          there = omega (arith, size, part_room at bytes this (filler ++ others) part (omega (arith, size)))

          room : to + counted_length bytes at ≤ start + length (trimmed_lines ls)
          room = omega (arith, size, k.reached, ap length s, length-append k.done (trimmed_lines (line θ es ∷ rest)), length-append this (trimmed_lines rest))

          kept : (after : List ℕ) → after ≡ placed to (slice at (at + counted_length bytes at) bytes) table → KeptSoFar bytes before start ls after (to + counted_length bytes at) (i + 1)
          kept after e =
              let copied : slice at (at + counted_length bytes at) bytes ≡ this = ap (λ n. slice at (at + n) bytes) (sym size) ∙ part_slice at bytes this (filler ++ others) part (omega (arith, there)) in
              let further : (i + 1) * record_bytes ≡ at + length (record_of (line θ es)) = omega (arith, length_record θ es w.0) in
              record {
                done = k.done ++ this;
                left = rest;
                positions = k.positions;
                written = w.1;
                counted = omega arith;
                there = record { rest = p.rest; is = ap (λ n. drop n bytes) further ∙ part_rest at bytes (record_of (line θ es)) others whole };
                split = s ∙ sym (append_assoc k.done this (trimmed_lines rest));
                reached = omega (arith, size, k.reached, length-append k.done this);
                stands =
                    e
                    ∙ (ap (λ l. placed to l table) copied
                    ∙ (ap₂ (λ n l. placed n this l) k.reached k.stands
                    ∙ placed_behind start k.done this before low));
              }

  module _ {lines : ℕ} {table : List ℕ} {to i : ℕ} (k : Keeping bytes before start lines table to i) where
    pub next : (ls : List Line) → RecordsAre bytes lines ls → i < lines → NextLine bytes before start ls table to i (counted_length bytes (i * record_bytes))
    next ls r h = next_line (k.so_far ls r) (omega (arith, r.counted))

    pub record_there : HasRecords bytes lines → i < lines → i * record_bytes + counted_length bytes (i * record_bytes) ≤ length bytes
    record_there h l = (next h.kept h.are l).there

    pub keeping_again : {n : ℕ} {after : List ℕ} → table_bytes ≤ length before → HasRecords bytes lines → i < lines → n ≡ counted_length bytes (i * record_bytes) → to + n ≤ table_bytes
        → after ≡ placed to (slice (i * record_bytes) (i * record_bytes + n) bytes) table → Keeping bytes before start lines after (to + n) (i + 1)
    keeping_again {n} {after} room h l e f c =
        let there = record_there h l in
        let size = length_part (i * record_bytes) n bytes (omega arith) in
        record {
          fits = f;
          same_length = ap length c ∙ (placed_length to (slice (i * record_bytes) (i * record_bytes + n) bytes) table (omega (arith, k.same_length)) ∙ k.same_length);
          so_far = λ ls r. subst (λ m. KeptSoFar bytes before start ls after (to + m) (i + 1)) (sym e) ((next ls r l).kept after (c ∙ ap (λ m. placed to (slice (i * record_bytes) (i * record_bytes + m) bytes) table) e));
        }

    -- The table has no room for line `i`.
    pub keeping_full : {n : ℕ} → i < lines → n ≡ counted_length bytes (i * record_bytes) → table_bytes < to + n → (ls : List Line) → RecordsAre bytes lines ls → KeptAs ls start before table None
    keeping_full l e f ls r =
        let s = k.so_far ls r in
        (omega (arith, (next ls r l).needs_room), ap (drop table_bytes) s.stands ∙ drop_placed table_bytes start s.done before (omega (arith, k.fits, s.reached)) low)

    pub keeping_done : lines ≤ i → (ls : List Line) → RecordsAre bytes lines ls → KeptAs ls start before table (Some to)
    unfolding trimmed_lines
    keeping_done l ls r = go s.left s.counted s.split
      where
        s : KeptSoFar bytes before start ls table to i
        s = k.so_far ls r

        go : (left : List Line) → i + length left ≡ length ls → trimmed_lines ls ≡ s.done ++ trimmed_lines left → KeptAs ls start before table (Some to)
        go [] c e =
            let all : trimmed_lines ls ≡ s.done = e ∙ append-nil s.done in
            (omega (arith, s.reached, ap length all), k.fits, s.stands ∙ ap (λ d. placed start d before) (sym all))
        go (m ∷ left) c e = absurd (omega (arith, r.counted))
