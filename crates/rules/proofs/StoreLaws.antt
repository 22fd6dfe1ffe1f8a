-- What holds before each turn of the loop that stores the equations of a sheet: the rows passed have theirs.
use Prim.Native.Nat.{ℕ, ◌+◌, ◌-◌, ◌*◌, ◌≤◌, ◌<◌}
use mathlib.Core.Path.{◌≡◌, sym, ap, ap₂, subst, ◌∙◌}
use mathlib.Core.Option.{some}
use mathlib.Core.List.{List, ◌++◌, append_assoc}
use native.Mathlib.Omega.{arith}
use native.Mathlib.Decide.{dec_lt}
use lib.ListN.{length, take, drop, length-append, length-drop}
use lib.Seq.{take_at, take-add, take-append-add, drop_at, length-take-le}
use Rattle.format.specs.Buffer.{written}
use Rattle.format.specs.Limits.{max_symbols, position_count}
use Rattle.format.specs.Lists.{entry}
use Rattle.format.specs.Theory.Lists.{entry_length, every_entry}
use Rattle.terms.specs.Equation.{Equation}
use Rattle.terms.specs.Prefix.{equation_bytes}
use Rattle.terms.specs.ForContracts.Sizes.{Whole, Measurable, node_sizes}
use Rattle.terms.specs.ForContracts.Stored.{PartAt}
use Rattle.terms.specs.Theory.Limits.{positions_few}
use Rattle.bindings.specs.ForContracts.Equation.{equation_sizes}
use Rattle.bindings.specs.Theory.Equation.{length_nodes, length_sizes}
use Rattle.solve_equation.specs.Theory.Equation.{equation_whole, equation_measured}
use Rattle.sheet.specs.Sheet.{Sheet}
use Rattle.sheet.specs.Reading.{accepted, read}
use Rattle.sheet.specs.ForContracts.Valid.{ValidEquation}
use Rattle.sheet.specs.Theory.Accepted.{accepted_valid}
use Rattle.scanning.specs.declared.known.Known.{Known}
use Rattle.scanning.specs.ForContracts.Scan.{known_arities}
use Rattle.scanning.specs.ForContracts.Known.{KnowsSheet}
use Rattle.scanning.specs.Theory.Arities.{arities_taken}
use Rattle.reading.specs.ForContracts.Seek.{Accepts, EquationIn, Decoded}
use Rattle.reading.specs.Theory.Found.{equation_asked, equation_low}
use Rattle.rules.specs.ForContracts.Rows.{row_bytes, RowIs, RowsAre}

-- 1. The bytes from a row on, and others put in their place.
abbrev from_row : ℕ → List ℕ → List ℕ
from_row row xs = take (length xs - row) (drop row xs)

abbrev put_row : ℕ → (xs ys : List ℕ) → List ℕ
put_row row xs ys = take row xs ++ (ys ++ drop (length xs - row) (drop row xs))

length_from_row : (row : ℕ) (xs : List ℕ) → length (from_row row xs) ≡ length xs - row
length_from_row row xs = length-take-le (length xs - row) (drop row xs) (omega (arith, length-drop row xs))

module _ (row : ℕ) (xs ys : List ℕ) (low : row ≤ length xs) where
  abbrev last_part : List ℕ
  last_part = drop (length xs - row) (drop row xs)

  put_from : drop row (put_row row xs ys) ≡ ys ++ last_part
  put_from = drop_at (take row xs) (ys ++ last_part) row (length-take-le row xs low)

  put_part : {bs : List ℕ} (more : List ℕ) → ys ≡ bs ++ more → PartAt (put_row row xs ys) row bs
  put_part {bs} more e = record { rest = more ++ last_part; is = put_from ∙ (ap (◌++ last_part) e ∙ append_assoc bs more last_part) }

  -- What stands before the row stays.
  put_kept : {at : ℕ} {bs : List ℕ} → PartAt xs at bs → at + length bs ≤ row → PartAt (put_row row xs ys) at bs
  put_kept {at} {bs} p h =
      let more = row - (at + length bs) in
      let rest = take more p.rest in
      let n : row ≡ at + (length bs + more) = omega arith in
      let front : take row xs ≡ take at xs ++ (bs ++ rest) =
      ap (λ n. take n xs) n ∙ (take-add at (length bs + more) xs ∙ ap (take at xs ++◌) (ap (take (length bs + more)) p.is ∙ take-append-add bs p.rest more)) in
      record {
        rest = rest ++ (ys ++ last_part);
        is =
            ap (λ l. drop at (l ++ (ys ++ last_part))) front
            ∙ (ap (drop at) (append_assoc (take at xs) (bs ++ rest) (ys ++ last_part))
            ∙ (drop_at (take at xs) ((bs ++ rest) ++ (ys ++ last_part)) at (length-take-le at xs (omega arith))
            ∙ append_assoc bs rest (ys ++ last_part)));
      }

  module _ (same : length ys ≡ length (from_row row xs)) where
    put_length : length (put_row row xs ys) ≡ length xs
    put_length =
        length-append (take row xs) (ys ++ last_part)
        ∙ omega (arith, length-append ys last_part, length-take-le row xs low, length_from_row row xs, length-drop row xs, length-drop (length xs - row) (drop row xs))

    put_there : from_row row (put_row row xs ys) ≡ ys
    put_there = ap₂ (λ n l. take (n - row) l) put_length put_from ∙ take_at ys last_part (length xs - row) (same ∙ length_from_row row xs)

-- 2. The arities of an accepted sheet are few.
pub arities_few : {known : Known} {s : Sheet} → KnowsSheet known s → length (known_arities known) ≤ max_symbols
arities_few g = omega (arith, ap length g.arities_are, g.valid.symbols.few_symbols)

-- 3. An equation of the sheet.
module _ (sheet : List ℕ) (known : Known) (a : Accepts sheet known) (s : Sheet) (r : read sheet ≡ accepted s) where
  known_sheet : KnowsSheet known s
  known_sheet =
      let (t, u, g) = a in
      let e : accepted t ≡ accepted s = sym u ∙ r in
      let d : t ≡ s = cc in
      subst (KnowsSheet known) d g

  few_arities : length (known_arities known) ≤ max_symbols
  few_arities = arities_few known_sheet

  equation_valid : (i : ℕ) (q : Equation) → entry s.equations i ≡ some q → ValidEquation (known_arities known) q
  equation_valid i q x = subst (λ arities. ValidEquation arities q) (sym known_sheet.arities_are) (every_entry (ValidEquation s.arities) s.equations i (accepted_valid sheet s r).0.equations x)

-- 4. From row to row.
module _ (sheet : List ℕ) (known : Known) where
  pub record Storing (equations lengths : List ℕ) (e : ℕ) : Type 0 where
    pub equations_length : length equations ≡ row_bytes
    pub lengths_length : length lengths ≡ row_bytes
    pub stored : (s : Sheet) → read sheet ≡ accepted s → (i : ℕ) → i < e → (q : Equation) → entry s.equations i ≡ some q → RowIs equations lengths (known_arities known) i q

module _ {sheet : List ℕ} {known : Known} where
  pub none_stored : {equations lengths : List ℕ} → length equations ≡ row_bytes → length lengths ≡ row_bytes → Storing sheet known equations lengths 0
  none_stored x y = record { equations_length = x; lengths_length = y; stored = λ s r i h. absurd (omega arith) }

  module _ (a : Accepts sheet known) {equations lengths : List ℕ} {e : ℕ} (k : Storing sheet known equations lengths e) where
    pub all_stored : known.equations ≤ e → (s : Sheet) → read sheet ≡ accepted s → RowsAre equations lengths (known_arities known) s.equations
    all_stored h s r =
        let g = known_sheet sheet known a s r in
        record { few = g.valid.few_equations; row = λ i q x. k.stored s r i (omega (arith, g.equations_are, entry_length s.equations i x)) q x }

    module _ (there : e < known.equations) where
      abbrev this_row : ℕ
      this_row = e * position_count

      pub row_low : this_row + position_count ≤ row_bytes
      row_low = omega (arith, equation_low sheet known e a there)

      in_equations : this_row ≤ length equations
      in_equations = omega (arith, row_low, k.equations_length)

      in_lengths : this_row ≤ length lengths
      in_lengths = omega (arith, row_low, k.lengths_length)

      pub room_for_equation : position_count ≤ length (from_row this_row equations)
      room_for_equation = omega (arith, row_low, k.equations_length, length_from_row this_row equations)

      -- The bytes of the equation stand in its this-row.
      module _ {bytes : List ℕ} {n : ℕ} (same : length bytes ≡ length (from_row this_row equations)) (each : (q : Equation) → EquationIn sheet e q → Decoded (equation_bytes q) (from_row this_row equations) bytes n) where
        abbrev after : List ℕ
        after = put_row this_row equations bytes

        read_back : (q : Equation) → EquationIn sheet e q → take n (from_row this_row after) ≡ equation_bytes q
        unfolding written
        read_back q i =
            let (x, y) = each q i in
            ap (take n) (put_there this_row equations bytes in_equations same ∙ y) ∙ take_at (equation_bytes q) (drop (length (equation_bytes q)) (from_row this_row equations)) n (sym x)

        pub row_measurable : Measurable (take known.symbols known.arities) (from_row this_row after) (from_row this_row lengths) 0 n
        row_measurable =
            let (q, i) = equation_asked sheet known e a there in
            let (s, r, x) = i in
            let v = equation_valid sheet known a s r e q x in
            let count = (each q i).0 in
            let few = positions_few v.limits in
            let arities = arities_taken (known_sheet sheet known a s r).roomy (few_arities sheet known a s r) in
            record {
              ordered = omega arith;
              few = omega (arith, count, length_nodes q, few);
              nodes_room = omega (arith, count, length_nodes q, few, ap length (put_there this_row equations bytes in_equations same), same, room_for_equation);
              sizes_room = omega (arith, count, length_nodes q, few, row_low, k.lengths_length, length_from_row this_row lengths);
              terms = subst (λ l. Whole l (take n (from_row this_row after))) arities
                  (subst (Whole (known_arities known)) (sym (read_back q i)) (equation_whole (known_arities known) (few_arities sheet known a s r) q v.left_fits v.right_fits));
            }

        -- Its sizes too.
        module _ {sizes : List ℕ} (same_sizes : length sizes ≡ length (from_row this_row lengths))
            (filled : sizes ≡ node_sizes (take known.symbols known.arities) (take n (from_row this_row after)) ++ drop n (from_row this_row lengths)) where
          abbrev after_sizes : List ℕ
          after_sizes = put_row this_row lengths sizes

          equations_whole : length after ≡ row_bytes
          equations_whole = put_length this_row equations bytes in_equations same ∙ k.equations_length

          lengths_whole : length after_sizes ≡ row_bytes
          lengths_whole = put_length this_row lengths sizes in_lengths same_sizes ∙ k.lengths_length

          row_kept : (i : ℕ) (q : Equation) → i < e → RowIs equations lengths (known_arities known) i q → RowIs after after_sizes (known_arities known) i q
          row_kept i q h o =
              let few = positions_few o.limits in
              record {
                few_symbols = o.few_symbols;
                limits = o.limits;
                left_fits = o.left_fits;
                right_fits = o.right_fits;
                inside = o.inside;
                equations_length = equations_whole;
                lengths_length = lengths_whole;
                bytes = put_kept this_row equations bytes in_equations o.bytes (omega (arith, length_nodes q, few));
                measured = put_kept this_row lengths sizes in_lengths o.measured (omega (arith, length_sizes q, few));
              }

          row_stored : (s : Sheet) → read sheet ≡ accepted s → (q : Equation) → entry s.equations e ≡ some q → RowIs after after_sizes (known_arities known) e q
          unfolding written
          row_stored s r q x =
              let i : EquationIn sheet e q = (s, r, x) in
              let v = equation_valid sheet known a s r e q x in
              let few = few_arities sheet known a s r in
              let measured : node_sizes (take known.symbols known.arities) (take n (from_row this_row after)) ≡ equation_sizes q =
              ap₂ node_sizes (sym (arities_taken (known_sheet sheet known a s r).roomy (few_arities sheet known a s r))) (read_back q i) ∙ equation_measured (known_arities known) few q v.left_fits v.right_fits in
              record {
                few_symbols = few;
                limits = v.limits;
                left_fits = v.left_fits;
                right_fits = v.right_fits;
                inside = equation_low sheet known e a there;
                equations_length = equations_whole;
                lengths_length = lengths_whole;
                bytes = put_part this_row equations bytes in_equations (drop (length (equation_bytes q)) (from_row this_row equations)) (each q i).1;
                measured = put_part this_row lengths sizes in_lengths (drop n (from_row this_row lengths)) (filled ∙ ap (◌++ drop n (from_row this_row lengths)) measured);
              }

          pub one_more_stored : Storing sheet known after after_sizes (e + 1)
          one_more_stored = record { equations_length = equations_whole; lengths_length = lengths_whole; stored = λ s r i h q x. go s r i h q x (dec_lt i e) }
            where
              go : (s : Sheet) → read sheet ≡ accepted s → (i : ℕ) → i < e + 1 → (q : Equation) → entry s.equations i ≡ some q → Dec (i < e) → RowIs after after_sizes (known_arities known) i q
              go s r i h q x (yes l) = row_kept i q l (k.stored s r i l q x)
              go s r i h q x (no n) =
                  let d : e ≡ i = omega arith in
                  subst (λ i. RowIs after after_sizes (known_arities known) i q) d (row_stored s r q (ap (entry s.equations) d ∙ x))
