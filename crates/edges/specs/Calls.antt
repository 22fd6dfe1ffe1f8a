-- Outcomes of the calls at the edges of document 01, checked against the definitions by computation.
use Rattle.std.specs.Prelude.{ℕ, ◌+◌, ◌-◌, ◌*◌, ◌^◌, ◌≡◌, refl, Bool, true, false, ◌&&◌, length, replicate}
use Prim.Native.String.{String}
use Rattle.std.proofs.Common.{ap}
use mathlib.Core.List.{List, [], ◌∷◌, ◌++◌, flat_map}
use Rattle.std.proofs.Math.Dec.{leb}
use Rattle.format.specs.Limits.{table_bytes, scratch_bytes, term_bytes, log_bytes}
use Rattle.format.specs.Buffer.{written}
use Rattle.outcomes.specs.Buffer.{cleared, blanked}
use Rattle.outcomes.specs.Asked.{asked, comparison_task, Directed, direction_asked, judgement_task, reduction_task}
use Rattle.outcomes.specs.Outcome.{check_call, compare_answer, compare_call, TableOutcome, table_fits, directed_answer, directed_call, solve_directed, solve_call, always_directed, always_call, judge_answer, judge_call, run_fits, run_answer, run_call}
use Rattle.cases.specs.Checked.{lines}

abbrev P1_sheet : List String
P1_sheet = "0103000002" ∷ "02028081028180" ∷ "0305020100" ∷ "0400000001" ∷ "05020100020001" ∷ []

-- A successful check is 0.
check_P1 : check_call (lines P1_sheet) ≡ 0
unfolding check_call lines
check_P1 = refl

-- Every byte of scratch, once: "scratch's first 57,344 bytes are 00"; "Longer buffers are served and their excess is untouched."
compare_P1 : compare_call (lines P1_sheet) 2 (replicate 57346 0x55) ≡ record { returned = 2 * 2 ^ 8 + 3 * 2 ^ 24; scratch = replicate 57344 0 ++ replicate 2 0x55 }
unfolding compare_call lines
compare_P1 = refl

-- "11, a lent buffer is too short (line 0)", before 1 and 12.
compare_short : compare_call (lines P1_sheet) 2 (replicate 57343 0x55) ≡ record { returned = 11; scratch = replicate 57343 0x55 }
unfolding compare_call lines
compare_short = refl

compare_short_empty : compare_call [] 9 [] ≡ record { returned = 11; scratch = [] }
unfolding compare_call
compare_short_empty = refl

-- From here on lent buffers of any content and length: long enough, or too short where that is said.
compare_fits : (sheet : List ℕ) (task : ℕ) (scratch : List ℕ) {b : Bool} → leb scratch_bytes (length scratch) ≡ b → compare_call sheet task scratch ≡ compare_answer scratch (asked b sheet (comparison_task task))
unfolding compare_call
compare_fits sheet task scratch h = ap (λ b. compare_answer scratch (asked b sheet (comparison_task task))) h

pub directed_fits : (gives : Directed → TableOutcome) (sheet : List ℕ) (e d : ℕ) (table scratch : List ℕ) {b : Bool} → table_fits table scratch ≡ b
    → directed_call gives sheet e d table scratch ≡ directed_answer gives table scratch (asked b sheet (direction_asked e d))
unfolding directed_call
directed_fits gives sheet e d table scratch h = ap (λ b. directed_answer gives table scratch (asked b sheet (direction_asked e d))) h

pub solve_fits : (sheet : List ℕ) (e d : ℕ) (table scratch : List ℕ) {b : Bool} → table_fits table scratch ≡ b
    → solve_call sheet e d table scratch ≡ directed_answer (solve_directed e table scratch) table scratch (asked b sheet (direction_asked e d))
unfolding solve_call
solve_fits sheet e d table scratch h = directed_fits (solve_directed e table scratch) sheet e d table scratch h

always_fits : (sheet : List ℕ) (e d : ℕ) (table scratch : List ℕ) {b : Bool} → table_fits table scratch ≡ b
    → always_call sheet e d table scratch ≡ directed_answer (always_directed e table scratch) table scratch (asked b sheet (direction_asked e d))
unfolding always_call
always_fits sheet e d table scratch h = directed_fits (always_directed e table scratch) sheet e d table scratch h

judge_fits : (sheet : List ℕ) (task : ℕ) (table scratch : List ℕ) {b : Bool} → table_fits table scratch ≡ b → judge_call sheet task table scratch ≡ judge_answer table scratch (asked b sheet (judgement_task task))
unfolding judge_call
judge_fits sheet task table scratch h = ap (λ b. judge_answer table scratch (asked b sheet (judgement_task task))) h

run_fitting : (sheet : List ℕ) (task : ℕ) (table scratch term log : List ℕ) {b : Bool} → run_fits table scratch term log ≡ b
    → run_call sheet task table scratch term log ≡ run_answer table scratch term log (asked b sheet (reduction_task task))
unfolding run_call
run_fitting sheet task table scratch term log h = ap (λ b. run_answer table scratch term log (asked b sheet (reduction_task task))) h

module _ (scratch : List ℕ) (long : leb scratch_bytes (length scratch) ≡ true) where
  compare_empty : compare_call [] 9 scratch ≡ record { returned = 1; scratch = scratch }
  unfolding compare_call
  compare_empty = compare_fits [] 9 scratch long

  -- "12, no such equation, direction or task, or the task is of another kind (line 0)", after 1 to 7.
  compare_run : compare_call (lines P1_sheet) 0 scratch ≡ record { returned = 12; scratch = scratch }
  unfolding compare_call lines
  compare_run = compare_fits (lines P1_sheet) 0 scratch long

  compare_judgement : compare_call (lines P1_sheet) 1 scratch ≡ record { returned = 12; scratch = scratch }
  unfolding compare_call lines
  compare_judgement = compare_fits (lines P1_sheet) 1 scratch long

  compare_absent : compare_call (lines P1_sheet) 3 scratch ≡ record { returned = 12; scratch = scratch }
  unfolding compare_call lines
  compare_absent = compare_fits (lines P1_sheet) 3 scratch long

  compare_far : compare_call (lines P1_sheet) (2 ^ 64 - 1) scratch ≡ record { returned = 12; scratch = scratch }
  unfolding compare_call lines
  compare_far = compare_fits (lines P1_sheet) (2 ^ 64 - 1) scratch long

  compare_damaged : compare_call (lines ("0103000002" ∷ "02\r" ∷ [])) 9 scratch ≡ record { returned = 2 + 2 * 2 ^ 8; scratch = scratch }
  unfolding compare_call lines
  compare_damaged = compare_fits (lines ("0103000002" ∷ "02\r" ∷ [])) 9 scratch long

-- P11: each line's record, "12 binding positions" (document 02, W9), "(ff for none), element count, 40 pairs of positions (ff after the last)". x stands at 1, y at 2 and 4, ya at 3, a at 5.
unfoldable whole_record : List ℕ → List ℕ
whole_record bs = bs ++ replicate (93 - length bs) 0xff

abbrev P11_records : List (List ℕ)
P11_records =
    (0xff ∷ 0xff ∷ replicate 10 0xff ++ 1 ∷ 1 ∷ 3 ∷ [])
    ∷ (3 ∷ 0xff ∷ replicate 10 0xff ++ 0 ∷ [])
    ∷ (0xff ∷ 0xff ∷ replicate 10 0xff ++ 2 ∷ 1 ∷ 4 ∷ 1 ∷ 5 ∷ [])
    ∷ (5 ∷ 0xff ∷ replicate 10 0xff ++ 1 ∷ 1 ∷ 4 ∷ [])
    ∷ (0xff ∷ 0xff ∷ replicate 10 0xff ++ 2 ∷ 1 ∷ 4 ∷ 2 ∷ 5 ∷ [])
    ∷ (0xff ∷ 5 ∷ replicate 10 0xff ++ 1 ∷ 1 ∷ 4 ∷ [])
    ∷ (4 ∷ 0xff ∷ replicate 10 0xff ++ 1 ∷ 2 ∷ 5 ∷ [])
    ∷ []

-- The walk's limits. "9, a line beyond 40 elements": with c, a 4-ary g, product and d, x·d > g(y, z, u, v)·g(g(x, x, x, x), g(x, x, x, x), x, x) has a line of 40
-- elements, x bound to g(y, z, u, v); with g(x, w, c, c) for the last x it has 41. The equation x = x, number 00, is solved by either.
abbrev pub forty : List String
forty = "010400040200" ∷ "028080" ∷ "0202800302018182838401018080808001808080808080" ∷ []

abbrev forty_one : List String
forty_one = "010400040200" ∷ "028080" ∷ "020280030201818283840101808080800180808080800180850000" ∷ "030000" ∷ "050000" ∷ []

module _ (table scratch : List ℕ) where
  solve_short_table : leb table_bytes (length table) ≡ false → solve_call (lines P1_sheet) 0 0 table scratch ≡ record { returned = 11; table = table; scratch = scratch }
  unfolding solve_call lines table_fits
  solve_short_table short = solve_fits (lines P1_sheet) 0 0 table scratch (ap (λ b. b && leb scratch_bytes (length scratch)) short)

  module _ (table_long : leb table_bytes (length table) ≡ true) where
    solve_short_scratch : leb scratch_bytes (length scratch) ≡ false → solve_call (lines P1_sheet) 0 0 table scratch ≡ record { returned = 11; table = table; scratch = scratch }
    unfolding solve_call lines table_fits
    solve_short_scratch short = solve_fits (lines P1_sheet) 0 0 table scratch {b = false} (cc (table_long, short))

    module _ (scratch_long : leb scratch_bytes (length scratch) ≡ true) where
      fits : table_fits table scratch ≡ true
      unfolding table_fits
      fits = cc (table_long, scratch_long)

      -- Solve: "lines, turns". "solve's table holds its records, bytes beyond them unchanged". x > y at positions 1 and 4.
      solve_P1 : solve_call (lines P1_sheet) 0 0 table scratch
          ≡ record { returned = 1 * 2 ^ 8 + 8 * 2 ^ 24; table = written (replicate 12 0xff ++ 1 ∷ 1 ∷ 4 ∷ replicate 78 0xff) table; scratch = cleared scratch }
      unfolding solve_call lines
      solve_P1 = solve_fits (lines P1_sheet) 0 0 table scratch fits

      -- Direction 01: y > x at positions 4 and 1.
      solve_P1_back : solve_call (lines P1_sheet) 0 1 table scratch
          ≡ record { returned = 1 * 2 ^ 8 + 8 * 2 ^ 24; table = written (replicate 12 0xff ++ 1 ∷ 4 ∷ 1 ∷ replicate 78 0xff) table; scratch = cleared scratch }
      unfolding solve_call lines
      solve_P1_back = solve_fits (lines P1_sheet) 0 1 table scratch fits

      solve_P11 : solve_call (lines ("01020200" ∷ "02008081008101" ∷ [])) 0 0 table scratch
          ≡ record { returned = 7 * 2 ^ 8 + 8 * 2 ^ 24; table = written (flat_map whole_record P11_records) table; scratch = cleared scratch }
      unfolding solve_call lines flat_map whole_record
      solve_P11 = solve_fits (lines ("01020200" ∷ "02008081008101" ∷ [])) 0 0 table scratch fits

      solve_absent_equation : solve_call (lines P1_sheet) 1 0 table scratch ≡ record { returned = 12; table = table; scratch = scratch }
      unfolding solve_call lines
      solve_absent_equation = solve_fits (lines P1_sheet) 1 0 table scratch fits

      solve_absent_direction : solve_call (lines P1_sheet) 0 2 table scratch ≡ record { returned = 12; table = table; scratch = scratch }
      unfolding solve_call lines
      solve_absent_direction = solve_fits (lines P1_sheet) 0 2 table scratch fits

      -- Always (W6): "Its fields are 1 or 0, and the turns taken by then. Table bytes are left ff, scratch 00." xa > x and, after as many turns as solve takes, xy > yx.
      always_P7 : always_call (lines ("0103000002" ∷ "0202800080" ∷ [])) 0 0 table scratch ≡ record { returned = 1 * 2 ^ 8 + 1 * 2 ^ 24; table = blanked table; scratch = cleared scratch }
      unfolding always_call lines
      always_P7 = always_fits (lines ("0103000002" ∷ "0202800080" ∷ [])) 0 0 table scratch fits

      always_P1 : always_call (lines P1_sheet) 0 0 table scratch ≡ record { returned = 8 * 2 ^ 24; table = blanked table; scratch = cleared scratch }
      unfolding always_call lines
      always_P1 = always_fits (lines P1_sheet) 0 0 table scratch fits

      always_absent_equation : always_call (lines P1_sheet) 1 0 table scratch ≡ record { returned = 12; table = table; scratch = scratch }
      unfolding always_call lines
      always_absent_equation = always_fits (lines P1_sheet) 1 0 table scratch fits

      always_forty_one : always_call (lines forty_one) 1 0 table scratch ≡ record { returned = 9 + 3 * 2 ^ 8; table = blanked table; scratch = cleared scratch }
      unfolding always_call lines
      always_forty_one = always_fits (lines forty_one) 1 0 table scratch fits

      -- Judge: "1 or 0, first holding line counted from 1 or 0"; "judge and run leave the table's first" 23,715 (document 02, W9) "bytes ff".
      judge_P1 : judge_call (lines P1_sheet) 1 table scratch ≡ record { returned = 0; table = blanked table; scratch = cleared scratch }
      unfolding judge_call lines
      judge_P1 = judge_fits (lines P1_sheet) 1 table scratch fits

      judge_second : judge_call (lines ("0103000002" ∷ "0202808000" ∷ "04000000" ∷ [])) 0 table scratch
          ≡ record { returned = 1 * 2 ^ 8 + 2 * 2 ^ 24; table = blanked table; scratch = cleared scratch }
      unfolding judge_call lines
      judge_second = judge_fits (lines ("0103000002" ∷ "0202808000" ∷ "04000000" ∷ [])) 0 table scratch fits

      judge_comparison : judge_call (lines P1_sheet) 2 table scratch ≡ record { returned = 12; table = table; scratch = scratch }
      unfolding judge_call lines
      judge_comparison = judge_fits (lines P1_sheet) 2 table scratch fits

      -- "Refusals 8 to 10 leave" 23,715 (W9) "table bytes ff and 57,344 scratch bytes 00, other buffers unchanged". "The line is the equation's."
      solve_forty_one : solve_call (lines forty_one) 1 0 table scratch ≡ record { returned = 9 + 3 * 2 ^ 8; table = blanked table; scratch = cleared scratch }
      unfolding solve_call lines
      solve_forty_one = solve_fits (lines forty_one) 1 0 table scratch fits

      -- "Judge and run first walk every equation and direction in order; solve only its own." Check and compare walk nothing.
      solve_beside : solve_call (lines forty_one) 0 0 table scratch ≡ record { returned = 1 * 2 ^ 24; table = table; scratch = cleared scratch }
      unfolding solve_call lines
      solve_beside = solve_fits (lines forty_one) 0 0 table scratch fits

      module _ (term log : List ℕ) where
        run_short_term : leb term_bytes (length term) ≡ false
            → run_call (lines P1_sheet) 0 table scratch term log ≡ record { returned = 11; table = table; scratch = scratch; term = term; log = log }
        unfolding run_call lines run_fits
        run_short_term short = run_fitting (lines P1_sheet) 0 table scratch term log {b = false} (cc (fits, short))

        module _ (term_long : leb term_bytes (length term) ≡ true) where
          run_short_log : leb log_bytes (length log) ≡ false
              → run_call (lines P1_sheet) 0 table scratch term log ≡ record { returned = 11; table = table; scratch = scratch; term = term; log = log }
          unfolding run_call lines run_fits
          run_short_log short = run_fitting (lines P1_sheet) 0 table scratch term log {b = false} (cc (fits, term_long, short))

          module _ (log_long : leb log_bytes (length log) ≡ true) where
            run_fit : run_fits table scratch term log ≡ true
            unfolding run_fits
            run_fit = cc (fits, term_long, log_long)

            -- Run: "steps, ending, bytes of the term"; "term and log hold the result first, the rest unchanged".
            run_P1 : run_call (lines P1_sheet) 0 table scratch term log
                ≡ record {
                  returned = 1 * 2 ^ 8 + 0 * 2 ^ 24 + 3 * 2 ^ 40;
                  table = blanked table;
                  scratch = cleared scratch;
                  term = written (2 ∷ 0 ∷ 1 ∷ []) term;
                  log = written (0 ∷ 0 ∷ 0 ∷ []) log;
                }
            unfolding run_call lines
            run_P1 = run_fitting (lines P1_sheet) 0 table scratch term log run_fit

            run_judgement : run_call (lines P1_sheet) 1 table scratch term log ≡ record { returned = 12; table = table; scratch = scratch; term = term; log = log }
            unfolding run_call lines
            run_judgement = run_fitting (lines P1_sheet) 1 table scratch term log run_fit

            run_forty_one : run_call (lines forty_one) 0 table scratch term log
                ≡ record { returned = 9 + 3 * 2 ^ 8; table = blanked table; scratch = cleared scratch; term = term; log = log }
            unfolding run_call lines
            run_forty_one = run_fitting (lines forty_one) 0 table scratch term log run_fit

            -- "12; then the walk"
            run_absent : run_call (lines forty_one) 2 table scratch term log ≡ record { returned = 12; table = table; scratch = scratch; term = term; log = log }
            unfolding run_call lines
            run_absent = run_fitting (lines forty_one) 2 table scratch term log run_fit

check_forty_one : check_call (lines forty_one) ≡ 0
unfolding check_call lines
check_forty_one = refl

compare_forty_one : (scratch : List ℕ) → leb scratch_bytes (length scratch) ≡ true → compare_call (lines forty_one) 1 scratch ≡ record { returned = 1 * 2 ^ 8; scratch = cleared scratch }
unfolding compare_call lines
compare_forty_one scratch long = compare_fits (lines forty_one) 1 scratch long
