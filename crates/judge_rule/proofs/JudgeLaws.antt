-- The walks of all rules in order, where the lines of one are kept: what holds before each turn of the loop.
use Prim.Native.Nat.{ℕ, ◌+◌, ◌/◌, ◌≤◌, ◌<◌}
use mathlib.Core.Path.{◌≡◌, refl, ap, subst, ◌∙◌}
use mathlib.Core.Option.{some}
use mathlib.Core.List.{List}
use native.Mathlib.Omega.{arith}
use native.Mathlib.Decide.{ℕ_discrete}
use lib.ListN.{length, drop}
use Rattle.format.specs.Limits.{table_bytes}
use Rattle.format.specs.Lists.{entry}
use Rattle.format.specs.declared.refusal.Refusal.{Refusal}
use Rattle.terms.specs.Equation.{Equation}
use Rattle.terms.specs.declared.direction.Direction.{Direction}
use Rattle.solving.specs.Line.{Line}
use Rattle.solving.specs.Walk.{solve}
use Rattle.walking.specs.ForContracts.Walking.{memory_bytes}
use Rattle.line_bytes.specs.ForContracts.Layout.{placed}
use Rattle.line_bytes.specs.Theory.Placed.{placed_length, drop_placed}
use Rattle.solve_equation.specs.ForContracts.Reports.{Leaves}
use Rattle.reducing.specs.ForContracts.Rules.{rule_number}
use Rattle.reducing.specs.Walks.{equation_line}
use Rattle.kept_lines.specs.ForContracts.Trimmed.{trimmed_lines, RecordsAre, HasRecords, KeptAs}
use Rattle.rules.specs.ForContracts.Rows.{RowsAre, RuleIs, HasRows}
use Rattle.judge_rule.specs.ForContracts.Judgement.{JudgedAs}
use Rattle.reducing.specs.Theory.Walks.{SolvedBefore, refused_first, solved_all, none_refused}
use Rattle.reducing.specs.Theory.Rules.{rule_of, rule_below}
use Rattle.rules.specs.Theory.Rows.{rule_row, rule_there}
use Rattle.rules.specs.Theory.Kept.{leaves_refused, records_there}
use Rattle.rules.specs.Theory.Front.{KeptTo, front_fits, front_kept, walk_solves}
use Rattle.std.specs.Prelude.{Option as Maybe, Some, None, Result, Ok, Err}
use Rattle.solve_equation.specs.declared.positions.Solved.{Solved}

-- From rule to rule.
pub record JudgedSoFar (es : List Equation) (judged : ℕ) (table : List ℕ) (end rule : ℕ) : Type 0 where
  pub solve_below : SolvedBefore es rule
  pub kept : (i : ℕ) (e : Equation) (d : Direction) → entry es i ≡ some e → judged ≡ rule_number i d → judged < rule → KeptTo table end e d

module _ (equations lengths : List ℕ) (count judged : ℕ) (table₀ scratch₀ : List ℕ) where
  pub record Judging (table scratch : List ℕ) (end rule : ℕ) : Type 0 where
    pub table_length : length table ≡ length table₀
    pub scratch_length : length scratch ≡ length scratch₀
    pub table_behind : drop table_bytes table ≡ drop table_bytes table₀
    pub scratch_behind : drop memory_bytes scratch ≡ drop memory_bytes scratch₀
    pub so_far : (arities : List ℕ) (es : List Equation) → RowsAre equations lengths arities es → count ≡ length es → JudgedSoFar es judged table end rule

pub judging_start : (equations lengths : List ℕ) (count judged : ℕ) (table scratch : List ℕ) → Judging equations lengths count judged table scratch table scratch 0 0
judging_start equations lengths count judged table scratch = record {
  table_length = refl;
  scratch_length = refl;
  table_behind = refl;
  scratch_behind = refl;
  so_far = λ arities es rows c. record { solve_below = λ j q f x h. absurd (omega arith); kept = λ i e d x y h. absurd (omega arith) };
}

module _ {equations lengths : List ℕ} {count judged : ℕ} {table₀ scratch₀ table scratch : List ℕ} {end rule : ℕ} (k : Judging equations lengths count judged table₀ scratch₀ table scratch end rule) where
  pub judging_done : count + count ≤ rule → (arities : List ℕ) (es : List Equation) → RowsAre equations lengths arities es → count ≡ length es → JudgedAs es judged table (Ok end)
  judging_done h arities es rows c =
      let s = k.so_far arities es rows c in (
        none_refused 0 es (solved_all es (λ j q f x l. s.solve_below j q f x (omega arith))),
        λ i e d x y. s.kept i e d x y (omega (arith, rule_below es i d x)),
      )

  -- The walk of the rule.
  module _ (has : HasRows equations lengths count) (there : rule < count + count) {after : List ℕ} {told : Result Solved Refusal}
      (leaves : (arities : List ℕ) (i : ℕ) (e : Equation) (d : Direction) → RuleIs equations lengths arities rule i e d → Leaves (solve e d) after told) where
    pub judging_refused : {why : Refusal} → told ≡ Err why → (arities : List ℕ) (es : List Equation) → RowsAre equations lengths arities es → count ≡ length es
        → JudgedAs es judged table (Err (record { why = why; equation = rule / 2 }))
    judging_refused {why} x arities es rows c =
        let r = rule_of es rule (omega (arith, c)) in
        let is : RuleIs equations lengths arities rule r.number r.equation r.direction = record { row = rows.row r.number r.equation r.numbered; number = r.is } in
        let n : 0 + r.number ≡ rule / 2 = omega (arith, rule_row is) in
        refused_first 0 es r.number r.direction r.equation r.numbered (leaves_refused (leaves arities r.number r.equation r.direction is) x)
        (subst (SolvedBefore es) r.is (k.so_far arities es rows c).solve_below)
        ∙ ap (λ n. some (record { refusal = why; line = equation_line n })) n

    module _ {this_walk : Solved} (solves : told ≡ Ok this_walk) where
      pub judging_records : HasRecords after this_walk.lines
      judging_records =
          let this = rule_there has there in
          record { kept = _; are = records_there this.is.row.limits this.direction (leaves this.arities this.number this.equation this.direction this.is) solves }

      one_more_solves : (arities : List ℕ) (es : List Equation) → RowsAre equations lengths arities es → count ≡ length es → SolvedBefore es (rule + 1)
      one_more_solves arities es rows c j q f x h = elim (ℕ_discrete rule (rule_number j f)) [
        | yes y ↦ walk_solves (leaves arities j q f (record { row = rows.row j q x; number = y })) solves
        | no y ↦ (k.so_far arities es rows c).solve_below j q f x (omega arith)
      ]

      module _ (same_length : length after ≡ length scratch) (same_behind : drop memory_bytes after ≡ drop memory_bytes scratch) where
        pub judging_passed : (rule ≡ judged → ⊥) → Judging equations lengths count judged table₀ scratch₀ table after end (rule + 1)
        judging_passed other = record {
          table_length = k.table_length;
          scratch_length = same_length ∙ k.scratch_length;
          table_behind = k.table_behind;
          scratch_behind = same_behind ∙ k.scratch_behind;
          so_far = λ arities es rows c. record {
            solve_below = one_more_solves arities es rows c;
            kept = λ i e d x y h. (k.so_far arities es rows c).kept i e d x y (elim (ℕ_discrete rule judged) [ yes z ↦ absurd (other z) | no z ↦ omega arith ]);
          };
        }

        -- The lines of the judged rule are kept.
        module _ (room : table_bytes ≤ length table₀) (this : rule ≡ judged) (table' : List ℕ) (kept : Maybe ℕ)
            (keeps : (ls : List Line) → RecordsAre after this_walk.lines ls → KeptAs ls 0 table table' kept) where
          table_room : table_bytes ≤ length table
          table_room = omega (arith, k.table_length)

          pub never_full : kept ≡ None → ⊥
          never_full x =
              let r = rule_there has there in
              front_fits r.is.row.limits r.direction (leaves r.arities r.number r.equation r.direction r.is) solves table table_room table' kept keeps x

          module _ {last : ℕ} (ended : kept ≡ Some last) where
            kept_lines : (ls : List Line) → RecordsAre after this_walk.lines ls → (last ≡ 0 + length (trimmed_lines ls)) × (last ≤ table_bytes) × (table' ≡ placed 0 (trimmed_lines ls) table)
            kept_lines ls r = subst (KeptAs ls 0 table table') ended (keeps ls r)

            kept_rule : {arities : List ℕ} {i : ℕ} {e : Equation} {d : Direction} → RuleIs equations lengths arities rule i e d → KeptTo table' last e d
            kept_rule {arities} {i} {e} {d} is = front_kept is.row.limits d (leaves arities i e d is) solves table table_room table' kept keeps ended

            pub judging_kept : Judging equations lengths count judged table₀ scratch₀ table' after last (rule + 1)
            judging_kept =
                let records = judging_records in
                let (x, y, z) = kept_lines records.kept records.are in
                let part = trimmed_lines records.kept in
                record {
                  table_length = ap length z ∙ (placed_length 0 part table (omega (arith, table_room)) ∙ k.table_length);
                  scratch_length = same_length ∙ k.scratch_length;
                  table_behind = ap (drop table_bytes) z ∙ (drop_placed table_bytes 0 part table (omega arith) (omega arith) ∙ k.table_behind);
                  scratch_behind = same_behind ∙ k.scratch_behind;
                  so_far = λ arities es rows c. record {
                    solve_below = one_more_solves arities es rows c;
                    kept = λ i e d q r h. kept_rule (record { row = rows.row i e q; number = this ∙ r });
                  };
                }
