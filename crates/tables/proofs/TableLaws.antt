-- A rule's walk, and what its table prints.
use Prim.Native.Nat.{ℕ, suc, ◌+◌, ◌-◌, ◌*◌, ◌/◌, ◌%◌, ◌≤◌, ◌<◌}
use mathlib.Core.Path.{◌≡◌, refl, sym, ap, ap₂, subst, ◌∙◌}
use mathlib.Core.Option.{some}
use mathlib.Core.List.{List, [], ◌∷◌, ◌++◌, map}
use native.Mathlib.Omega.{arith}
use native.Mathlib.Decide.{ℕ_discrete}
use native.Mathlib.Nat.{min-le_right}
use lib.ListN.{length, get_or, take, drop, length-take, length-drop}
use lib.Seq.{take-suc, get_or-drop}
use Rattle.format.specs.Limits.{max_equations, max_lines, record_bytes}
use Rattle.format.specs.declared.refusal.Refusal.{Refusal}
use Rattle.format.specs.Lists.{entry}
use Rattle.format.specs.Theory.Lists.{every_entry}
use Rattle.terms.specs.Equation.{Equation}
use Rattle.terms.specs.declared.direction.Direction.{Direction}
use Rattle.terms.specs.ForContracts.Limits.{positions}
use Rattle.solving.specs.Line.{Bindings, Element, Line, line, records}
use Rattle.solving.specs.Theory.Records.{length_records}
use Rattle.solving.specs.Walk.{solved, solve}
use Rattle.solving.proofs.Theory.Solve.{solved_lines}
use Rattle.std.specs.Prelude.{Result, Ok, Err}
use Rattle.solve_equation.specs.declared.positions.Solved.{Solved}
use Rattle.solve_equation.specs.ForContracts.Reports.{LeavesSolved, Leaves}
use Rattle.reducing.specs.Test.{EverySolves, BothSolve}
use Rattle.reducing.specs.ForContracts.Rules.{rule_number}
use Rattle.reducing.specs.Theory.Rules.{RuleOf, rule_of, rule_low, rule_parts}
use Rattle.rules.specs.ForContracts.Rows.{RuleIs, RowsAre, HasRuleIn}
use Rattle.listing.specs.Listing.{table_kind, printed, two_bytes, table_frames, line_frame}
use Rattle.rules.specs.Theory.Rows.{row_start, rule_in}
use Rattle.rules.specs.Theory.Kept.{leaves_refused, leaves_solved, sides_there}
use Rattle.listing.specs.ForContracts.Appended.{Appended}
use Rattle.listing.specs.Theory.Printed.{printed_append, length_printed_one}
use Rattle.listing.specs.Theory.Appended.{appended_none, appended_join, appended_text}
use Rattle.frames.specs.ForContracts.Room.{table_room, line_room}
use Rattle.frames.specs.ForContracts.Line.{LineRecord, HasLineRecord}
use Rattle.cursor.specs.declared.place.Place.TheVariants.{Line as LinePlace}
use Rattle.cursor.specs.ForContracts.Rest.{rule_frames}
use Rattle.cursor.specs.ForContracts.Stands.{LinesThere}
use Rattle.cursor.specs.Theory.Rest.{rule_frames_are}
use Rattle.tables.specs.ForContracts.Table.{TableGiven, LinesGiven}
use Rattle.tables.proofs.RecordLaws.{LineAt, line_at, record_there}
use Rattle.tables.specs.Theory.Tables.{frames_count}

-- What the walk of a rule ensures.
abbrev LeavesRule : (equations lengths : List ℕ) (rule : ℕ) (memory : List ℕ) → Result Solved Refusal → Type 0
LeavesRule equations lengths rule memory told = (arities : List ℕ) (i : ℕ) (e : Equation) (d : Direction) → RuleIs equations lengths arities rule i e d → Leaves (solve e d) memory told

-- 1. The first frame of a table.
module _ {equations lengths : List ℕ} {rule : ℕ} (has : HasRuleIn equations lengths rule) (memory : List ℕ) (told : Result Solved Refusal) (leaves : LeavesRule equations lengths rule memory told) where
  pub rule_few : rule < 2 * max_equations
  rule_few = omega (arith, has.is.number, rule_low has.number has.direction has.is.row.inside)

  pub lines_few : {walked : Solved} → told ≡ Ok walked → walked.lines ≤ max_lines
  lines_few e = (leaves_solved (leaves has.arities has.number has.equation has.direction has.is) e).3

module _ {equations lengths : List ℕ} {rule : ℕ} (memory : List ℕ) (told : Result Solved Refusal) (leaves : LeavesRule equations lengths rule memory told)
    {arities : List ℕ} (es : List Equation) (rows : RowsAre equations lengths arities es) (low : rule < 2 * length es) where
  this : RuleOf es rule
  this = rule_of es rule low

  leaves_it : (i : ℕ) (e : Equation) (d : Direction) → entry es i ≡ some e → rule ≡ rule_number i d → Leaves (solve e d) memory told
  leaves_it i e d x y = leaves arities i e d (rule_in rows x y)

  pub never_refused : {why : Refusal} → EverySolves es → told ≡ Err why → ⊥
  never_refused {why} s e =
      let o = this in
      let a = every_entry BothSolve es o.number s o.numbered o.direction in
      let b = leaves_refused (leaves_it o.number o.equation o.direction o.numbered o.is) e in
      let w = a.walked in
      let z : ◌≡◌ {A = ℕ} 0 1 = cc in
      omega arith

  module _ {walked : Solved} (e : told ≡ Ok walked) where
    solved_ends : (i : ℕ) (q : Equation) (d : Direction) → entry es i ≡ some q → rule ≡ rule_number i d → LeavesSolved (solve q d) memory walked
    solved_ends i q d x y = leaves_solved (leaves_it i q d x y) e

    its_ends : LeavesSolved (solve this.equation this.direction) memory walked
    its_ends = solved_ends this.number this.equation this.direction this.numbered this.is

    its_lines : LinesThere es rule walked.lines memory
    its_lines = record {
      low = low;
      few = its_ends.3;
      there = λ i q d x y. let s = solved_ends i q d x y in (s.0, walked.turns, s.1, s.2, s.4);
    }

    abbrev first_frame : List ℕ
    first_frame = table_kind ∷ rule / 2 ∷ rule % 2 ∷ walked.lines ∷ two_bytes walked.turns

    frames_are : rule_frames 0 es rule ≡ first_frame ∷ map (line_frame this.equation) its_ends.0
    unfolding table_frames
    frames_are =
        let o = this in
        let s = its_ends in
        let (p, q) = rule_parts rule o.number o.direction o.is in
        let rest = map (line_frame o.equation) s.0 in
        ap (rule_frames 0 es) o.is
        ∙ (rule_frames_are es o.number o.direction o.numbered
        ∙ (ap (table_frames o.number o.equation o.direction) s.1
        ∙ ap₂ (λ a b. (table_kind ∷ a ∷ b ∷ length s.0 ∷ two_bytes walked.turns) ∷ rest) (sym p) (sym q)
        ∙ ap (λ n. (table_kind ∷ rule / 2 ∷ rule % 2 ∷ n ∷ two_bytes walked.turns) ∷ rest) (sym s.2)))

    pub table_given : {before after : List ℕ} {bytes : ℕ} → table_room ≤ length before → Appended before 0 (printed (first_frame ∷ [])) after bytes
        → TableGiven es rule memory before after (record { next = LinePlace rule 0 walked.lines; bytes = bytes })
    unfolding two_bytes
    table_given h a = record {
      lines = walked.lines;
      next = refl;
      records_there = its_lines;
      first = first_frame;
      others = map (line_frame this.equation) its_ends.0;
      frames_are = frames_are;
      appended = a;
      within = omega (arith, a.ends, a.same_length, length_printed_one first_frame);
    }

-- 2. A line of a table.
module _ {equations lengths : List ℕ} {rule k : ℕ} {scratch arities : List ℕ} {es : List Equation} {lines : ℕ} (rows : RowsAre equations lengths arities es) (l : LinesThere es rule lines scratch)
    (h : k < lines) where
  abbrev pub of_line : RuleOf es rule
  of_line = rule_of es rule l.low

  pub its_rule : RuleIs equations lengths arities rule of_line.number of_line.equation of_line.direction
  its_rule = rule_in rows of_line.numbered of_line.is

  its_walk : (ls : List Line) × (turns : ℕ) × (solve of_line.equation of_line.direction ≡ solved ls turns) × (lines ≡ length ls) × (take (lines * record_bytes) scratch ≡ records ls)
  its_walk = l.there of_line.number of_line.equation of_line.direction of_line.numbered of_line.is

  it : LineAt (positions of_line.equation) its_walk.0 k
  it =
      let (ls, turns, x, y, z) = its_walk in
      line_at (positions of_line.equation) ls (solved_lines of_line.equation its_rule.row.limits of_line.direction ls turns x) k (omega arith)

  pub record_room : k * record_bytes + record_bytes ≤ length scratch
  record_room =
      let (ls, turns, x, y, z) = its_walk in
      let k = length_records (positions of_line.equation) ls (solved_lines of_line.equation its_rule.row.limits of_line.direction ls turns x) in
      omega (arith, length-take (lines * record_bytes) scratch, ap length z, k, y, min-le_right (lines * record_bytes) (length scratch))

  frame_is : get_or (rule_frames 0 es rule) (suc k) [] ≡ line_frame of_line.equation (line it.bindings it.elements)
  unfolding table_frames
  frame_is =
      let (ls, turns, x, y, z) = its_walk in
      ap (λ r. get_or (rule_frames 0 es r) (suc k) []) of_line.is
      ∙ (ap (λ fs. get_or fs (suc k) []) (rule_frames_are es of_line.number of_line.direction of_line.numbered ∙ ap (table_frames of_line.number of_line.equation of_line.direction) x)
      ∙ it.frame of_line.equation)

  module _ {first second : ℕ} (x : first ≡ get_or lengths (row_start rule) 0) (y : second ≡ get_or lengths (row_start rule + first) 0) where
    abbrev row_nodes : ℕ
    row_nodes = row_start rule + first + second - row_start rule

    line_record : LineRecord (take (k * record_bytes + record_bytes - k * record_bytes) (drop (k * record_bytes) scratch)) (take row_nodes (drop (row_start rule) equations)) (take row_nodes (drop (row_start rule) lengths))
        of_line.equation it.bindings it.elements
    line_record = record { sides = sides_there its_rule x y; written = it.written; is = record_there (lines * record_bytes) scratch its_walk.4 it }

    pub line_has : HasLineRecord (take (k * record_bytes + record_bytes - k * record_bytes) (drop (k * record_bytes) scratch)) (take row_nodes (drop (row_start rule) equations)) (take row_nodes (drop (row_start rule) lengths))
    line_has = record { equation = of_line.equation; bindings = it.bindings; elements = it.elements; this = line_record }

    pub line_printed : {before after : List ℕ} {at bytes : ℕ}
        → ((e : Equation) (θ : Bindings) (els : List Element) → LineRecord (take (k * record_bytes + record_bytes - k * record_bytes) (drop (k * record_bytes) scratch)) (take row_nodes (drop (row_start rule) equations)) (take row_nodes (drop (row_start rule) lengths)) e θ els
        → Appended before at (printed (line_frame e (line θ els) ∷ [])) after bytes)
        → Appended before at (printed (get_or (rule_frames 0 es rule) (suc k) [] ∷ [])) after bytes
    line_printed p = appended_text (ap (λ f. printed (f ∷ [])) (sym frame_is)) (p of_line.equation it.bindings it.elements line_record)

-- 3. The lines from `first` to line `k` are printed.
module _ (equations lengths : List ℕ) (rule first lines : ℕ) (scratch before : List ℕ) where
  pub record LinesPassed (out : List ℕ) (at k : ℕ) : Type 0 where
    pub from_first : first ≤ k
    pub not_more : k ≤ lines
    pub at_first : k ≡ first → at ≡ 0
    pub same_length : length out ≡ length before
    pub within : at ≤ length before
    pub so_far : (arities : List ℕ) (es : List Equation) → RowsAre equations lengths arities es → LinesThere es rule lines scratch
        → Appended before 0 (printed (take (k - first) (drop (suc first) (rule_frames 0 es rule)))) out at

pub no_line_passed : (equations lengths : List ℕ) (rule first lines : ℕ) (scratch before : List ℕ) → first < lines → LinesPassed equations lengths rule first lines scratch before before 0 first
unfolding printed
no_line_passed equations lengths rule first lines scratch before h = record {
  from_first = omega arith;
  not_more = omega arith;
  at_first = λ e. refl;
  same_length = refl;
  within = omega arith;
  so_far = λ arities es rows there.
      let z : first - first ≡ 0 = omega arith in
      appended_text (ap (λ n. printed (take n (drop (suc first) (rule_frames 0 es rule)))) (sym z)) (appended_none before 0);
}

module _ {equations lengths : List ℕ} {rule first lines : ℕ} {scratch before out : List ℕ} {at k : ℕ} (p : LinesPassed equations lengths rule first lines scratch before out at k) where
  pub line_passed : {after : List ℕ} {end : ℕ} → k < lines → at + line_room ≤ length out → end ≤ at + line_room → length after ≡ length out
      → ((arities : List ℕ) (es : List Equation) (lines : ℕ) → RowsAre equations lengths arities es → LinesThere es rule lines scratch → k < lines
      → Appended out at (printed (get_or (rule_frames 0 es rule) (suc k) [] ∷ [])) after end)
      → LinesPassed equations lengths rule first lines scratch before after end (k + 1)
  line_passed {after} {end} h room low same x = record {
    from_first = omega (arith, p.from_first);
    not_more = omega arith;
    at_first = λ e. absurd (omega (arith, p.from_first));
    same_length = same ∙ p.same_length;
    within = omega (arith, p.same_length);
    so_far = next;
  }
    where
      next : (arities : List ℕ) (es : List Equation) → RowsAre equations lengths arities es → LinesThere es rule lines scratch
          → Appended before 0 (printed (take (k + 1 - first) (drop (suc first) (rule_frames 0 es rule)))) after end
      next arities es rows there =
          let fs = rule_frames 0 es rule in
          let rest = drop (suc first) fs in
          let n = k - first in
          let m : k + 1 - first ≡ suc n = omega (arith, p.from_first) in
          let far : suc first + n ≡ suc k = omega (arith, p.from_first) in
          let many : n < length rest = omega (arith, length-drop (suc first) fs, frames_count there, p.from_first) in
          let this : get_or rest n [] ≡ get_or fs (suc k) [] = get_or-drop (suc first) fs n [] ∙ ap (λ j. get_or fs j []) far in
          let text : printed (take n rest) ++ printed (get_or fs (suc k) [] ∷ []) ≡ printed (take (k + 1 - first) rest) =
          sym (printed_append (take n rest) (get_or fs (suc k) [] ∷ []))
          ∙ ap printed (ap (λ f. take n rest ++ (f ∷ [])) (sym this) ∙ (sym (take-suc rest n [] many) ∙ ap (λ j. take j rest) (sym m))) in
          appended_text text (appended_join (printed (take n rest)) (printed (get_or fs (suc k) [] ∷ [])) (p.so_far arities es rows there) (x arities es lines rows there h))

  -- There is room for the first line.
  pub begun : line_room ≤ length before → length out < at + line_room → first < k
  begun room full = elim (ℕ_discrete k first) [ yes e ↦ absurd (omega (arith, p.at_first e, p.same_length)) | no n ↦ omega (arith, p.from_first) ]

  pub lines_given : first < k → (arities : List ℕ) (es : List Equation) → RowsAre equations lengths arities es → LinesThere es rule lines scratch
      → LinesGiven es rule first lines before out (record { next = k; bytes = at })
  lines_given h arities es rows there = record { some = h; not_more = p.not_more; appended = p.so_far arities es rows there; within = omega (arith, p.within, p.same_length) }

  pub all_given : lines ≤ k → first < lines → (arities : List ℕ) (es : List Equation) → RowsAre equations lengths arities es → LinesThere es rule lines scratch
      → LinesGiven es rule first lines before out (record { next = lines; bytes = at })
  all_given all more arities es rows there =
      let e : k ≡ lines = omega (arith, p.not_more) in
      subst (λ n. LinesGiven es rule first lines before out (record { next = n; bytes = at })) e (lines_given (omega (arith, p.not_more)) arities es rows there)
