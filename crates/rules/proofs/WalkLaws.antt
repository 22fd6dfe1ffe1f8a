-- The walks of all rules in order: the first that is refused; and the lines of those that solve, kept one behind the other.
use Prim.Native.Nat.{ℕ, suc, ◌+◌, ◌*◌, ◌/◌, ◌≤◌, ◌<◌}
use mathlib.Core.Path.{◌≡◌, refl, sym, ap, ap₂, subst, ◌∙◌}
use mathlib.Core.Bool.{Bool, true, false}
use mathlib.Core.Option.{none, some}
use mathlib.Core.List.{List, ◌++◌}
use native.Mathlib.Omega.{arith}
use native.Mathlib.Decide.{dec_lt}
use lib.ListN.{length, get_or, set, take, drop, length-set}
use lib.Seq.{slice, length-take-le, take-append-le, take-take, get_or-set_same, get_or-set_other}
use Rattle.format.specs.Limits.{table_bytes}
use Rattle.format.specs.Lists.{entry}
use Rattle.format.specs.declared.refusal.Refusal.{Refusal}
use Rattle.format.specs.Theory.Lists.{entry_length}
use Rattle.terms.specs.Equation.{Equation}
use Rattle.terms.specs.declared.direction.Direction.{Direction}
use Rattle.solving.specs.Walk.{Solves}
use Rattle.walking.specs.ForContracts.Walking.{memory_bytes}
use Rattle.line_bytes.specs.ForContracts.Layout.{placed}
use Rattle.line_bytes.specs.Theory.Placed.{placed_length, drop_placed, slice_placed}
use Rattle.reducing.specs.Test.{EverySolves}
use Rattle.reducing.specs.ForContracts.Rules.{rule_number}
use Rattle.reducing.specs.Walks.{equation_line, first_refusal}
use Rattle.reducing.specs.Theory.Walks.{SolvedBefore, refused_first, solved_all, none_refused}
use Rattle.reducing.specs.Theory.Rules.{RuleOf, rule_low, rule_of, rule_parts}
use Rattle.kept_lines.specs.ForContracts.Trimmed.{trimmed_lines}
use Rattle.rules.specs.ForContracts.Rows.{RowsAre, RuleIs, HasRows, bound_count}
use Rattle.rules.specs.ForContracts.Walks.{RuleKeptAs, RuleAt, RulesAt, WalksAs}
use Rattle.rules.specs.Theory.Rows.{rule_in, this_rule}
use Rattle.std.specs.Prelude.{Option as Maybe, Some, None, Result, Ok, Err}

-- 1. A part that is put into the table: what stands before it and behind it stays.
module _ (at : ℕ) (part buffer : List ℕ) (room : at + length part ≤ length buffer) where
  slice_before : (f t : ℕ) → t ≤ at → slice f t (placed at part buffer) ≡ slice f t buffer
  unfolding placed
  slice_before f t h =
      ap (drop f)
      (take-append-le t (take at buffer) (part ++ drop (at + length part) buffer) (omega (arith, length-take-le at buffer (omega arith))) ∙ take-take t at buffer h)

  module _ (bounds : List ℕ) (rule bound : ℕ) where
    rule_stays : {k : ℕ} {e : Equation} {d : Direction} → RuleAt bounds buffer k e d → get_or bounds (suc k) 0 ≤ at → k < rule
        → RuleAt (set bounds (rule + 1) bound) (placed at part buffer) k e d
    rule_stays {k} r h l =
        let x = get_or-set_other bounds (rule + 1) k bound 0 (λ e. omega arith) in
        let y = get_or-set_other bounds (rule + 1) (suc k) bound 0 (λ e. omega arith) in
        record {
          lines = r.lines;
          are = r.are;
          there = record {
            ends = omega (arith, x, y, r.there.ends);
            room = omega (arith, y, r.there.room);
            table_room = omega (arith, r.there.table_room, placed_length at part buffer room);
            there = ap₂ (λ a b. slice a b (placed at part buffer)) x y ∙ (slice_before (get_or bounds k 0) (get_or bounds (suc k) 0) h ∙ r.there.there);
          };
        }

-- 2. The loop. The rules before `rule` solve. If they fit, their lines stand in the table up to `start`.
pub record WalkedTo (bounds table : List ℕ) (fits : Bool) (start rule : ℕ) (es : List Equation) : Type 0 where
  pub solve : SolvedBefore es rule
  pub kept : fits ≡ true → (i : ℕ) (e : Equation) (d : Direction) → entry es i ≡ some e → rule_number i d < rule
      → RuleAt bounds table (rule_number i d) e d × (get_or bounds (suc (rule_number i d)) 0 ≤ start)

module _ (equations lengths : List ℕ) (count : ℕ) (table₀ scratch₀ : List ℕ) where
  pub record Walking (bounds table scratch : List ℕ) (fits : Bool) (start rule : ℕ) : Type 0 where
    pub bounds_length : length bounds ≡ bound_count
    pub table_length : length table ≡ length table₀
    pub scratch_length : length scratch ≡ length scratch₀
    pub within : start ≤ table_bytes
    pub reached : fits ≡ true → get_or bounds rule 0 ≡ start
    pub table_behind : drop table_bytes table ≡ drop table_bytes table₀
    pub scratch_behind : drop memory_bytes scratch ≡ drop memory_bytes scratch₀
    pub so_far : (arities : List ℕ) (es : List Equation) → RowsAre equations lengths arities es → count ≡ length es → WalkedTo bounds table fits start rule es

  -- One rule is walked.
  pub record Turn (bounds table scratch : List ℕ) (fits : Bool) (start rule : ℕ) (kept : Result (Maybe ℕ) Refusal) (after_table after_scratch : List ℕ) : Type 0 where
    pub has : HasRows equations lengths count
    pub low : rule < count + count
    pub room : table_bytes ≤ length table₀
    pub walking : Walking bounds table scratch fits start rule
    pub answer : (arities : List ℕ) (i : ℕ) (e : Equation) (d : Direction) → RuleIs equations lengths arities rule i e d → RuleKeptAs e d start table after_table kept
    pub same_table : length after_table ≡ length table
    pub same_scratch : length after_scratch ≡ length scratch
    pub scratch_rest : drop memory_bytes after_scratch ≡ drop memory_bytes scratch

  pub walking_start : (bounds : List ℕ) → length bounds ≡ bound_count → Walking (set bounds 0 0) table₀ scratch₀ true 0 0
  walking_start bounds h = record {
    bounds_length = length-set bounds 0 0 ∙ h;
    table_length = refl;
    scratch_length = refl;
    within = omega arith;
    reached = λ f. get_or-set_same bounds 0 0 0 (omega arith);
    table_behind = refl;
    scratch_behind = refl;
    so_far = λ arities es r c. record { solve = λ i e d x l. absurd (omega arith); kept = λ f i e d x l. absurd (omega arith) };
  }

module _ {equations lengths : List ℕ} {count : ℕ} (has : HasRows equations lengths count) {rule : ℕ} (low : rule < count + count) where
  pub next_bound : rule + 1 < bound_count
  next_bound = omega (arith, has.counted, has.are.few)

module _ {equations lengths : List ℕ} {count : ℕ} {table₀ scratch₀ bounds table scratch : List ℕ} {fits : Bool} {start rule : ℕ} {kept : Result (Maybe ℕ) Refusal} {after_table after_scratch : List ℕ}
    (t : Turn equations lengths count table₀ scratch₀ bounds table scratch fits start rule kept after_table after_scratch) where
  kept_as : {answer : Result (Maybe ℕ) Refusal} → kept ≡ answer → {arities : List ℕ} {es : List Equation} → RowsAre equations lengths arities es → (i : ℕ) (e : Equation) (d : Direction)
      → entry es i ≡ some e → rule ≡ rule_number i d → RuleKeptAs e d start table after_table answer
  kept_as y {arities} r i e d x z = subst (RuleKeptAs e d start table after_table) y (t.answer arities i e d (rule_in r x z))

  abbrev this : RuleOf t.has.those rule
  this = this_rule t.has t.low

  this_kept : {answer : Result (Maybe ℕ) Refusal} → kept ≡ answer → RuleKeptAs this.equation this.direction start table after_table answer
  this_kept y = kept_as y t.has.are this.number this.equation this.direction this.numbered this.is

  -- A walk that is refused is the first.
  pub walk_refused : {why : Refusal} → kept ≡ Err why → (arities : List ℕ) (es : List Equation) → RowsAre equations lengths arities es → count ≡ length es
      → first_refusal 0 es ≡ some (record { refusal = why; line = equation_line (rule / 2) })
  walk_refused {why} y arities es r c =
      let o = rule_of es rule (omega (arith, t.low)) in
      let half : 0 + o.number ≡ rule / 2 = omega (arith, (rule_parts rule o.number o.direction o.is).0) in
      refused_first 0 es o.number o.direction o.equation o.numbered (kept_as y r o.number o.equation o.direction o.numbered o.is).0
      (λ j f d x l. (t.walking.so_far arities es r c).solve j f d x (omega (arith, o.is)))
      ∙ ap (λ n. some (record { refusal = why; line = equation_line n })) half

  pub refused_behind : {why : Refusal} → kept ≡ Err why → drop table_bytes after_table ≡ drop table_bytes table₀
  refused_behind y = ap (drop table_bytes) (this_kept y).1 ∙ t.walking.table_behind

  one_more_solves : {arities : List ℕ} {es : List Equation} → RowsAre equations lengths arities es → count ≡ length es
      → ((i : ℕ) (e : Equation) (d : Direction) → entry es i ≡ some e → rule ≡ rule_number i d → Solves e d) → SolvedBefore es (rule + 1)
  one_more_solves {arities} {es} r c s i e d x l = elim (dec_lt (rule_number i d) rule) [
    | yes m ↦ (t.walking.so_far arities es r c).solve i e d x m
    | no n ↦ s i e d x (omega arith)
  ]

  walking_full : kept ≡ Ok None → Walking equations lengths count table₀ scratch₀ (set bounds (rule + 1) 0) after_table after_scratch false 0 (rule + 1)
  walking_full y = record {
    bounds_length = length-set bounds (rule + 1) 0 ∙ t.walking.bounds_length;
    table_length = t.same_table ∙ t.walking.table_length;
    scratch_length = t.same_scratch ∙ t.walking.scratch_length;
    within = omega arith;
    reached = λ f. let z : ◌≡◌ {A = ℕ} 0 1 = cc in absurd (omega arith);
    table_behind = (this_kept y).2 ∙ t.walking.table_behind;
    scratch_behind = t.scratch_rest ∙ t.walking.scratch_behind;
    so_far = λ arities es r c. record {
      solve = one_more_solves r c (λ i e d x z. (kept_as y r i e d x z).0);
      kept = λ f. let z : ◌≡◌ {A = ℕ} 0 1 = cc in absurd (omega arith);
    };
  }

  -- Once the lines did not fit, those of one rule are kept at the front, where the next rule's are put too.
  module _ {end : ℕ} (y : kept ≡ Ok (Some end)) (next : ℕ) (ends : fits ≡ true → next ≡ end) (low_next : next ≤ table_bytes) where
    abbrev after_bounds : List ℕ
    after_bounds = set bounds (rule + 1) next

    abbrev placed_lines : List ℕ
    placed_lines = trimmed_lines (this_kept y).1

    placed_room : start + length placed_lines ≤ length table
    placed_room = let (s, ls, are, e, l, p) = this_kept y in omega (arith, t.walking.table_length, t.room)

    after_is : after_table ≡ placed start placed_lines table
    after_is = let (s, ls, are, e, l, p) = this_kept y in p

    end_is : end ≡ start + length placed_lines
    end_is = let (s, ls, are, e, l, p) = this_kept y in e

    bound_low : rule + 1 < length bounds
    bound_low = omega (arith, t.walking.bounds_length, next_bound t.has t.low)

    rule_earlier : fits ≡ true → (i : ℕ) (e : Equation) (d : Direction) → rule_number i d < rule → RuleAt bounds table (rule_number i d) e d
        → get_or bounds (suc (rule_number i d)) 0 ≤ start → RuleAt after_bounds after_table (rule_number i d) e d × (get_or after_bounds (suc (rule_number i d)) 0 ≤ next)
    rule_earlier f i e d l a b = (
      subst (λ t. RuleAt after_bounds t (rule_number i d) e d) (sym after_is) (rule_stays start placed_lines table placed_room bounds rule next a b l),
      omega (arith, get_or-set_other bounds (rule + 1) (suc (rule_number i d)) next 0 (λ e. omega arith), ends f, end_is),
    )

    rule_kept : fits ≡ true → {arities : List ℕ} {es : List Equation} → RowsAre equations lengths arities es → (i : ℕ) (e : Equation) (d : Direction) → entry es i ≡ some e
        → rule ≡ rule_number i d → RuleAt after_bounds after_table (rule_number i d) e d × (get_or after_bounds (suc (rule_number i d)) 0 ≤ next)
    rule_kept f r i e d x z =
        let (s, ls, are, size, low, put) = kept_as y r i e d x z in
        let part = trimmed_lines ls in
        let n : suc (rule_number i d) ≡ rule + 1 = omega arith in
        let from_is : get_or after_bounds (rule_number i d) 0 ≡ start =
        ap (λ n. get_or after_bounds n 0) (sym z) ∙ (get_or-set_other bounds (rule + 1) rule next 0 (λ e. omega arith) ∙ t.walking.reached f) in
        let next_is : get_or after_bounds (suc (rule_number i d)) 0 ≡ next = ap (λ n. get_or after_bounds n 0) n ∙ get_or-set_same bounds (rule + 1) next 0 bound_low in
        let room_is : start + length part ≤ length table = omega (arith, t.walking.table_length, t.room) in (
          record {
            lines = ls;
            are = are;
            there = record {
              ends = omega (arith, from_is, next_is, ends f);
              room = omega (arith, next_is);
              table_room = omega (arith, t.same_table, t.walking.table_length, t.room);
              there =
                  ap₂ (λ a b. slice a b after_table) from_is (next_is ∙ (ends f ∙ size))
                  ∙ (ap (slice start (start + length part)) put ∙ slice_placed start part table room_is);
            };
          },
          omega (arith, next_is),
        )

    walking_end : Walking equations lengths count table₀ scratch₀ after_bounds after_table after_scratch fits next (rule + 1)
    walking_end = record {
      bounds_length = length-set bounds (rule + 1) next ∙ t.walking.bounds_length;
      table_length = t.same_table ∙ t.walking.table_length;
      scratch_length = t.same_scratch ∙ t.walking.scratch_length;
      within = low_next;
      reached = λ f. get_or-set_same bounds (rule + 1) next 0 bound_low;
      table_behind =
          ap (drop table_bytes) after_is
          ∙ (drop_placed table_bytes start placed_lines table (let r = placed_room in omega arith) (let (s, ls, are, e, l, p) = this_kept y in omega arith) ∙ t.walking.table_behind);
      scratch_behind = t.scratch_rest ∙ t.walking.scratch_behind;
      so_far = λ arities es r c. record {
        solve = one_more_solves r c (λ i e d x z. (kept_as y r i e d x z).0);
        kept = λ f i e d x l. elim (dec_lt (rule_number i d) rule) [
          | yes m ↦ let (a, b) = (t.walking.so_far arities es r c).kept f i e d x m in rule_earlier f i e d m a b
          | no n ↦ rule_kept f r i e d x (omega arith)
        ];
      };
    }

  -- The three ways on.
  abbrev Next : (fits : Bool) (start : ℕ) → Type 0
  Next on next = Walking equations lengths count table₀ scratch₀ (set bounds (rule + 1) next) after_table after_scratch on next (rule + 1)

  pub turn_full : kept ≡ Ok None → {on : Bool} {next : ℕ} → on ≡ false → next ≡ 0 → Next on next
  turn_full y {on} {next} a b = subst (λ o. Next o next) (sym a) (subst (Next false) (sym b) (walking_full y))

  pub turn_kept : {end : ℕ} → kept ≡ Ok (Some end) → {on : Bool} {next : ℕ} → on ≡ fits → next ≡ end → Next on next
  turn_kept {end} y {on} {next} a b = subst (λ o. Next o next) (sym a) (walking_end y next (λ f. b) (let (s, ls, are, e, l, p) = this_kept y in omega arith))

  pub turn_unkept : {end : ℕ} → kept ≡ Ok (Some end) → {on : Bool} {next : ℕ} → on ≡ fits → fits ≡ false → next ≡ start → Next on next
  turn_unkept y {on} {next} a n b =
      subst (λ o. Next o next) (sym a) (walking_end y next (λ f. let z : ◌≡◌ {A = ℕ} 0 1 = cc in absurd (omega arith)) (omega (arith, t.walking.within)))

-- All rules are walked.
module _ {equations lengths : List ℕ} {count : ℕ} {table₀ scratch₀ bounds table scratch : List ℕ} {fits : Bool} {start rule : ℕ} (w : Walking equations lengths count table₀ scratch₀ bounds table scratch fits start rule)
    (all : count + count ≤ rule) (arities : List ℕ) (es : List Equation) (r : RowsAre equations lengths arities es) (c : count ≡ length es) where
  pub all_solve : (first_refusal 0 es ≡ none) × EverySolves es
  all_solve =
      let s : SolvedBefore es (2 * length es) = λ i e d x l. (w.so_far arities es r c).solve i e d x (omega arith) in
      let all = solved_all es s in (none_refused 0 es all, all)

  pub all_kept : fits ≡ true → RulesAt bounds table es
  all_kept f i e d x = ((w.so_far arities es r c).kept f i e d x (omega (arith, rule_low i d (entry_length es i x)))).0

  pub all_walked : WalksAs es bounds table (Ok fits)
  all_walked = go fits refl
    where
      go : (b : Bool) → fits ≡ b → WalksAs es bounds table (Ok b)
      go false h = all_solve
      go true h = (all_solve.0, all_solve.1, all_kept h)
