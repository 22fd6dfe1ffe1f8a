-- The search rule by rule: the first node at which a side matches, the first at which a rule can step, and the first step of all.
use Prim.Native.Nat.{ℕ, ◌+◌, ◌-◌, ◌≤◌, ◌<◌}
use mathlib.Core.Path.{◌≡◌, refl, sym, ap, ap₂, subst, ◌∙◌}
use mathlib.Core.Bool.{Bool, true, false}
use mathlib.Core.Option.{Option, none, some}
use Rattle.std.specs.Prelude.{Option as Maybe, Some, None, Result, Ok, Err, MatchOption}
use Rattle.format.specs.declared.refusal.Refusal.{Refusal}
use Rattle.step_by_position.specs.declared.positions.FoundStep.{FoundStep}
use mathlib.Core.List.{List, ◌++◌}
use native.Mathlib.Omega.{arith}
use native.Mathlib.Decide.{dec_lt}
use lib.ListN.{length, get_or, drop, replicate, length-replicate}
use lib.Seq.{slice}
use Rattle.format.specs.Limits.{table_bytes, scratch_bytes, variable_count, position_count, node_count, cell_count}
use Rattle.format.specs.Lists.{entry}
use Rattle.format.specs.Theory.Lists.{entry_length, every_entry}
use Rattle.format.specs.Theory.Behind.{behind_more, cells_behind}
use Rattle.terms.specs.Term.{Term, size, sizes}
use Rattle.terms.specs.Filling.{filling}
use Rattle.terms.specs.Equation.{Equation, source}
use Rattle.terms.specs.declared.direction.Direction.{Direction}
use Rattle.terms.specs.declared.arguments.Arguments.{Arguments}
use Rattle.terms.specs.ForContracts.Stored.{SubjectIs}
use Rattle.reducing.specs.Match.{Match, no_match, match}
use Rattle.reducing.specs.Run.{Step, try, step}
use Rattle.reducing.specs.Test.{line_test, BothSolve}
use Rattle.reducing.specs.ForContracts.Rules.{rule_number}
use Rattle.reducing.proofs.Theory.First.{step_none, step_first}
use Rattle.reducing.specs.ForContracts.Part.{part_at}
use Rattle.reducing.specs.Theory.Rules.{rule_of, rule_low}
use Rattle.reducing.proofs.Theory.Step.{none_matches}
use Rattle.cells.specs.Theory.Cells.{none_ready, zero_bytes}
use Rattle.step_match.specs.ForContracts.Matching.{Matched, SidePart}
use Rattle.walking.specs.ForContracts.Walking.{memory_bytes}
use Rattle.line_bytes.specs.Theory.Placed.{placed_length, drop_placed, slice_placed}
use Rattle.kept_lines.specs.declared.trimmed.KeptLines.{KeptLines}
use Rattle.kept_lines.specs.ForContracts.Trimmed.{trimmed_lines}
use Rattle.rules.specs.ForContracts.Rows.{SideIs}
use Rattle.rules.specs.ForContracts.Walks.{RuleKeptAs}
use Rattle.rules.specs.Theory.Rows.{rule_in}
use Rattle.step_try.specs.ForContracts.Trying.{Settled, Applies, TryIs}
use Rattle.step_try.specs.Theory.Parts.{side_part as matched_part}
use Rattle.step_by_position.specs.ForContracts.Searching.{StepAt, FoundIs}
use Rattle.step_by_rule.specs.ForContracts.Rulewise.{MatchesFrom, FirstMatch, FirstStep, SourceIs, FirstFor, KeptTry, HasKeptTry, UnkeptTry, HasUnkeptTry, AllSolve, HasAllSolve}

-- 1. The first node at which a side matches.
pub record Seeking (equations : List ℕ) (side : Arguments) (nodes sizes : List ℕ) (end node : ℕ) : Type 0 where
  pub low : position_count ≤ node
  pub within : node ≤ end
  pub none_before : (arities : List ℕ) (s subject : Term) → SourceIs equations side nodes sizes end arities s subject → (p : ℕ) → position_count + p < node
      → match s (part_at subject p) no_match ≡ none

pub side_part : {equations : List ℕ} {side : Arguments} {nodes sizes : List ℕ} {end : ℕ} {arities : List ℕ} {s subject : Term} → SourceIs equations side nodes sizes end arities s subject
    → (node : ℕ) → position_count ≤ node → node < end → SidePart equations side nodes sizes node arities s (part_at subject (node - position_count))
side_part i node h l = matched_part i.side_is i.subject_is (omega (arith, i.inside)) (omega arith)

not_matched : (nodes sizes arities values : List ℕ) {r : Bool} (o : Option Match) → Matched nodes sizes arities o values r → r ≡ false → o ≡ none
not_matched nodes sizes arities values none m h = refl
not_matched nodes sizes arities values (some x) m h = let q = m.0 in let z : ◌≡◌ {A = ℕ} 0 1 = cc in absurd (omega arith)

pub seeking_start : {equations : List ℕ} {side : Arguments} {nodes sizes : List ℕ} {end : ℕ} → position_count ≤ end → Seeking equations side nodes sizes end position_count
seeking_start h = record { low = omega arith; within = h; none_before = λ arities s subject i p l. absurd (omega arith) }

module _ {equations : List ℕ} {side : Arguments} {nodes sizes : List ℕ} {end node : ℕ} (k : Seeking equations side nodes sizes end node) where
  pub seeking_next : (values : List ℕ) (r : Bool) → node < end
      → ((arities : List ℕ) (s t : Term) → SidePart equations side nodes sizes node arities s t → Matched nodes sizes arities (match s t no_match) values r) → r ≡ false
      → Seeking equations side nodes sizes end (node + 1)
  seeking_next values r l a h = record { low = omega (arith, k.low); within = omega arith; none_before = none_before }
    where
      none_before : (arities : List ℕ) (s subject : Term) → SourceIs equations side nodes sizes end arities s subject → (p : ℕ) → position_count + p < node + 1
          → match s (part_at subject p) no_match ≡ none
      none_before arities s subject i p m = elim (dec_lt (position_count + p) node) [
        | yes b ↦ k.none_before arities s subject i p b
        | no n ↦
            let e : node - position_count ≡ p = omega (arith, k.low) in
            subst (λ p. match s (part_at subject p) no_match ≡ none) e
            (not_matched nodes sizes arities values (match s (part_at subject (node - position_count)) no_match) (a arities s (part_at subject (node - position_count)) (side_part i node k.low l)) h)
      ]

  pub seeking_found : node < end → (arities : List ℕ) (s subject : Term) → SourceIs equations side nodes sizes end arities s subject → FirstMatch s subject end (Some node)
  seeking_found l arities s subject i = (l, record { within = k.within; low = k.low; none_before = k.none_before arities s subject i })

  pub seeking_done : end ≤ node → (arities : List ℕ) (s subject : Term) → SourceIs equations side nodes sizes end arities s subject → FirstMatch s subject end None
  seeking_done h arities s subject i = record { within = omega arith; low = i.low; none_before = λ p l. k.none_before arities s subject i p (omega arith) }

pub matched_from : {s subject : Term} {end node : ℕ} {r : Maybe ℕ} → FirstMatch s subject end r → r ≡ Some node → MatchesFrom s subject end node
matched_from {s} {subject} {end} m e = (subst (FirstMatch s subject end) e m).1

pub matched_nowhere : {s subject : Term} {end : ℕ} {r : Maybe ℕ} → FirstMatch s subject end r → r ≡ None → MatchesFrom s subject end end
matched_nowhere {s} {subject} {end} m e = subst (FirstMatch s subject end) e m

-- 2. The first node at which a rule can step.
module _ (equations lengths : List ℕ) (rule : ℕ) (table : List ℕ) (lines : KeptLines) (nodes₀ sizes₀ : List ℕ) (from end : ℕ) where
  pub record Trying (nodes sizes ready cells : List ℕ) (node : ℕ) : Type 0 where
    pub low : from ≤ node
    pub within : node ≤ end
    pub settled : Settled nodes sizes ready cells
    pub same : (arities : List ℕ) (subject : Term) → SubjectIs nodes₀ sizes₀ arities subject → SubjectIs nodes sizes arities subject
    pub none_before : (arities : List ℕ) (i : ℕ) (e : Equation) (d : Direction) (subject : Term) → KeptTry equations lengths rule table lines nodes₀ sizes₀ from end arities i e d subject
        → (p : ℕ) → position_count + p < node → try (filling arities) line_test subject p (part_at subject p) i e d ≡ none

pub subject_settled : {nodes sizes arities cells ready : List ℕ} {subject : Term} → SubjectIs nodes sizes arities subject → length cells ≡ cell_count → ready ≡ replicate node_count 0
    → Settled nodes sizes ready cells
subject_settled {ready = ready} s c r = record {
  values = replicate variable_count 0;
  are = none_ready s.nodes_length s.sizes_length (length-replicate {A = ℕ} variable_count 0) (ap length r ∙ length-replicate {A = ℕ} node_count 0) c s.symbols
      (λ k. ap (λ l. get_or l k 0) r ∙ zero_bytes node_count k);
}

module _ {equations lengths : List ℕ} {rule : ℕ} {table : List ℕ} {lines : KeptLines} {nodes₀ sizes₀ : List ℕ} {from end : ℕ} where
  pub trying_start : {ready cells : List ℕ} → HasKeptTry equations lengths rule table lines nodes₀ sizes₀ from end → length cells ≡ cell_count → ready ≡ replicate node_count 0
      → Trying equations lengths rule table lines nodes₀ sizes₀ from end nodes₀ sizes₀ ready cells from
  trying_start h c r = record {
    low = omega arith;
    within = h.is.ordered;
    settled = subject_settled h.is.subject_is c r;
    same = λ arities subject s. s;
    none_before = λ arities i e d subject t. t.none_before;
  }

  module _ {nodes sizes ready cells : List ℕ} {node : ℕ} (k : Trying equations lengths rule table lines nodes₀ sizes₀ from end nodes sizes ready cells node) where
    pub try_here : {arities : List ℕ} {i : ℕ} {e : Equation} {d : Direction} {subject : Term} → node < end → KeptTry equations lengths rule table lines nodes₀ sizes₀ from end arities i e d subject
        → TryIs equations lengths rule table lines nodes sizes node arities i e d subject (node - position_count)
    try_here {arities} {subject = subject} l t = record {
      rule_is = t.rule_is;
      kept = t.kept;
      kept_are = t.kept_are;
      kept_there = t.kept_there;
      subject_is = k.same arities subject t.subject_is;
      inside = omega (arith, t.low, k.low, t.inside);
      there = omega (arith, t.low, k.low);
    }

    module _ (l : node < end) {r : Bool}
        (a : (arities : List ℕ) (i : ℕ) (e : Equation) (d : Direction) (subject : Term) (p : ℕ) → TryIs equations lengths rule table lines nodes sizes node arities i e d subject p → Applies (filling arities) subject p i e d r) where
      pub trying_next : {nodes' sizes' ready' cells' : List ℕ} → r ≡ false → Settled nodes' sizes' ready' cells'
          → ((arities : List ℕ) (subject : Term) → SubjectIs nodes sizes arities subject → SubjectIs nodes' sizes' arities subject)
          → Trying equations lengths rule table lines nodes₀ sizes₀ from end nodes' sizes' ready' cells' (node + 1)
      trying_next h s same = record {
        low = omega (arith, k.low);
        within = omega arith;
        settled = s;
        same = λ arities subject i. same arities subject (k.same arities subject i);
        none_before = λ arities i e d subject t p m. elim (dec_lt (position_count + p) node) [
          | yes b ↦ k.none_before arities i e d subject t p b
          | no n ↦
              let z : node - position_count ≡ p = omega (arith, t.low, k.low) in
              subst (λ p. try (filling arities) line_test subject p (part_at subject p) i e d ≡ none) z ((a arities i e d subject (node - position_count) (try_here l t)).cannot h)
        ];
      }

      pub trying_found : r ≡ true → (arities : List ℕ) (i : ℕ) (e : Equation) (d : Direction) (subject : Term) → KeptTry equations lengths rule table lines nodes₀ sizes₀ from end arities i e d subject
          → FirstStep arities subject i e d end (Some node)
      trying_found h arities i e d subject t =
          let (s, x) = (a arities i e d subject (node - position_count) (try_here l t)).can h in
          (l, record { within = k.within; none_before = k.none_before arities i e d subject t; can = λ l. (node - position_count, s, omega (arith, t.low, k.low), x) })

    module _ (h : HasKeptTry equations lengths rule table lines nodes₀ sizes₀ from end) where
      pub trying_nodes : length nodes ≡ length nodes₀
      trying_nodes = (k.same h.arities h.subject h.is.subject_is).nodes_length ∙ sym h.is.subject_is.nodes_length

      pub trying_sizes : length sizes ≡ length sizes₀
      trying_sizes = (k.same h.arities h.subject h.is.subject_is).sizes_length ∙ sym h.is.subject_is.sizes_length

    pub trying_done : end ≤ node → (arities : List ℕ) (i : ℕ) (e : Equation) (d : Direction) (subject : Term) → KeptTry equations lengths rule table lines nodes₀ sizes₀ from end arities i e d subject
        → FirstStep arities subject i e d end None
    trying_done h arities i e d subject t =
        record { within = omega arith; none_before = λ p l. k.none_before arities i e d subject t p (omega arith); can = λ l. absurd (omega arith) }

-- 3. A rule whose lines are not kept.
module _ {equations lengths : List ℕ} {rule : ℕ} {nodes sizes : List ℕ} {end : ℕ} {arities : List ℕ} {i : ℕ} {e : Equation} {d : Direction} {subject : Term}
    (u : UnkeptTry equations lengths rule nodes sizes end arities i e d subject) where
  pub none_for : ((p : ℕ) → position_count + p < end → try (filling arities) line_test subject p (part_at subject p) i e d ≡ none) → FirstFor arities subject i e d end end
  none_for h = record { within = omega arith; none_before = h; can = λ l. absurd (omega arith) }

  pub no_step : {r : Maybe ℕ} → r ≡ None → FirstFor arities subject i e d end end → FirstStep arities subject i e d end r
  no_step n f = subst (FirstStep arities subject i e d end) (sym n) f

  pub source_there : {side : Arguments} → SideIs equations lengths arities side (source e d) → SourceIs equations side nodes sizes end arities (source e d) subject
  source_there s = record { lengths = lengths; side_is = s; subject_is = u.subject_is; low = u.low; inside = u.inside }

  -- At the front of the table there is room, and the walk solves.
  pub kept_ends : (table after : List ℕ) (r : Result (Maybe ℕ) Refusal) → RuleKeptAs e d 0 table after r → (last : ℕ) × (r ≡ Ok (Some last))
  kept_ends table after (Err why) (x, y) = let s = u.solves.walked in let z : ◌≡◌ {A = ℕ} 0 1 = cc in absurd (omega arith)
  kept_ends table after (Ok None) (s, h, y) = absurd (omega arith)
  kept_ends table after (Ok (Some last)) k = (last, refl)

  pub room_there : {kept : Maybe ℕ} (table after : List ℕ) (r : Result (Maybe ℕ) Refusal) → RuleKeptAs e d 0 table after r → r ≡ Ok kept → kept ≡ None → ⊥
  room_there table after r k x y = let (last, z) = kept_ends table after r k in let w : ◌≡◌ {A = ℕ} 0 1 = cc in omega arith

  pub kept_at_front : (table after : List ℕ) {last from : ℕ} {r : Result (Maybe ℕ) Refusal} → table_bytes ≤ length table → RuleKeptAs e d 0 table after r → r ≡ Ok (Some last) → MatchesFrom (source e d) subject end from
      → KeptTry equations lengths rule after (record { from = 0; end = last }) nodes sizes from end arities i e d subject
  kept_at_front table after {last} room k y m =
      let (s, ls, are, x, low, put) = subst (RuleKeptAs e d 0 table after) y k in
      let part = trimmed_lines ls in
      let size : last ≡ length part = omega arith in
      let room_is : 0 + length part ≤ length table = omega arith in
      record {
        rule_is = u.rule_is;
        kept = ls;
        kept_are = are;
        kept_there = record {
          ends = x;
          room = low;
          table_room = omega (arith, ap length put, placed_length 0 part table room_is);
          there = ap₂ (slice 0) x put ∙ slice_placed 0 part table room_is;
        };
        subject_is = u.subject_is;
        low = m.low;
        ordered = m.within;
        inside = u.inside;
        none_before = λ p l. none_matches (filling arities) subject p i e d (m.none_before p l);
      }

-- The lines of a rule are kept at the front of the table, and what is behind the table stays.
pub front_behind : {equations lengths : List ℕ} {rule : ℕ} {nodes sizes : List ℕ} {end : ℕ} (h : HasUnkeptTry equations lengths rule nodes sizes end) (table after : List ℕ) (r : Result (Maybe ℕ) Refusal)
    → table_bytes ≤ length table → RuleKeptAs h.equation h.direction 0 table after r → drop table_bytes after ≡ drop table_bytes table
front_behind h table after r room k =
    let (last, y) = kept_ends h.is table after r k in
    let (s, ls, are, x, low, put) = subst (RuleKeptAs h.equation h.direction 0 table after) y k in
    ap (drop table_bytes) put ∙ drop_placed table_bytes 0 (trimmed_lines ls) table (omega arith) (omega arith)

-- A walk's memory and the cells are at the front of scratch.
pub scratch_after_walk : (before after : List ℕ) → drop memory_bytes after ≡ drop memory_bytes before → drop scratch_bytes after ≡ drop scratch_bytes before
scratch_after_walk before after h = behind_more scratch_bytes memory_bytes after before (omega arith) h

pub scratch_after_cells : (cells walked : List ℕ) → length cells ≡ cell_count → drop scratch_bytes (cells ++ drop cell_count walked) ≡ drop scratch_bytes walked
scratch_after_cells cells walked h = cells_behind walked cells h

-- 4. The first step of all. The rules before `rule` cannot step before node `best`; the rule that is found, if there is one, can step there, and none before it can.
pub record FoundHere (arities : List ℕ) (es : List Equation) (subject : Term) (best found : ℕ) : Type 0 where
  pub number : ℕ
  pub equation : Equation
  pub direction : Direction
  pub position : ℕ
  pub this : Step
  pub rule_is : found ≡ rule_number number direction
  pub node_is : best ≡ position_count + position
  pub inside : position < size subject
  pub numbered : entry es number ≡ some equation
  pub possible : try (filling arities) line_test subject position (part_at subject position) number equation direction ≡ some this
  pub none_earlier : (j : ℕ) (e : Equation) (c : Direction) → entry es j ≡ some e → rule_number j c < found → try (filling arities) line_test subject position (part_at subject position) j e c ≡ none

pub record FoundTo (arities : List ℕ) (es : List Equation) (subject : Term) (best : ℕ) (found : Maybe FoundStep) (rule : ℕ) : Type 0 where
  pub none_before : (p j : ℕ) (e : Equation) (c : Direction) → position_count + p < best → entry es j ≡ some e → rule_number j c < rule
      → try (filling arities) line_test subject p (part_at subject p) j e c ≡ none
  pub here : MatchOption found (position_count + size subject ≤ best) (λ step. (step.node ≡ best) × FoundHere arities es subject best step.rule)

module _ (equations lengths : List ℕ) (rules : ℕ) (nodes₀ sizes₀ : List ℕ) (n : ℕ) (table₀ scratch₀ : List ℕ) where
  pub record Finding (table nodes sizes scratch : List ℕ) (best : ℕ) (found : Maybe FoundStep) (rule : ℕ) : Type 0 where
    pub table_length : length table ≡ length table₀
    pub scratch_length : length scratch ≡ length scratch₀
    pub table_behind : drop table_bytes table ≡ drop table_bytes table₀
    pub scratch_behind : drop scratch_bytes scratch ≡ drop scratch_bytes scratch₀
    pub same : (arities : List ℕ) (subject : Term) → SubjectIs nodes₀ sizes₀ arities subject → SubjectIs nodes sizes arities subject
    pub low : position_count ≤ best
    pub within : best ≤ position_count + n
    pub so_far : (arities : List ℕ) (es : List Equation) (subject : Term) → AllSolve equations lengths rules nodes₀ sizes₀ n arities es subject → FoundTo arities es subject best found rule

  pub finding_start : Finding table₀ nodes₀ sizes₀ scratch₀ (position_count + n) None 0
  finding_start = record {
    table_length = refl;
    scratch_length = refl;
    table_behind = refl;
    scratch_behind = refl;
    same = λ arities subject s. s;
    low = omega arith;
    within = omega arith;
    so_far = λ arities es subject a. record {
      none_before = λ p j e c l x m. absurd (omega arith);
      here = omega (arith, a.size_is);
    };
  }

module _ {equations lengths : List ℕ} {rules : ℕ} {nodes₀ sizes₀ : List ℕ} {n : ℕ} {table₀ scratch₀ table nodes sizes scratch : List ℕ} {best : ℕ} {found : Maybe FoundStep} {rule : ℕ}
    (k : Finding equations lengths rules nodes₀ sizes₀ n table₀ scratch₀ table nodes sizes scratch best found rule) where
  try_rule : {arities : List ℕ} {es : List Equation} {subject : Term} → AllSolve equations lengths rules nodes₀ sizes₀ n arities es subject → (i : ℕ) (e : Equation) (d : Direction)
      → entry es i ≡ some e → rule ≡ rule_number i d → UnkeptTry equations lengths rule nodes sizes best arities i e d subject
  try_rule {arities} {es} {subject} a i e d x y = record {
    rule_is = rule_in a.rows x y;
    solves = every_entry BothSolve es i a.solve x d;
    subject_is = k.same arities subject a.subject_is;
    low = k.low;
    inside = omega (arith, k.within, a.size_is);
  }

  pub rule_to_try : HasAllSolve equations lengths rules nodes₀ sizes₀ n → rule < rules → HasUnkeptTry equations lengths rule nodes sizes best
  rule_to_try h l =
      let o = rule_of h.those rule (omega (arith, h.are.counted)) in
      record {
        arities = h.arities;
        number = o.number;
        equation = o.equation;
        direction = o.direction;
        subject = h.subject;
        is = try_rule h.are o.number o.equation o.direction o.numbered o.is;
      }

  -- The rule is tried, and its first node is `node`; `best` if there is none before that.
  module _ (h : HasAllSolve equations lengths rules nodes₀ sizes₀ n) (l : rule < rules) {node : ℕ} (after_table after_nodes after_sizes after_scratch : List ℕ)
      (a : (arities : List ℕ) (i : ℕ) (e : Equation) (d : Direction) (subject : Term) → UnkeptTry equations lengths rule nodes sizes best arities i e d subject → FirstFor arities subject i e d best node)
      (same : (arities : List ℕ) (subject : Term) → SubjectIs nodes sizes arities subject → SubjectIs after_nodes after_sizes arities subject)
      (same_table : length after_table ≡ length table) (same_scratch : length after_scratch ≡ length scratch)
      (table_rest : drop table_bytes after_table ≡ drop table_bytes table) (scratch_rest : drop scratch_bytes after_scratch ≡ drop scratch_bytes scratch) where
    first_of : {arities : List ℕ} {es : List Equation} {subject : Term} → AllSolve equations lengths rules nodes₀ sizes₀ n arities es subject → (i : ℕ) (e : Equation) (d : Direction)
        → entry es i ≡ some e → rule ≡ rule_number i d → FirstFor arities subject i e d best node
    first_of {arities} {es} {subject} s i e d x y = a arities i e d subject (try_rule s i e d x y)

    none_yet : {arities : List ℕ} {es : List Equation} {subject : Term} → AllSolve equations lengths rules nodes₀ sizes₀ n arities es subject → node ≤ best → (p j : ℕ) (e : Equation) (c : Direction)
        → position_count + p < node → entry es j ≡ some e → rule_number j c < rule + 1 → try (filling arities) line_test subject p (part_at subject p) j e c ≡ none
    none_yet {arities} {es} {subject} s w p j e c b x m = elim (dec_lt (rule_number j c) rule) [
      | yes q ↦ (k.so_far arities es subject s).none_before p j e c (omega arith) x q
      | no q ↦ (first_of s j e c x (omega arith)).none_before p b
    ]

    node_within : node ≤ best
    node_within = let o = rule_of h.those rule (omega (arith, h.are.counted)) in (first_of h.are o.number o.equation o.direction o.numbered o.is).within

    node_low : node < best → position_count ≤ node
    node_low b =
        let o = rule_of h.those rule (omega (arith, h.are.counted)) in
        let (p, s, x, y) = (first_of h.are o.number o.equation o.direction o.numbered o.is).can b in
        omega arith

    abbrev Next : (best : ℕ) (found : Maybe FoundStep) → Type 0
    Next best' found' = Finding equations lengths rules nodes₀ sizes₀ n table₀ scratch₀ after_table after_nodes after_sizes after_scratch best' found' (rule + 1)

    pub finding_better : node < best → Next node (Some (record { rule = rule; node = node }))
    finding_better b = record {
      table_length = same_table ∙ k.table_length;
      scratch_length = same_scratch ∙ k.scratch_length;
      table_behind = table_rest ∙ k.table_behind;
      scratch_behind = scratch_rest ∙ k.scratch_behind;
      same = λ arities subject s. same arities subject (k.same arities subject s);
      low = node_low b;
      within = omega (arith, k.within);
      so_far = λ arities es subject s.
          let o = rule_of es rule (omega (arith, s.counted)) in
          let (p, t, x, y) = (first_of s o.number o.equation o.direction o.numbered o.is).can b in
          record {
            none_before = none_yet s node_within;
            here = (
              refl,
              record {
                number = o.number;
                equation = o.equation;
                direction = o.direction;
                position = p;
                this = t;
                rule_is = o.is;
                node_is = x;
                inside = omega (arith, k.within, s.size_is);
                numbered = o.numbered;
                possible = y;
                none_earlier = λ j e c z q. (k.so_far arities es subject s).none_before p j e c (omega arith) z q;
              },
            );
          };
    }

    pub finding_same : best ≤ node → Next best found
    finding_same b = record {
      table_length = same_table ∙ k.table_length;
      scratch_length = same_scratch ∙ k.scratch_length;
      table_behind = table_rest ∙ k.table_behind;
      scratch_behind = scratch_rest ∙ k.scratch_behind;
      same = λ arities subject s. same arities subject (k.same arities subject s);
      low = k.low;
      within = k.within;
      so_far = λ arities es subject s. record {
        none_before = λ p j e c q x m. none_yet s node_within p j e c (omega arith) x m;
        here = (k.so_far arities es subject s).here;
      };
    }

  -- The rule is tried, and the search tells its first node before `best`, if there is one.
  module _ (h : HasAllSolve equations lengths rules nodes₀ sizes₀ n) (l : rule < rules) (after_table after_nodes after_sizes after_scratch : List ℕ) (first : Maybe ℕ)
      (a : (arities : List ℕ) (i : ℕ) (e : Equation) (d : Direction) (subject : Term) → UnkeptTry equations lengths rule nodes sizes best arities i e d subject → FirstStep arities subject i e d best first)
      (same : (arities : List ℕ) (subject : Term) → SubjectIs nodes sizes arities subject → SubjectIs after_nodes after_sizes arities subject)
      (same_table : length after_table ≡ length table) (same_scratch : length after_scratch ≡ length scratch)
      (table_rest : drop table_bytes after_table ≡ drop table_bytes table) (scratch_rest : drop scratch_bytes after_scratch ≡ drop scratch_bytes scratch) where
    abbrev After : (best : ℕ) (found : Maybe FoundStep) → Type 0
    After best' found' = Finding equations lengths rules nodes₀ sizes₀ n table₀ scratch₀ after_table after_nodes after_sizes after_scratch best' found' (rule + 1)

    pub rule_tried : MatchOption first (After best found) (λ node. After node (Some (record { rule = rule; node = node })))
    rule_tried = go first a
      where
        go : (o : Maybe ℕ) → ((arities : List ℕ) (i : ℕ) (e : Equation) (d : Direction) (subject : Term) → UnkeptTry equations lengths rule nodes sizes best arities i e d subject → FirstStep arities subject i e d best o)
            → MatchOption o (After best found) (λ node. After node (Some (record { rule = rule; node = node })))
        go None b = finding_same h l after_table after_nodes after_sizes after_scratch b same same_table same_scratch table_rest scratch_rest (omega arith)
        go (Some node) b =
            let o = rule_of h.those rule (omega (arith, h.are.counted)) in
            let below = (b h.arities o.number o.equation o.direction h.subject (try_rule h.are o.number o.equation o.direction o.numbered o.is)).0 in
            finding_better h l after_table after_nodes after_sizes after_scratch (λ arities i e d subject u. (b arities i e d subject u).1) same same_table same_scratch table_rest scratch_rest below

  module _ (h : HasAllSolve equations lengths rules nodes₀ sizes₀ n) where
    pub finding_nodes : length nodes ≡ length nodes₀
    finding_nodes = (k.same h.arities h.subject h.are.subject_is).nodes_length ∙ sym h.are.subject_is.nodes_length

    pub finding_sizes : length sizes ≡ length sizes₀
    finding_sizes = (k.same h.arities h.subject h.are.subject_is).sizes_length ∙ sym h.are.subject_is.sizes_length

  -- All rules are tried.
  module _ (all : rules ≤ rule) (arities : List ℕ) (es : List Equation) (subject : Term) (a : AllSolve equations lengths rules nodes₀ sizes₀ n arities es subject) where
    none_at : (p j : ℕ) (e : Equation) (c : Direction) → position_count + p < best → entry es j ≡ some e → try (filling arities) line_test subject p (part_at subject p) j e c ≡ none
    none_at p j e c l x = (k.so_far arities es subject a).none_before p j e c l x (omega (arith, a.counted, rule_low j c (entry_length es j x)))

    pub step_found : {rule' : ℕ} → FoundHere arities es subject best rule' → StepAt arities es subject rule' best
    step_found f =
        record {
          number = f.number;
          equation = f.equation;
          direction = f.direction;
          position = f.position;
          this = f.this;
          rule_is = f.rule_is;
          node_is = f.node_is;
          inside = f.inside;
          numbered = f.numbered;
          possible = f.possible;
          first = step_first (filling arities) line_test subject es (record {
            inside = f.inside;
            numbered = f.numbered;
            possible = f.possible;
            none_before = λ q j c m e x. none_at q j e c (omega (arith, f.node_is)) x;
            none_earlier = λ j c m e x. f.none_earlier j e c x (omega (arith, f.rule_is));
          });
        }

    pub nothing_found : position_count + size subject ≤ best → step (filling arities) line_test es subject ≡ none
    nothing_found l = step_none (filling arities) line_test subject es (λ p j c m e x. none_at p j e c (omega (arith, l)) x)

    pub all_tried : FoundIs arities es subject found
    all_tried = go found (k.so_far arities es subject a).here
      where
        go : (o : Maybe FoundStep) → MatchOption o (position_count + size subject ≤ best) (λ step. (step.node ≡ best) × FoundHere arities es subject best step.rule) → FoundIs arities es subject o
        go None l = nothing_found l
        go (Some step) (e, here) = subst (StepAt arities es subject step.rule) (sym e) (step_found here)
