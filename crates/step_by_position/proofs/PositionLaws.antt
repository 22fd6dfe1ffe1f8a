-- The search by positions: what stands at a node of the subject, and what holds before each turn of the loops over rules and over nodes.
use Prim.Native.Nat.{ℕ, suc, ◌+◌, ◌-◌, ◌*◌, ◌≤◌, ◌<◌}
use mathlib.Core.Path.{◌≡◌, refl, sym, ap, subst, ◌∙◌}
use mathlib.Core.Bool.{Bool, true, false}
use mathlib.Core.Option.{none, some}
use mathlib.Core.List.{List}
use native.Mathlib.Omega.{arith}
use native.Mathlib.Decide.{dec_lt, ℕ_discrete}
use lib.ListN.{length, get_or, replicate}
use Rattle.format.specs.Limits.{max_symbols, max_equations, variable_count, position_count, node_count, cell_count}
use Rattle.format.specs.Lists.{entry}
use Rattle.terms.specs.Term.{Term, Terms, var, app, size}
use Rattle.terms.specs.Prefix.{prefix}
use Rattle.terms.specs.Filling.{filling}
use Rattle.terms.specs.Equation.{Equation}
use Rattle.terms.specs.declared.direction.Direction.{Direction}
use Rattle.terms.specs.ForContracts.Stored.{GroundStored, SubjectIs}
use Rattle.terms.specs.Theory.Stored.{stored_head, ground_size}
use Rattle.reducing.specs.Run.{Step, try, step}
use Rattle.reducing.specs.Test.{line_test}
use Rattle.reducing.specs.ForContracts.Rules.{rule_number}
use Rattle.reducing.proofs.Theory.First.{NoneAt, step_none, step_first}
use Rattle.reducing.specs.ForContracts.Part.{part_at}
use Rattle.reducing.specs.Theory.Rules.{rule_of, rule_below}
use Rattle.cells.specs.Theory.Cells.{none_ready, zero_bytes}
use Rattle.kept_lines.specs.declared.trimmed.KeptLines.{KeptLines}
use Rattle.rules.specs.ForContracts.Rows.{bound_count}
use Rattle.rules.specs.ForContracts.Lines.{LinesAt}
use Rattle.rules.specs.ForContracts.Walks.{RuleAt}
use Rattle.step_by_position.specs.ForContracts.Next.{next_at, SearchIs, HasSearch}
use Rattle.step_try.specs.ForContracts.Trying.{Settled, Applies, TryIs, HasTry}
use Rattle.step_by_position.specs.ForContracts.Searching.{StepAt}
use Rattle.cells.specs.Theory.Stored.{part_stored}

-- The term starts with this symbol, which is one of the sheet's.
record SymbolIs (arities : List ℕ) (f : ℕ) (t : Term) : Type 0 where
  pub arguments : Terms
  pub is : t ≡ app f arguments
  pub known : f < length arities

-- The byte of a node of the subject is the symbol of the part there.
symbol_at : {nodes sizes arities : List ℕ} {subject : Term} {node p : ℕ} → SubjectIs nodes sizes arities subject → p < size subject → node ≡ position_count + p
    → SymbolIs arities (get_or nodes node 0) (part_at subject p)
unfolding prefix
symbol_at {nodes} {sizes} {arities} {subject} {node} {p} s h e = go (part_at subject p) (subst (λ i. GroundStored nodes sizes arities i (part_at subject p)) (sym e) (part_stored s.stored p h))
  where
    go : (t : Term) → GroundStored nodes sizes arities node t → SymbolIs arities (get_or nodes node 0) t
    go (var v) g = absurd g.is_ground
    go (app f ts) g =
        let byte = stored_head g.stored.bytes in
        record { arguments = ts; is = ap (λ x. app x ts) (sym byte); known = omega (arith, byte, g.is_ground.0) }

-- However the subject is read, it has as many nodes.
same_size : {nodes sizes arities others : List ℕ} {s t : Term} → SubjectIs nodes sizes arities s → SubjectIs nodes sizes others t → size s ≡ size t
same_size a b = sym (ground_size a.stored) ∙ ground_size b.stored

-- The first rule that can step at a node; `rules` if there is none.
pub record FirstRule (arities : List ℕ) (es : List Equation) (subject : Term) (rules node r : ℕ) : Type 0 where
  pub within : r ≤ rules
  pub none_earlier : (p j : ℕ) (e : Equation) (c : Direction) → node ≡ position_count + p → entry es j ≡ some e → rule_number j c < r → try (filling arities) line_test subject p (part_at subject p) j e c ≡ none
  pub can : (p : ℕ) → node ≡ position_count + p → r < rules
      → (i : ℕ) × (e : Equation) × (d : Direction) × (s : Step) × (r ≡ rule_number i d) × (entry es i ≡ some e) × (try (filling arities) line_test subject p (part_at subject p) i e d ≡ some s)

-- All that the loop over rules goes by, and what holds before each of its turns: no rule that is passed can step at the node.
module _ (equations lengths : List ℕ) (rules : ℕ) (bounds next table nodes sizes : List ℕ) (node : ℕ) where
  abbrev Search : List ℕ → List Equation → Term → Type 0
  Search = SearchIs equations lengths rules bounds next table nodes sizes

  pub record SearchAt : Type 0 where
    pub arities : List ℕ
    pub those : List Equation
    pub subject : Term
    pub position : ℕ
    pub is : Search arities those subject
    pub inside : position < size subject
    pub there : node ≡ position_count + position

  pub record NoneBelow (arities : List ℕ) (es : List Equation) (subject : Term) (rule : ℕ) : Type 0 where
    pub within : rule ≤ rules
    pub none_earlier : (p j : ℕ) (e : Equation) (c : Direction) → node ≡ position_count + p → entry es j ≡ some e → rule_number j c < rule
        → try (filling arities) line_test subject p (part_at subject p) j e c ≡ none

  pub record Seeking (nodes_now sizes_now ready cells : List ℕ) (rule : ℕ) : Type 0 where
    pub settled : Settled nodes_now sizes_now ready cells
    pub subject_kept : (arities : List ℕ) (subject : Term) → SubjectIs nodes sizes arities subject → SubjectIs nodes_now sizes_now arities subject
    pub passed : (arities : List ℕ) (es : List Equation) (subject : Term) → Search arities es subject → NoneBelow arities es subject rule

-- The kept lines of a rule, as the code reads their bounds.
abbrev lines_of : List ℕ → ℕ → KeptLines
lines_of bounds rule = record { from = get_or bounds rule 0; end = get_or bounds (rule + 1) 0 }

module _ {equations lengths : List ℕ} {rules : ℕ} {bounds next table nodes sizes : List ℕ} {node : ℕ} (h : SearchAt equations lengths rules bounds next table nodes sizes node) where
  inside_all : {arities : List ℕ} {subject : Term} {p : ℕ} → SubjectIs nodes sizes arities subject → node ≡ position_count + p → p < size subject
  inside_all s e = omega (arith, same_size s h.is.subject_is, h.inside, h.there, e)

  pub few_rules_here : rules ≤ 2 * max_equations
  few_rules_here = let k = h.is.rules_are in omega (arith, k.counted, k.rows.few)

  pub node_inside : node < length nodes
  node_inside = omega (arith, h.is.subject_is.nodes_length, h.is.subject_is.stored.within, h.inside, h.there)

  -- The symbol at the node, as the code reads it.
  module _ {f : ℕ} (read : f ≡ get_or nodes node 0) where
    symbol_known : f < max_symbols
    symbol_known = omega (arith, read, (symbol_at h.is.subject_is h.inside h.there).known, h.is.subject_is.stored.few_symbols)

    pub row_inside : f * bound_count < length next
    row_inside = omega (arith, symbol_known, h.is.next_is.whole)

    pub following_inside : {rule : ℕ} → rule < rules → f * bound_count + rule + 1 < length next
    following_inside l = omega (arith, symbol_known, few_rules_here, h.is.next_is.whole)

    idle_here : {arities : List ℕ} {es : List Equation} {subject : Term} → SearchIs equations lengths rules bounds next table nodes sizes arities es subject
        → (p k i : ℕ) (e : Equation) (d : Direction) → node ≡ position_count + p → entry es i ≡ some e → k ≤ rule_number i d → rule_number i d < next_at next f k
        → try (filling arities) line_test subject p (part_at subject p) i e d ≡ none
    idle_here {arities} {subject = subject} s p k i e d a n b c =
        let y = symbol_at s.subject_is (inside_all s.subject_is a) a in
        let part : part_at subject p ≡ app f y.arguments = y.is ∙ ap (λ g. app g y.arguments) (sym read) in
        subst (λ t. try (filling arities) line_test subject p t i e d ≡ none) (sym part) (s.next_is.idle f k i e d symbol_known n b c (filling arities) subject p y.arguments)

    pub seeking_start : {first : ℕ} {ready cells : List ℕ} → first ≡ get_or next (f * bound_count) 0 → Settled nodes sizes ready cells
        → Seeking equations lengths rules bounds next table nodes sizes node nodes sizes ready cells first
    seeking_start {first} e m = record {
      settled = m;
      subject_kept = λ arities subject s. s;
      passed = λ arities es subject s. record {
        within = omega (arith, start, s.next_is.within f 0 symbol_known (omega arith));
        none_earlier = λ p j e c a n l. idle_here s p 0 j e c a n (omega arith) (omega (arith, start, l));
      };
    }
      where
        start : first ≡ next_at next f 0
        start = let z : f * bound_count ≡ f * bound_count + 0 = omega arith in e ∙ ap (λ n. get_or next n 0) z

    pub seeking_onward : {rule following : ℕ} → rule < rules → following ≡ get_or next (f * bound_count + rule + 1) 0 → rule < following
    seeking_onward {rule} {following} l e =
        let z : f * bound_count + rule + 1 ≡ f * bound_count + suc rule = omega arith in
        omega (arith, e, ap (λ n. get_or next n 0) z, h.is.next_is.onward f (suc rule) symbol_known (omega arith))

  -- One turn.
  module _ {nodes_now sizes_now ready cells : List ℕ} {rule : ℕ} (x : Seeking equations lengths rules bounds next table nodes sizes node nodes_now sizes_now ready cells rule) (l : rule < rules) where
    try_is : {arities : List ℕ} {es : List Equation} {subject : Term} → SearchIs equations lengths rules bounds next table nodes sizes arities es subject
        → (i : ℕ) (e : Equation) (d : Direction) (p : ℕ) → entry es i ≡ some e → rule ≡ rule_number i d → node ≡ position_count + p
        → TryIs equations lengths rule table (lines_of bounds rule) nodes_now sizes_now node arities i e d subject p
    try_is {arities} {subject = subject} s i e d p n y a =
        let at : RuleAt bounds table rule e d = subst (λ r. RuleAt bounds table r e d) (sym y) (s.rules_are.kept i e d n) in
        let z : suc rule ≡ rule + 1 = omega arith in
        record {
          rule_is = record { row = s.rules_are.rows.row i e n; number = y };
          kept = at.lines;
          kept_are = at.are;
          kept_there = subst (λ n. LinesAt table (record { from = get_or bounds rule 0; end = get_or bounds n 0 }) at.lines) z at.there;
          subject_is = x.subject_kept arities subject s.subject_is;
          inside = inside_all s.subject_is a;
          there = a;
        }

    pub try_there : HasTry equations lengths rule table (lines_of bounds rule) nodes_now sizes_now node
    try_there =
        let r = rule_of h.those rule (omega (arith, h.is.rules_are.counted)) in
        record {
          arities = h.arities;
          number = r.number;
          equation = r.equation;
          direction = r.direction;
          subject = h.subject;
          position = h.position;
          is = try_is h.is r.number r.equation r.direction h.position r.numbered r.is h.there;
        }

    module _ {r : Bool} (told : (arities : List ℕ) (i : ℕ) (e : Equation) (d : Direction) (subject : Term) (p : ℕ)
        → TryIs equations lengths rule table (lines_of bounds rule) nodes_now sizes_now node arities i e d subject p → Applies (filling arities) subject p i e d r) where
      pub seeking_found : r ≡ true → (arities : List ℕ) (es : List Equation) (subject : Term) → SearchIs equations lengths rules bounds next table nodes sizes arities es subject
          → FirstRule arities es subject rules node rule
      seeking_found y arities es subject s = record {
        within = omega arith;
        none_earlier = (x.passed arities es subject s).none_earlier;
        can = λ p a b.
            let q = rule_of es rule (omega (arith, s.rules_are.counted)) in
            let (t, z) = (told arities q.number q.equation q.direction subject p (try_is s q.number q.equation q.direction p q.numbered q.is a)).can y in
            (q.number, q.equation, q.direction, t, q.is, q.numbered, z);
      }

      pub seeking_next : {f following : ℕ} {nodes_after sizes_after ready_after cells_after : List ℕ} → r ≡ false → f ≡ get_or nodes node 0
          → following ≡ get_or next (f * bound_count + rule + 1) 0
          → ((arities : List ℕ) (subject : Term) → SubjectIs nodes_now sizes_now arities subject → SubjectIs nodes_after sizes_after arities subject)
          → Settled nodes_after sizes_after ready_after cells_after
          → Seeking equations lengths rules bounds next table nodes sizes node nodes_after sizes_after ready_after cells_after following
      seeking_next {f} {following} y read e kept m = record {
        settled = m;
        subject_kept = λ arities subject s. kept arities subject (x.subject_kept arities subject s);
        passed = λ arities es subject s. record {
          within = omega (arith, further, s.next_is.within f (suc rule) (symbol_known read) (omega arith));
          none_earlier = λ p j e c a n b. elim (dec_lt (rule_number j c) rule) [
            | yes z ↦ (x.passed arities es subject s).none_earlier p j e c a n z
            | no z ↦ elim (ℕ_discrete rule (rule_number j c)) [
              | yes w ↦ (told arities j e c subject p (try_is s j e c p n w a)).cannot y
              | no w ↦ idle_here read s p (suc rule) j e c a n (omega (arith, z, w)) (omega (arith, further, b))
            ]
          ];
        };
      }
        where
          further : following ≡ next_at next f (suc rule)
          further = let z : f * bound_count + rule + 1 ≡ f * bound_count + suc rule = omega arith in e ∙ ap (λ n. get_or next n 0) z

pub seeking_done : {equations lengths : List ℕ} {rules : ℕ} {bounds next table nodes sizes : List ℕ} {node : ℕ} {nodes_now sizes_now ready cells : List ℕ} {rule : ℕ}
    → Seeking equations lengths rules bounds next table nodes sizes node nodes_now sizes_now ready cells rule → rules ≤ rule
    → (arities : List ℕ) (es : List Equation) (subject : Term) → SearchIs equations lengths rules bounds next table nodes sizes arities es subject → FirstRule arities es subject rules node rules
seeking_done x l arities es subject s = record {
  within = omega arith;
  none_earlier = λ p j e c a n b. (x.passed arities es subject s).none_earlier p j e c a n (omega (arith, b, l));
  can = λ p a b. absurd (omega arith);
}

-- What holds before each turn of the loop over nodes: at none that is passed a step is possible. The nodes change before the subject's only.
module _ (equations lengths : List ℕ) (rules : ℕ) (bounds next table nodes sizes : List ℕ) where
  pub record Finding (nodes_now sizes_now ready cells : List ℕ) (node : ℕ) : Type 0 where
    pub low : position_count ≤ node
    pub settled : Settled nodes_now sizes_now ready cells
    pub subject_kept : (arities : List ℕ) (subject : Term) → SubjectIs nodes sizes arities subject → SubjectIs nodes_now sizes_now arities subject
    pub passed : (arities : List ℕ) (es : List Equation) (subject : Term) → SearchIs equations lengths rules bounds next table nodes sizes arities es subject
        → (p j : ℕ) (c : Direction) → position_count + p < node → NoneAt (filling arities) line_test subject es p j c

module _ {equations lengths : List ℕ} {rules : ℕ} {bounds next table nodes sizes : List ℕ} {n : ℕ} (h : HasSearch equations lengths rules bounds next table nodes sizes n) where
  pub finding_start : {cells : List ℕ} → length cells ≡ cell_count → Finding equations lengths rules bounds next table nodes sizes nodes sizes (replicate node_count 0) cells position_count
  finding_start e =
      let s = h.is.subject_is in
      record {
        low = omega arith;
        settled = record { values = replicate variable_count 0; are = none_ready s.nodes_length s.sizes_length refl refl e s.symbols (zero_bytes node_count) };
        subject_kept = λ arities subject s. s;
        passed = λ arities es subject s p j c l. absurd (omega arith);
      }

  -- One turn.
  module _ {nodes_now sizes_now ready cells : List ℕ} {node : ℕ} (x : Finding equations lengths rules bounds next table nodes sizes nodes_now sizes_now ready cells node) (l : node < position_count + n) where
    search_now : {arities : List ℕ} {es : List Equation} {subject : Term} → SearchIs equations lengths rules bounds next table nodes sizes arities es subject
        → SearchIs equations lengths rules bounds next table nodes_now sizes_now arities es subject
    search_now {arities} {subject = subject} s = record { rules_are = s.rules_are; next_is = s.next_is; subject_is = x.subject_kept arities subject s.subject_is }

    back : node ≡ position_count + (node - position_count)
    back = omega (arith, x.low)

    pub search_there : SearchAt equations lengths rules bounds next table nodes_now sizes_now node
    search_there = record {
      arities = h.arities;
      those = h.those;
      subject = h.subject;
      position = node - position_count;
      is = search_now h.is;
      inside = omega (arith, h.counted, x.low);
      there = back;
    }

    module _ {rule : ℕ} (told : (arities : List ℕ) (es : List Equation) (subject : Term) → SearchIs equations lengths rules bounds next table nodes_now sizes_now arities es subject
        → FirstRule arities es subject rules node rule) where
      pub finding_found : rule < rules → (arities : List ℕ) (es : List Equation) (subject : Term) → SearchIs equations lengths rules bounds next table nodes sizes arities es subject
          → StepAt arities es subject rule node
      finding_found a arities es subject s =
          let f = told arities es subject (search_now s) in
          let (i, e, d, t, is, numbered, possible) = f.can (node - position_count) back a in
          let inside : node - position_count < size subject = omega (arith, x.low, h.counted, same_size s.subject_is h.is.subject_is) in
          record {
            number = i;
            equation = e;
            direction = d;
            position = node - position_count;
            this = t;
            rule_is = is;
            node_is = back;
            inside = inside;
            numbered = numbered;
            possible = possible;
            first = step_first (filling arities) line_test subject es (record {
              inside = inside;
              numbered = numbered;
              possible = possible;
              none_before = λ q j c b. x.passed arities es subject s q j c (omega (arith, b, x.low));
              none_earlier = λ j c b g y. f.none_earlier (node - position_count) j g c back y (omega (arith, b, is));
            });
          }

      pub finding_next : {nodes_after sizes_after ready_after cells_after : List ℕ} → rules ≤ rule
          → ((arities : List ℕ) (subject : Term) → SubjectIs nodes_now sizes_now arities subject → SubjectIs nodes_after sizes_after arities subject)
          → Settled nodes_after sizes_after ready_after cells_after
          → Finding equations lengths rules bounds next table nodes sizes nodes_after sizes_after ready_after cells_after (node + 1)
      finding_next a kept m = record {
        low = omega (arith, x.low);
        settled = m;
        subject_kept = λ arities subject s. kept arities subject (x.subject_kept arities subject s);
        passed = λ arities es subject s p j c b e y. elim (dec_lt (position_count + p) node) [
          | yes z ↦ x.passed arities es subject s p j c z e y
          | no z ↦
              let here : node ≡ position_count + p = omega arith in
              (told arities es subject (search_now s)).none_earlier p j e c here y (omega (arith, rule_below es j c y, s.rules_are.counted))
        ];
      }

  pub finding_done : {nodes_now sizes_now ready cells : List ℕ} {node : ℕ} → Finding equations lengths rules bounds next table nodes sizes nodes_now sizes_now ready cells node
      → position_count + n ≤ node → (arities : List ℕ) (es : List Equation) (subject : Term) → SearchIs equations lengths rules bounds next table nodes sizes arities es subject
      → step (filling arities) line_test es subject ≡ none
  finding_done x l arities es subject s =
      step_none (filling arities) line_test subject es (λ p j c b. x.passed arities es subject s p j c (omega (arith, b, l, h.counted, same_size s.subject_is h.is.subject_is)))
