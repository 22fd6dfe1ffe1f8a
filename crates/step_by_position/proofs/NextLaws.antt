-- The table of next rules: how one entry of each row is put, and what holds of the entries from a rule on.
use Prim.Native.Nat.{ℕ, suc, ◌+◌, ◌-◌, ◌*◌, ◌≤◌, ◌<◌}
use mathlib.Core.Path.{◌≡◌, refl, sym, ap, subst, ◌∙◌}
use mathlib.Core.Logic.{◌⊎◌, inl, inr}
use mathlib.Core.Bool.{Bool, true, false}
use mathlib.Core.Option.{Option, none, some}
use mathlib.Core.List.{List, [], ◌∷◌, map}
use native.Mathlib.Omega.{arith}
use native.Mathlib.Decide.{dec_lt, ℕ_discrete}
use lib.ListN.{length, get_or, set, length-set, length-append}
use lib.Seq.{get_or-set_same, get_or-set_other}
use lib.Dec.{ltb}
use borrow.Author.Tests.{ltb-false}
use Rattle.format.specs.Limits.{max_symbols, max_equations, first_variable}
use Rattle.format.specs.Lists.{entry}
use Rattle.terms.specs.Term.{Term, Terms, var, app}
use Rattle.terms.specs.Prefix.{prefix}
use Rattle.terms.specs.Equation.{Equation, source, value}
use Rattle.terms.specs.declared.direction.Direction.{Direction}
use Rattle.terms.specs.ForContracts.Stored.{PartAt}
use Rattle.terms.specs.declared.arguments.Arguments.{Arguments}
use Rattle.terms.specs.Theory.Position.{size_pos}
use Rattle.terms.specs.Theory.Prefix.{length_prefix}
use Rattle.terms.specs.Theory.Stored.{stored_head, stored_room}
use Rattle.solving.specs.Line.{Line, line, binding_byte, element_bytes}
use Rattle.solving.specs.Judge.{first_holding}
use Rattle.reducing.proofs.Theory.Step.{tested}
use Rattle.reducing.specs.Match.{Match, no_match, match, match_each, values_of}
use Rattle.reducing.specs.Run.{Step, try}
use Rattle.reducing.specs.Test.{line_test}
use Rattle.reducing.specs.ForContracts.Rules.{rule_number}
use Rattle.reducing.specs.Theory.Rules.{rule_of, rule_below}
use Rattle.kept_lines.specs.ForContracts.Trimmed.{trimmed, trimmed_lines}
use Rattle.rules.specs.ForContracts.Rows.{RuleIs, HasRule, SideIs, bound_count}
use Rattle.rules.specs.ForContracts.Walks.{RuleAt}
use Rattle.step_by_position.specs.ForContracts.Next.{next_bytes, next_at, Idle, NextIs, NextPut, RulesKept, HasRulesKept}

-- The entry of a rule names the rule itself, or is the next one.
abbrev ItselfAt : (top : ℕ) (live : Bool) (f : ℕ) → Type 0
ItselfAt top live f = (live ≡ true) × ((first_variable ≤ top) ⊎ (top ≡ f))

abbrev PassedAt : (top : ℕ) (live : Bool) (f : ℕ) → Type 0
PassedAt top live f = (live ≡ false) ⊎ ((top < first_variable) × (top ≡ f → ⊥))

one_of : (top : ℕ) (live : Bool) (f : ℕ) → ItselfAt top live f ⊎ PassedAt top live f
one_of top false f = inr (inl refl)
one_of top true f =
    elim (dec_lt top first_variable) [
      | yes l ↦ elim (ℕ_discrete top f) [ yes e ↦ inl (refl, inr e) | no n ↦ inr (inr (l, n)) ]
      | no n ↦ inl (refl, inl (omega arith))
    ]

not_both : {top : ℕ} {live : Bool} {f : ℕ} → ItselfAt top live f → PassedAt top live f → ⊥
not_both (l, h) (inl z) = let w : ◌≡◌ {A = ℕ} 0 1 = cc in absurd (omega arith)
not_both (l, inl h) (inr (z, n)) = omega arith
not_both (l, inr h) (inr (z, n)) = n h

-- The entry is put in the rows of the symbols below `f`.
pub record PutBelow (before after : List ℕ) (rule top : ℕ) (live : Bool) (f : ℕ) : Type 0 where
  pub same_length : length after ≡ length before
  pub others : (g k : ℕ) → g < max_symbols → k < bound_count → (k ≡ rule → ⊥) → next_at after g k ≡ next_at before g k
  pub rule_itself : (g : ℕ) → g < f → ItselfAt top live g → next_at after g rule ≡ rule
  pub next_one : (g : ℕ) → g < f → PassedAt top live g → next_at after g rule ≡ next_at before g (suc rule)

pub put_start : (before : List ℕ) (rule top : ℕ) (live : Bool) → PutBelow before before rule top live 0
put_start before rule top live = record {
  same_length = refl;
  others = λ g k a b n. refl;
  rule_itself = λ g a h. absurd (omega arith);
  next_one = λ g a h. absurd (omega arith);
}

-- What is put in the row of `f`.
pub record EntryIs (before : List ℕ) (rule top : ℕ) (live : Bool) (f put : ℕ) : Type 0 where
  pub itself : ItselfAt top live f → put ≡ rule
  pub passed : PassedAt top live f → put ≡ get_or before (f * bound_count + rule + 1) 0

pub entry_itself : {before : List ℕ} {rule top : ℕ} {live : Bool} {f put : ℕ} → ItselfAt top live f → put ≡ rule → EntryIs before rule top live f put
entry_itself h e = record { itself = λ i. e; passed = λ p. absurd (not_both h p) }

pub entry_passed : {before : List ℕ} {rule top : ℕ} {live : Bool} {f put : ℕ} → PassedAt top live f → put ≡ get_or before (f * bound_count + rule + 1) 0
    → EntryIs before rule top live f put
entry_passed h e = record { itself = λ i. absurd (not_both i h); passed = λ p. e }

pub put_next : {before after : List ℕ} {rule top : ℕ} {live : Bool} {f put : ℕ} → length before ≡ next_bytes → rule < 2 * max_equations → f < max_symbols
    → PutBelow before after rule top live f → EntryIs after rule top live f put → PutBelow before (set after (f * bound_count + rule) put) rule top live (f + 1)
put_next {before} {after} {rule} {top} {live} {f} {put} whole low known p is = record {
  same_length = length-set after at put ∙ p.same_length;
  others = λ g k a b n. get_or-set_other after at (g * bound_count + k) put 0 (λ e. elsewhere g k b n e) ∙ p.others g k a b n;
  rule_itself = λ g a h. elim (ℕ_discrete g f) [
    | yes e ↦ subst (λ g. next_at (set after at put) g rule ≡ rule) (sym e) (here ∙ is.itself (subst (ItselfAt top live) e h))
    | no n ↦ there g n ∙ p.rule_itself g (omega arith) h
  ];
  next_one = λ g a h. elim (ℕ_discrete g f) [
    | yes e ↦ subst (λ g. next_at (set after at put) g rule ≡ next_at before g (suc rule)) (sym e)
        (here ∙ (is.passed (subst (PassedAt top live) e h) ∙ (ap (λ i. get_or after i 0) further ∙ p.others f (suc rule) known (omega arith) (λ x. omega arith))))
    | no n ↦ there g n ∙ p.next_one g (omega arith) h
  ];
}
  where
    at : ℕ
    at = f * bound_count + rule

    further : f * bound_count + rule + 1 ≡ f * bound_count + suc rule
    further = omega arith

    elsewhere : (g k : ℕ) → k < bound_count → (k ≡ rule → ⊥) → g * bound_count + k ≡ at → ⊥
    elsewhere g k b n e = n (omega arith)

    here : next_at (set after at put) f rule ≡ put
    here = get_or-set_same after at put 0 (omega (arith, p.same_length))

    there : (g : ℕ) → (g ≡ f → ⊥) → next_at (set after at put) g rule ≡ next_at after g rule
    there g n = get_or-set_other after at (g * bound_count + rule) put 0 (λ e. n (omega arith))

pub put_done : {before after : List ℕ} {rule top : ℕ} {live : Bool} {f : ℕ} → max_symbols ≤ f → PutBelow before after rule top live f → NextPut before after rule top live
put_done all p = record {
  same_length = p.same_length;
  others = p.others;
  rule_itself = λ g a l h. p.rule_itself g (omega arith) (l, h);
  next_one = λ g a h. p.next_one g (omega arith) h;
}

-- A rule that fails its test wherever it matches cannot step.
module _ (filling subject : Term) (p : ℕ) (part : Term) (i : ℕ) (e : Equation) (d : Direction) where
  abbrev when_matched : Option Match → Option Step
  when_matched o = elim o [ none ↦ none | some m ↦ tested filling subject p i e d m (line_test e d (values_of filling m)) ]

  no_step : ((m : Match) → match (source e d) part no_match ≡ some m → line_test e d (values_of filling m) ≡ false) → try filling line_test subject p part i e d ≡ none
  unfolding try
  no_step h = by_match (match (source e d) part no_match) refl
    where
      by_test : (m : Match) (b : Bool) → b ≡ false → tested filling subject p i e d m b ≡ none
      by_test m false x = refl
      by_test m true x = let z : ◌≡◌ {A = ℕ} 0 1 = cc in absurd (omega arith)

      by_match : (o : Option Match) → match (source e d) part no_match ≡ o → when_matched o ≡ none
      by_match none x = refl
      by_match (some m) x = by_test m (line_test e d (values_of filling m)) (h m x)

-- Terms with other symbols do not match.
other_top : (g f : ℕ) (ss ts : Terms) → (g ≡ f → ⊥) → match (app g ss) (app f ts) no_match ≡ none
unfolding match
other_top g f ss ts n = go (ℕ_discrete g f)
  where
    go : (d : Dec (g ≡ f)) → ◌≡◌ {A = Option Match} (elim d [ yes e ↦ match_each ss ts no_match | no n ↦ none ]) none
    go (yes e) = absurd (n e)
    go (no _) = refl

-- What has no bytes has no lines.
no_lines : (ls : List Line) → length (trimmed_lines ls) ≡ 0 → ls ≡ []
unfolding trimmed_lines
no_lines [] h = refl
no_lines (line θ es ∷ ls) h =
    absurd (omega (arith, length-append (trimmed (line θ es)) (trimmed_lines ls), length-append (map binding_byte θ) (length es ∷ element_bytes es)))

-- The rule is idle at each symbol by which it is passed.
module _ {bounds table : List ℕ} {rule : ℕ} {e : Equation} {d : Direction} (r : RuleAt bounds table rule e d) where
  idle_without_lines : (f i : ℕ) → get_or bounds (suc rule) 0 ≤ get_or bounds rule 0 → Idle f i e d
  unfolding first_holding
  idle_without_lines f i h filling subject p ts =
      let none_kept : r.lines ≡ [] = no_lines r.lines (omega (arith, r.there.ends)) in
      no_step filling subject p (app f ts) i e d
      (λ m x. r.are.tests (values_of filling m) ∙ ap (λ ls. ltb 0 (first_holding (values_of filling m) (value e (values_of filling m)) ls)) none_kept)

  passed_idle : {equations : List ℕ} {from top : ℕ} {live : Bool} {f : ℕ} (i : ℕ) → PartAt equations from (prefix (source e d)) → top ≡ get_or equations from 0
      → (live ≡ false → get_or bounds (suc rule) 0 ≤ get_or bounds rule 0) → PassedAt top live f → Idle f i e d
  unfolding prefix
  passed_idle {f = f} i s t l (inl h) = idle_without_lines f i (l h)
  passed_idle {equations} {from} {top} {f = f} i s t l (inr (h, n)) = λ filling subject p ts.
      no_step filling subject p (app f ts) i e d (λ m x. absurd (go (source e d) s ts x))
    where
      go : (t : Term) → PartAt equations from (prefix t) → (ts : Terms) {m : Match} → match t (app f ts) no_match ≡ some m → ⊥
      go (var v) s ts x = omega (arith, stored_head s)
      go (app g ss) s ts x = let z : ◌≡◌ {A = ℕ} 0 1 = cc (x, other_top g f ss ts (λ y. n (t ∙ (stored_head s ∙ y)))) in absurd (omega arith)

-- What the table is to have, of the entries from rule `rule` on.
pub record NextFrom (next : List ℕ) (rules : ℕ) (es : List Equation) (rule : ℕ) : Type 0 where
  pub onward : (f k : ℕ) → f < max_symbols → rule ≤ k → k ≤ rules → k ≤ next_at next f k
  pub within : (f k : ℕ) → f < max_symbols → rule ≤ k → k ≤ rules → next_at next f k ≤ rules
  pub idle : (f k i : ℕ) (e : Equation) (d : Direction) → f < max_symbols → entry es i ≡ some e → rule ≤ k → k ≤ rule_number i d → rule_number i d < next_at next f k → Idle f i e d

-- The last entry of each row.
pub record Ended (rules : ℕ) (next : List ℕ) (f : ℕ) : Type 0 where
  pub whole : length next ≡ next_bytes
  pub known : f ≤ max_symbols
  pub last : (g : ℕ) → g < f → next_at next g rules ≡ rules

pub ended_next : {rules : ℕ} {next : List ℕ} {f : ℕ} → rules < bound_count → f < max_symbols → Ended rules next f → Ended rules (set next (f * bound_count + rules) rules) (f + 1)
ended_next {rules} {next} {f} low h x = record {
  whole = length-set next (f * bound_count + rules) rules ∙ x.whole;
  known = omega arith;
  last = λ g a. elim (ℕ_discrete g f) [
    | yes e ↦ subst (λ g. next_at (set next (f * bound_count + rules) rules) g rules ≡ rules) (sym e) (get_or-set_same next (f * bound_count + rules) rules 0 (omega (arith, x.whole)))
    | no n ↦ get_or-set_other next (f * bound_count + rules) (g * bound_count + rules) rules 0 (λ e. n (omega arith)) ∙ x.last g (omega arith)
  ];
}

pub from_last : {rules f : ℕ} {next : List ℕ} (es : List Equation) → rules ≡ 2 * length es → max_symbols ≤ f → Ended rules next f → NextFrom next rules es rules
from_last {rules} {next = next} es counted all x = record {
  onward = λ g k a b c. omega (arith, same g k a b c);
  within = λ g k a b c. omega (arith, same g k a b c);
  idle = λ g k i e d a y b c l. absurd (omega (arith, rule_below es i d y));
}
  where
    same : (g k : ℕ) → g < max_symbols → rules ≤ k → k ≤ rules → next_at next g k ≡ rules
    same g k a b c = let e : k ≡ rules = omega arith in ap (next_at next g) e ∙ x.last g (omega arith)

-- How an entry from the one before `rule` on comes about.
data EntryCase (before after : List ℕ) (rule top : ℕ) (live : Bool) (f k : ℕ) : Type 0 where
  later : rule ≤ k → next_at after f k ≡ next_at before f k → EntryCase before after rule top live f k
  itself : next_at after f k ≡ k → EntryCase before after rule top live f k
  passed : k ≡ rule - 1 → PassedAt top live f → next_at after f k ≡ next_at before f rule → EntryCase before after rule top live f k

entry_case : {before after : List ℕ} {rule top : ℕ} {live : Bool} (f k : ℕ) → 0 < rule → NextPut before after (rule - 1) top live → f < max_symbols → rule - 1 ≤ k → k < bound_count
    → EntryCase before after rule top live f k
entry_case {before} {after} {rule} {top} {live} f k h put a b c = elim (dec_lt k rule) [
  | no n ↦ later (omega arith) (put.others f k a c (λ e. omega arith))
  | yes l ↦
      let here : k ≡ rule - 1 = omega arith in
      let again : suc (rule - 1) ≡ rule = omega arith in
      elim (one_of top live f) [
        | inl y ↦ itself (ap (next_at after f) here ∙ (put.rule_itself f a y.0 y.1 ∙ sym here))
        | inr y ↦ passed here y (ap (next_at after f) here ∙ (put.next_one f a y ∙ ap (next_at before f) again))
      ]
]

-- One entry more.
pub from_put : {before after : List ℕ} {rules rule top : ℕ} {live : Bool} {es : List Equation} → rules ≡ 2 * length es → length es ≤ max_equations → 0 < rule → rule ≤ rules
    → NextPut before after (rule - 1) top live
    → ((f i : ℕ) (e : Equation) (d : Direction) → entry es i ≡ some e → rule - 1 ≡ rule_number i d → PassedAt top live f → Idle f i e d)
    → NextFrom before rules es rule → NextFrom after rules es (rule - 1)
from_put {before} {after} {rules} {rule} {top} {live} {es} counted few low below put passing x = record {
  onward = λ f k a b c. elim (entry_case f k low put a b (omega arith)) [
    | later y e ↦ omega (arith, e, x.onward f k a y c)
    | itself e ↦ omega (arith, e)
    | passed y z e ↦ omega (arith, e, y, x.onward f rule a (omega arith) below)
  ];
  within = λ f k a b c. elim (entry_case f k low put a b (omega arith)) [
    | later y e ↦ omega (arith, e, x.within f k a y c)
    | itself e ↦ omega (arith, e)
    | passed y z e ↦ omega (arith, e, x.within f rule a (omega arith) below)
  ];
  idle = λ f k i e d a n b c l. elim (entry_case f k low put a b (omega (arith, rule_below es i d n))) [
    | later y s ↦ x.idle f k i e d a n y c (omega (arith, s, l))
    | itself s ↦ absurd (omega (arith, s, l, c))
    | passed y z s ↦ elim (dec_lt (rule_number i d) rule) [
      | yes m ↦ passing f i e d n (omega (arith, y, m, c)) z
      | no m ↦ x.idle f rule i e d a n (omega arith) (omega (arith, m)) (omega (arith, s, l))
    ]
  ];
}

pub next_done : {next : List ℕ} {rules : ℕ} {es : List Equation} → length next ≡ next_bytes → NextFrom next rules es 0 → NextIs next rules es
next_done whole x = record {
  whole = whole;
  onward = λ f k a c. x.onward f k a (omega arith) c;
  within = λ f k a c. x.within f k a (omega arith) c;
  idle = λ f k i e d a n c l. x.idle f k i e d a n (omega arith) c l;
}

-- What holds before each turn of the loop over rules, whatever equations the rows have.
module _ (equations lengths : List ℕ) (rules : ℕ) (bounds table : List ℕ) where
  pub record Filling (next : List ℕ) (rule : ℕ) : Type 0 where
    pub whole : length next ≡ next_bytes
    pub below : rule ≤ rules
    pub filled : (arities : List ℕ) (es : List Equation) → RulesKept equations lengths rules bounds table arities es → NextFrom next rules es rule

module _ {equations lengths : List ℕ} {rules : ℕ} {bounds table : List ℕ} where
  pub few_rules : HasRulesKept equations lengths rules bounds table → rules ≤ 2 * max_equations
  few_rules h = omega (arith, h.are.counted, h.are.rows.few)

  pub filling_start : {next : List ℕ} {f : ℕ} → max_symbols ≤ f → Ended rules next f → Filling equations lengths rules bounds table next rules
  filling_start all x = record {
    whole = x.whole;
    below = omega arith;
    filled = λ arities es k. from_last es k.counted all x;
  }

  rule_is : {arities : List ℕ} {es : List Equation} → RulesKept equations lengths rules bounds table arities es → {rule i : ℕ} {e : Equation} {d : Direction}
      → entry es i ≡ some e → rule ≡ rule_number i d → RuleIs equations lengths arities rule i e d
  rule_is k n e = record { row = k.rows.row _ _ n; number = e }

  -- The rule whose entry is put next.
  module _ {next : List ℕ} {rule : ℕ} (x : Filling equations lengths rules bounds table next rule) (low : 0 < rule) where
    pub rule_there : HasRulesKept equations lengths rules bounds table → HasRule lengths (rule - 1)
    rule_there h =
        let r = rule_of h.those (rule - 1) (omega (arith, x.below, h.are.counted)) in
        record {
          equations = equations;
          arities = h.arities;
          number = r.number;
          equation = r.equation;
          direction = r.direction;
          is = rule_is h.are r.numbered r.is;
        }

    module _ {side : Arguments} (sides : (equations arities : List ℕ) (i : ℕ) (e : Equation) (d : Direction) → RuleIs equations lengths arities (rule - 1) i e d → SideIs equations lengths arities side (source e d)) where
      pub top_there : HasRulesKept equations lengths rules bounds table → side.from < length equations
      top_there h =
          let r = rule_of h.those (rule - 1) (omega (arith, x.below, h.are.counted)) in
          let s = source r.equation r.direction in
          let is = sides equations h.arities r.number r.equation r.direction (rule_is h.are r.numbered r.is) in
          omega (arith, stored_room is.stored.bytes (omega (arith, length_prefix s, size_pos s)), length_prefix s, size_pos s)

      pub filling_next : {after : List ℕ} {top : ℕ} {live : Bool} → top ≡ get_or equations side.from 0 → live ≡ ltb (get_or bounds (rule - 1) 0) (get_or bounds (rule - 1 + 1) 0)
          → NextPut next after (rule - 1) top live → Filling equations lengths rules bounds table after (rule - 1)
      filling_next {after} {top} {live} t l put = record {
        whole = put.same_length ∙ x.whole;
        below = omega (arith, x.below);
        filled = λ arities es k. from_put k.counted k.rows.few low x.below put
            (λ f i e d n y. passed_idle (subst (λ r. RuleAt bounds table r e d) (sym y) (k.kept i e d n)) i (sides equations arities i e d (rule_is k n y)).stored.bytes t few_bytes)
            (x.filled arities es k);
      }
        where
          few_bytes : live ≡ false → get_or bounds (suc (rule - 1)) 0 ≤ get_or bounds (rule - 1) 0
          few_bytes h =
              let further : rule - 1 + 1 ≡ suc (rule - 1) = omega arith in
              omega (arith, ltb-false (get_or bounds (rule - 1) 0) (get_or bounds (rule - 1 + 1) 0) (sym l ∙ h), ap (λ n. get_or bounds n 0) further)

  pub filling_done : {next : List ℕ} {rule : ℕ} → rule ≤ 0 → Filling equations lengths rules bounds table next rule
      → (arities : List ℕ) (es : List Equation) → RulesKept equations lengths rules bounds table arities es → NextIs next rules es
  filling_done {next} {rule} h x arities es k = let z : rule ≡ 0 = omega arith in next_done x.whole (subst (NextFrom next rules es) z (x.filled arities es k))
