-- Demand 2 for verdicts, and W8, over what compare gives.
use Rattle.std.specs.Prelude.{ℕ, ◌↔◌, Bool, false, List, length}
use Rattle.std.proofs.Math.Path.{◌≡◌, refl, ap}
use Rattle.std.proofs.Common.{sym, ◌∙◌, le-leb, arith}
use Rattle.std.proofs.Math.Bool.{true}
use Rattle.std.proofs.Math.Option.{Option, none, some}
use Rattle.std.proofs.Math.Dec.{leb}
use Rattle.format.specs.Limits.{scratch_bytes}
use Rattle.format.specs.declared.refusal.Refusal.TheVariants.{ShortBuffer as short_buffer}
use Rattle.format.specs.Lists.{entry}
use Rattle.format.specs.Theory.Lists.{every_entry}
use Rattle.ordering.specs.declared.verdict.Verdict.{Verdict}
use Rattle.ordering.specs.declared.verdict.Verdict.TheVariants.{Smaller as smaller, Equal as equal, Greater as greater}
use Rattle.ordering.specs.declared.decision.Clause.TheVariants.{L1 as by_L1, L2 as by_L2, L3 as by_L3}
use Rattle.ordering.specs.declared.decision.Decision.{Decision}
use Rattle.ordering.specs.declared.decision.Decision.TheVariants.{Smaller as smaller_by, Equal as equal_terms, Greater as greater_by}
use Rattle.ordering.specs.Verdict.{verdict, verdict_number}
use Rattle.ordering.specs.Decision.{decision, verdict_of, clause_number_of}
use Rattle.ordering.specs.Theory.Verdict.{number_few, number_unique}
use Rattle.ordering.specs.Theory.Total.{VerdictSays, verdict_exact}
use Rattle.ordering.proofs.Theory.Decision.{decision_verdict, DecisionSays, decision_exact, decision_unique}
use Rattle.sheet.specs.Sheet.{Task, run, judgement, comparison, Sheet}
use Rattle.sheet.specs.Reading.{Reading, refused_at, accepted, read}
use Rattle.sheet.specs.ForContracts.Valid.{ValidTask}
use Rattle.sheet.specs.Theory.Accepted.{accepted_valid}
use Rattle.outcomes.specs.Buffer.{fields, first_field, refusal_byte}
use Rattle.outcomes.specs.Asked.{found, find, asked, Pair, comparison_in, comparison_task}
use Rattle.outcomes.specs.Outcome.{decision_fields, compare_answer, compare_call}
use Rattle.outcomes.specs.Theory.Number.{fields_byte, first_field_of, refused_not_zero}
use Rattle.neblinaro.specs.Demands.{Served, ComparisonTask, VerdictDemand, VerdictsDemanded, ClauseDemand, ClausesDemanded, CompareServes}

-- The fields tell the decision, and the first its verdict.
fields_verdict : (d : Decision) → first_field (decision_fields d) ≡ verdict_number (verdict_of d)
unfolding decision_fields
fields_verdict d = first_field_of (verdict_number (verdict_of d)) (clause_number_of d) 0 (omega (arith, number_few (verdict_of d)))

fields_decision : (c d : Decision) → decision_fields c ≡ decision_fields d → c ≡ d
unfolding decision_fields fields
fields_decision c d e =
    let v : verdict_number (verdict_of c) ≡ verdict_number (verdict_of d) = sym (fields_verdict c) ∙ ap first_field e ∙ fields_verdict d in
    decision_unique c d (number_unique (verdict_of c) (verdict_of d) v) (omega (arith, e, v))

module _ (sheet : List ℕ) (task : ℕ) (scratch : List ℕ) where
  asked_pair : (q : Pair) → asked true sheet (comparison_task task) ≡ accepted q → (n : ComparisonTask sheet task) × (n.first ≡ q.first) × (n.second ≡ q.second)
  unfolding asked find found comparison_task comparison_in
  asked_pair q h = from (read sheet) refl h
    where
      in_task : (s : Sheet) → read sheet ≡ accepted s → (o : Option Task) → entry s.tasks task ≡ o → found (comparison_in o) ≡ accepted q
          → (n : ComparisonTask sheet task) × (n.first ≡ q.first) × (n.second ≡ q.second)
      in_task s r none x h = let z : ◌≡◌ {A = ℕ} 0 1 = cc in absurd (omega arith)
      in_task s r (some (run k u)) x h = let z : ◌≡◌ {A = ℕ} 0 1 = cc in absurd (omega arith)
      in_task s r (some (judgement e d ts)) x h = let z : ◌≡◌ {A = ℕ} 0 1 = cc in absurd (omega arith)
      in_task s r (some (comparison u w)) x h =
          let k : ◌≡◌ {A = Pair} (record { first = u; second = w }) q = cc in
          let v : ValidTask s.arities s.equations (comparison u w) = every_entry (ValidTask s.arities s.equations) s.tasks task (accepted_valid sheet s r).0.tasks x in
          (record { content = s; reads = r; first = u; second = w; task_there = x; first_ground = v.0; second_ground = v.1 }, ap (λ q. q.first) k, ap (λ q. q.second) k)

      from : (r : Reading Sheet) → read sheet ≡ r → find (comparison_task task) r ≡ accepted q → (n : ComparisonTask sheet task) × (n.first ≡ q.first) × (n.second ≡ q.second)
      from (refused_at x l) r h = let z : ◌≡◌ {A = ℕ} 0 1 = cc in absurd (omega arith)
      from (accepted s) r h = in_task s r (entry s.tasks task) refl h

  -- What the number tells.
  module _ (n : ComparisonTask sheet task) (e : (compare_call sheet task scratch).returned ≡ decision_fields (decision n.first n.second)) where
    verdict_told : (v : Verdict) → (first_field (compare_call sheet task scratch).returned ≡ verdict_number v) ↔ VerdictSays v n.first n.second
    verdict_told v =
        let (a, b) = verdict_exact n.content.arities n.first n.second n.first_ground n.second_ground v in
        let d : first_field (compare_call sheet task scratch).returned ≡ verdict_number (verdict n.first n.second) =
        ap first_field e ∙ fields_verdict (decision n.first n.second) ∙ ap verdict_number (decision_verdict n.first n.second) in
        (λ h. a (number_unique _ v (sym d ∙ h)), λ h. d ∙ ap verdict_number (b h))

    decision_told : (d : Decision) → ((compare_call sheet task scratch).returned ≡ decision_fields d) ↔ DecisionSays d n.first n.second
    decision_told d =
        let (a, b) = decision_exact n.content.arities n.first n.second n.first_ground n.second_ground d in
        (λ h. a (fields_decision _ d (sym e ∙ h)), λ h. e ∙ ap decision_fields (b h))

    verdicts : VerdictDemand sheet task scratch
    unfolding verdict_number
    verdicts = record { named = n; greater_told = verdict_told greater; equal_told = verdict_told equal; smaller_told = verdict_told smaller }

    clauses : ClauseDemand sheet task scratch
    unfolding decision_fields verdict_number verdict_of clause_number_of
    clauses = record {
      named = n;
      greater_by_L1 = decision_told (greater_by by_L1);
      greater_by_L2 = decision_told (greater_by by_L2);
      greater_by_L3 = decision_told (greater_by by_L3);
      equal_told = decision_told equal_terms;
      smaller_by_L1 = decision_told (smaller_by by_L1);
      smaller_by_L2 = decision_told (smaller_by by_L2);
      smaller_by_L3 = decision_told (smaller_by by_L3);
    }

  -- The terms that are compared where no refusal is named.
  record Compared : Type 0 where
    terms : ComparisonTask sheet task
    gives : (compare_call sheet task scratch).returned ≡ decision_fields (decision terms.first terms.second)

  compared : Served (compare_call sheet task scratch).returned → Compared
  unfolding compare_call compare_answer asked
  compared h = fits (leb scratch_bytes (length scratch)) refl h
    where
      answer : leb scratch_bytes (length scratch) ≡ true → (r : Reading Pair) → asked true sheet (comparison_task task) ≡ r → refusal_byte (compare_answer scratch r).returned ≡ 0 → Compared
      answer f (refused_at r l) a h = absurd (refused_not_zero r l h)
      answer f (accepted q) a h =
          let (n, x, y) = asked_pair q a in
          record { terms = n; gives = rw (f, a, x, y) }

      fits : (b : Bool) → leb scratch_bytes (length scratch) ≡ b → refusal_byte (compare_answer scratch (asked b sheet (comparison_task task))).returned ≡ 0 → Compared
      fits false f h = absurd (refused_not_zero short_buffer 0 h)
      fits true f h = answer f (asked true sheet (comparison_task task)) refl h

pub verdicts_demanded : VerdictsDemanded
verdicts_demanded sheet task scratch h = let c = compared sheet task scratch h in verdicts sheet task scratch c.terms c.gives

pub clauses_demanded : ClausesDemanded
clauses_demanded sheet task scratch h = let c = compared sheet task scratch h in clauses sheet task scratch c.terms c.gives

pub compare_serves : CompareServes
unfolding compare_call compare_answer decision_fields asked find found comparison_task comparison_in
compare_serves sheet s task t u scratch r x l = rw (le-leb scratch_bytes (length scratch) l, r, x) (fields_byte _ _ 0)
