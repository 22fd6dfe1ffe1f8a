-- Where the reference run finds no step, no equation reduces the term in any direction.
use Prim.Native.Nat.{ℕ, zero, suc, ◌+◌, ◌<◌}
use Rattle.std.proofs.Math.Path.{◌≡◌, ap, subst}
use Rattle.std.specs.Prelude.{refl, Bool, true, false, length}
use Rattle.std.proofs.Common.{sym, ◌∙◌}
use Rattle.std.proofs.Math.Option.{Option, none, some}
use mathlib.Core.List.{List, [], ◌∷◌}
use native.Mathlib.Omega.{arith}
use Rattle.std.proofs.Math.ListN.{get_or}
use Rattle.format.specs.Lists.{entry, Every}
use Rattle.format.specs.Theory.Lists.{every_entry}
use Rattle.terms.specs.Term.{Term, var, size, Values}
use Rattle.terms.specs.Position.{subterms}
use Rattle.terms.specs.Equation.{Equation, source}
use Rattle.terms.specs.declared.direction.Direction.{Direction}
use Rattle.terms.specs.declared.direction.Direction.TheVariants.{LeftRight as left_right, RightLeft as right_left}
use Rattle.terms.specs.ForContracts.Limits.{WithinLimits}
use Rattle.terms.specs.Theory.Position.{length_subterms}
use Rattle.reducing.specs.Match.{values_of, has_variable}
use Rattle.reducing.specs.Run.{Step, none_found, try, try_equations, try_positions, step, last_term}
use Rattle.reducing.specs.Reduction.{Irreducible}
use Rattle.reducing.specs.Test.{reference_test, reference_run, line_run, EverySolves}
use Rattle.reducing.proofs.Theory.Match.{match_complete}
use Rattle.reducing.proofs.Theory.Variables.{unmet_filled}
use Rattle.reducing.proofs.Theory.Step.{or_else, tested, outcome, try_is}
use Rattle.reducing.proofs.Theory.Runs.{RunEnded, run_ended}
use Rattle.reducing.proofs.Theory.Reference.{reference_test_is, source_variables, run_is_reference_run}

both_none : (o rest : Option Step) → or_else o rest ≡ none → (o ≡ none) × (rest ≡ none)
both_none none rest h = (refl, h)
both_none (some s) rest h = let z : ◌≡◌ {A = ℕ} 0 1 = cc in absurd (omega arith)

-- Where no step is found, none is possible at any position, by any equation, in any direction.
module _ (filling : Term) (test : Equation → Direction → Values → Bool) (subject : Term) where
  equations_tried : (p : ℕ) (part : Term) (n : ℕ) (es : List Equation) → try_equations filling test subject p part n es ≡ none
      → (i : ℕ) {e : Equation} → entry es i ≡ some e → (d : Direction) → try filling test subject p part (n + i) e d ≡ none
  unfolding try_equations entry
  equations_tried p part n [] h i x d = let z : ◌≡◌ {A = ℕ} 0 1 = cc in absurd (omega arith)
  equations_tried p part n (f ∷ es) h zero {e} x d =
      let (first, others) = both_none (try filling test subject p part n f left_right) _ h in
      let (second, later) = both_none (try filling test subject p part n f right_left) _ others in
      let w : f ≡ e = cc in
      let z : n ≡ n + 0 = omega arith in
      subst (λ m. try filling test subject p part m e d ≡ none) z (subst (λ g. try filling test subject p part n g d ≡ none) w (go first second d))
    where
      go : try filling test subject p part n f left_right ≡ none → try filling test subject p part n f right_left ≡ none → (d : Direction) → try filling test subject p part n f d ≡ none
      go first second left_right = first
      go first second right_left = second
  equations_tried p part n (f ∷ es) h (suc i) {e} x d =
      let (first, others) = both_none (try filling test subject p part n f left_right) _ h in
      let (second, later) = both_none (try filling test subject p part n f right_left) _ others in
      let z : suc n + i ≡ n + suc i = omega arith in
      subst (λ m. try filling test subject p part m e d ≡ none) z (equations_tried p part (suc n) es later i x d)

  module _ (es : List Equation) where
    positions_tried : (p : ℕ) (parts : List Term) → try_positions filling test es subject p parts ≡ none
        → (q : ℕ) → q < length parts → try_equations filling test subject (p + q) (get_or parts q (var 0)) 0 es ≡ none
    unfolding try_positions
    positions_tried p [] h q l = absurd (omega arith)
    positions_tried p (part ∷ parts) h zero l =
        let z : p ≡ p + 0 = omega arith in
        subst (λ m. try_equations filling test subject m part 0 es ≡ none) z (both_none (try_equations filling test subject p part 0 es) _ h).0
    positions_tried p (part ∷ parts) h (suc q) l =
        let z : suc p + q ≡ p + suc q = omega arith in
        subst (λ m. try_equations filling test subject m (get_or parts q (var 0)) 0 es ≡ none) z
        (positions_tried (suc p) parts (both_none (try_equations filling test subject p part 0 es) _ h).1 q (omega arith))

    step_tried : step filling test es subject ≡ none → (p : ℕ) → p < size subject → (i : ℕ) {e : Equation} → entry es i ≡ some e → (d : Direction)
        → try filling test subject p (get_or (subterms subject) p (var 0)) i e d ≡ none
    unfolding step
    step_tried h p l i {e} x d =
        let part = get_or (subterms subject) p (var 0) in
        let z : 0 + p ≡ p = omega arith in
        let w : 0 + i ≡ i = omega arith in
        let none_here = positions_tried 0 (subterms subject) h p (omega (arith, length_subterms subject)) in
        subst (λ m. try filling test subject p part m e d ≡ none) w (equations_tried p part 0 es (subst (λ m. try_equations filling test subject m part 0 es ≡ none) z none_here) i x d)

module _ (filling : Term) (es : List Equation) (within : Every WithinLimits es) where
  pub none_reduces : (subject : Term) → step filling reference_test es subject ≡ none → Irreducible filling es subject
  none_reduces subject h result r =
      let e = r.equation in
      let d = r.direction in
      let part = get_or (subterms subject) r.position (var 0) in
      let w : WithinLimits e = every_entry WithinLimits es r.number within r.equation_there in
      let (m, x, agree) = match_complete filling (source e d) part r.values (source_variables w d) (sym r.matches) in
      let same : (v : ℕ) → values_of filling m v ≡ r.values v =
      λ v. value v (has_variable v (source e d)) refl (agree v) (λ n. unmet_filled filling (source e d) part m v x n ∙ sym (r.fills v n)) in
      let all : values_of filling m ≡ r.values = λ i v. same v i in
      let passes : reference_test e d (values_of filling m) ≡ true = ap (reference_test e d) all ∙ (reference_test_is e d r.values).1 r.exceeds in
      let a = try_is filling reference_test subject r.position part r.number e d ∙ (ap (outcome filling reference_test subject r.position r.number e d) x ∙ ap (tested filling subject r.position r.number e d m) passes) in
      let b = step_tried filling reference_test subject es h r.position r.inside r.number r.equation_there d in
      let z : ◌≡◌ {A = ℕ} 0 1 = cc in
      omega arith
    where
      value : {a b : Term} (v : ℕ) (c : Bool) {has : Bool} → has ≡ c → (has ≡ true → a ≡ b) → (has ≡ false → a ≡ b) → a ≡ b
      value v true e f g = f e
      value v false e f g = g e

  -- So a run that ends for want of a step ends with such a term.
  pub run_irreducible : EverySolves es → (k : ℕ) (subject : Term) → (line_run filling es k subject).ending ≡ none_found
      → Irreducible filling es (last_term subject (line_run filling es k subject).steps)
  unfolding reference_run
  run_irreducible solves k subject h =
      let same = run_is_reference_run filling es within solves k subject in
      let ended = run_ended filling reference_test es k subject in
      let e : (reference_run filling es k subject).ending ≡ none_found = ap (λ r. r.ending) (sym same) ∙ h in
      let z = subst (λ x. RunEnded filling reference_test es x k (length (reference_run filling es k subject).steps) (last_term subject (reference_run filling es k subject).steps)) e ended in
      subst (λ r. Irreducible filling es (last_term subject r.steps)) (sym same) (none_reduces _ z)
