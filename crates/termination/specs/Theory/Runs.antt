-- The run without its limits ends for every ground term, where every direction solves (document 02, W10).
use Prim.Native.Nat.{ℕ, zero, suc, ◌+◌, ◌≤◌}
use Rattle.std.proofs.Math.Path.{◌≡◌, ap}
use Rattle.std.specs.Prelude.{refl, List, [], ◌∷◌}
use Rattle.std.proofs.Common.{sym, ◌∙◌, arith}
use Rattle.std.proofs.Math.Option.{Option, none, some}
use mathlib.Core.WellFounded.{Acc}
use Rattle.std.proofs.Math.ListN.{length}
use Rattle.format.specs.Lists.{Every}
use Rattle.format.specs.Theory.Lists.{every_map}
use Rattle.terms.specs.Term.{Term, Ground}
use Rattle.terms.specs.Equation.{Equation}
use Rattle.terms.specs.ForContracts.Limits.{WithinLimits}
use Rattle.path_order.specs.Order.{◌≻◌}
use Rattle.path_order.specs.Below.{Below}
use Rattle.path_order.proofs.Theory.Accessible.{ground_accessible}
use Rattle.sheet.specs.ForContracts.Valid.{ValidEquation}
use Rattle.reducing.specs.declared.ending.Ending.TheVariants.{NoneFound as none_found}
use Rattle.reducing.specs.Reduction.{Reduces}
use Rattle.reducing.specs.Run.{Step, Run, after_step, step, run_within_with, run_within}
use Rattle.reducing.specs.Test.{EverySolves, line_test, reference_test, line_run}
use Rattle.reducing.proofs.Theory.Step.{step_taken}
use Rattle.reducing.proofs.Theory.Runs.{Runs, no_step as none_left, all_done, too_large, one_step as step_then, run_runs, step_same}
use Rattle.reducing.proofs.Theory.Reference.{reduces_exceeds, taken_step, all_agree, all_exact}
use Rattle.termination.specs.Run.{run_allowed, RunEnds}
use Rattle.termination.specs.Theory.Reduction.{reduces_ground}

module _ (arities : List ℕ) (filling : Term) (is_ground : Ground arities filling) (es : List Equation) (valid : Every (ValidEquation arities) es) where
  within : Every WithinLimits es
  within = every_map (λ e v. v.limits) es valid

  module _ (solves : EverySolves es) where
    -- A step of the run is a reduction, as one of the reference run.
    step_reduces : (subject : Term) (s : Step) → step filling line_test es subject ≡ some s → Reduces filling es subject s.result
    step_reduces subject s e =
        let same = step_same filling line_test reference_test es (all_agree es (all_exact es within) solves) subject in
        (taken_step filling es within subject s (step_taken filling reference_test es subject s (sym same ∙ e))).reduces

    -- No step is found; and one step with the run after it.
    no_step : (subject : Term) → step filling line_test es subject ≡ none → RunEnds filling es subject
    unfolding run_allowed
    no_step subject e = record { steps = []; ends = ends }
      where
        ends : (k : ℕ) → 0 ≤ k → run_allowed filling es subject k ≡ record { steps = []; ending = none_found }
        ends zero l = rw (e, run_within, run_within_with)
        ends (suc k) l = rw (e, run_within, run_within_with)

    one_step : (subject : Term) (s : Step) → step filling line_test es subject ≡ some s → RunEnds filling es s.result → RunEnds filling es subject
    unfolding run_allowed after_step
    one_step subject s e r = record { steps = s ∷ r.steps; ends = ends }
      where
        ends : (k : ℕ) → length (s ∷ r.steps) ≤ k → run_allowed filling es subject k ≡ record { steps = s ∷ r.steps; ending = none_found }
        ends zero l = absurd (omega arith)
        ends (suc k) l = rw (e, run_within, run_within_with) (ap (after_step s) (r.ends k (omega arith)))

    ends_from : {subject : Term} → Acc (Below arities) subject → Ground arities subject → RunEnds filling es subject
    ends_from (Acc.intro subject below) g = go (λ t y h. ends_from (below t (y, h)) y) (step filling line_test es subject) refl
      where
        go : ((t : Term) → Ground arities t → subject ≻ t → RunEnds filling es t) → (o : Option Step) → step filling line_test es subject ≡ o → RunEnds filling es subject
        go ih none e = no_step subject e
        go ih (some s) e = let r = step_reduces subject s e in one_step subject s e (ih s.result (reduces_ground arities filling is_ground es valid r g) (reduces_exceeds r))

    pub run_ends : (subject : Term) → Ground arities subject → RunEnds filling es subject
    run_ends subject g = ends_from (ground_accessible arities subject g) g

-- A run of document 01 that ends for want of a step is the run without limits.
module _ (filling : Term) (es : List Equation) where
  run_freed : {k : ℕ} {subject : Term} {r : Run} → Runs filling line_test es k subject r → r.ending ≡ none_found → (m : ℕ) → k ≤ m → run_allowed filling es subject m ≡ r
  unfolding run_allowed after_step
  run_freed (none_left e) h zero l = rw (e, run_within, run_within_with)
  run_freed (none_left e) h (suc m) l = rw (e, run_within, run_within_with)
  run_freed (all_done e) h m l = let z : ◌≡◌ {A = ℕ} 0 1 = cc in absurd (omega arith)
  run_freed (too_large e x) h m l = let z : ◌≡◌ {A = ℕ} 0 1 = cc in absurd (omega arith)
  run_freed (step_then e x r) h zero l = absurd (omega arith)
  run_freed (step_then {s = s} e x r) h (suc m) l = rw (e, run_within, run_within_with) (ap (after_step s) (run_freed r h m (omega arith)))

  pub ends_as_run : (k : ℕ) (subject : Term) → (line_run filling es k subject).ending ≡ none_found → (u : RunEnds filling es subject) → u.steps ≡ (line_run filling es k subject).steps
  unfolding line_run
  ends_as_run k subject h u =
      let m = length u.steps + k in
      ap (λ r. r.steps) (sym (u.ends m (omega arith)) ∙ run_freed (run_runs filling line_test es k subject) h m (omega arith))

  -- And it has one end.
  pub run_ends_once : (subject : Term) (u v : RunEnds filling es subject) → u.steps ≡ v.steps
  run_ends_once subject u v =
      let m = length u.steps + length v.steps in
      ap (λ r. r.steps) (sym (u.ends m (omega arith)) ∙ v.ends m (omega arith))
