-- The run is the reference run wherever every direction solves, and the terms of both descend (document 01, 'Runs').
use Rattle.std.specs.Prelude.{ℕ, ◌<◌, ◌≡◌, refl, ◌↔◌, Bool, true, false, List, [], ◌∷◌, T, ltb}
use Rattle.std.proofs.Common.{sym, ap, ◌∙◌, arith, ltb→lt, lt→ltb}
use Rattle.format.specs.Limits.{variable_count}
use Rattle.format.specs.Lists.{Every}
use Rattle.format.specs.Theory.Lists.{every_entry}
use Rattle.terms.specs.Term.{Term, var, Values, inst}
use Rattle.terms.specs.Equation.{Equation, source, target, value}
use Rattle.terms.specs.declared.direction.Direction.{Direction}
use Rattle.terms.specs.declared.direction.Direction.TheVariants.{LeftRight as left_right, RightLeft as right_left}
use Rattle.terms.specs.ForContracts.Limits.{VariablesBelow, WithinLimits}
use Rattle.path_order.specs.Order.{◌≻◌}
use Rattle.ordering.specs.Theory.Decide.{exceeds?}
use Rattle.path_order.proofs.Theory.Context.{replace_exceeds}
use Rattle.solving.specs.Line.{Line}
use Rattle.solving.specs.Holds.{SomeLineHolds}
use Rattle.solving.specs.Walk.{solved, solve, Solves}
use Rattle.solving.specs.Judge.{first_holding}
use Rattle.solving.specs.Theory.Judge.{first_holding_pos}
use Rattle.solving.proofs.Theory.Solve.{solve_exact}
use Rattle.reducing.specs.Match.{values_of}
use Rattle.reducing.specs.Run.{Step, Descending}
use Rattle.reducing.specs.Reduction.{Reduces, StepReduces, StepsReduce}
use Rattle.reducing.specs.Test.{holding_in, line_test, reference_test, line_run, reference_run, EverySolves}
use Rattle.reducing.proofs.Theory.Match.{match_sound}
use Rattle.reducing.proofs.Theory.Variables.{unmet_filled}
use Rattle.reducing.proofs.Theory.Step.{Taken}
use Rattle.reducing.proofs.Theory.Runs.{AllTaken, run_taken, Agree, run_same}

-- Some line of a solved direction's table holds exactly if the source's instance exceeds the target's.
abbrev pub Exact : Equation → Type 0
Exact e =
    (d : Direction) (table : List Line) (n : ℕ) → solve e d ≡ solved table n → (ρ : Values)
    → (inst ρ (source e d) ≻ inst ρ (target e d)) ↔ SomeLineHolds ρ (value e ρ) table

-- The reference test passes exactly if the source's instance exceeds the target's.
pub reference_test_is : (e : Equation) (d : Direction) (ρ : Values) → (reference_test e d ρ ≡ true) ↔ (inst ρ (source e d) ≻ inst ρ (target e d))
unfolding reference_test
reference_test_is e d ρ = go (exceeds? (inst ρ (source e d)) (inst ρ (target e d)))
  where
    go : (x : Dec (inst ρ (source e d) ≻ inst ρ (target e d)))
        → (elim x as (λ x. Bool) [ yes g ↦ true | no n ↦ false ] ≡ true) ↔ (inst ρ (source e d) ≻ inst ρ (target e d))
    go (yes g) = (λ h. g, λ h. refl)
    go (no n) = (λ h. let z : ◌≡◌ {A = ℕ} 0 1 = cc in absurd (omega arith), λ g. absurd (n g))

-- The run's test passes exactly if some line of the direction's table holds.
ltb_pos : (n : ℕ) → (ltb 0 n ≡ true) ↔ (0 < n)
ltb_pos n = (λ h. ltb→lt 0 n (rw h tt), λ l. go (ltb 0 n) (lt→ltb 0 n l))
  where
    go : (b : Bool) → T b → b ≡ true
    go true h = refl
    go false h = elim h [ ]

pub line_test_is : (e : Equation) (d : Direction) (s : Solves e d) (ρ : Values) → (line_test e d ρ ≡ true) ↔ SomeLineHolds ρ (value e ρ) s.table
unfolding line_test
line_test_is e d s ρ =
    let holding = first_holding ρ (value e ρ) s.table in
    let z : line_test e d ρ ≡ ltb 0 holding = ap (λ w. ltb 0 (holding_in e ρ w)) s.walked in
    let pos = first_holding_pos ρ (value e ρ) s.table in
    (λ h. pos.0 ((ltb_pos holding).0 (sym z ∙ h)), λ h. z ∙ (ltb_pos holding).1 (pos.1 h))

-- Where the tables are exact the two tests agree.
same_truth : (a b : Bool) → (a ≡ true → b ≡ true) → (b ≡ true → a ≡ true) → a ≡ b
same_truth true true f g = refl
same_truth true false f g = sym (f refl)
same_truth false true f g = g refl
same_truth false false f g = refl

pub tests_agree : (e : Equation) → Exact e → ((d : Direction) → Solves e d) → Agree line_test reference_test e
tests_agree e exact solves d ρ =
    let s = solves d in
    let x = exact d s.table s.turns s.walked ρ in
    let (a, b) = line_test_is e d s ρ in
    let (f, g) = reference_test_is e d ρ in
    same_truth _ _ (λ h. g (x.1 (a h))) (λ h. b (x.0 (f h)))

pub all_agree : (es : List Equation) → Every Exact es → EverySolves es → Every (Agree line_test reference_test) es
all_agree [] x s = tt
all_agree (e ∷ es) x s = (tests_agree e x.0 s.0, all_agree es x.1 s.1)

-- Where every direction solves, and the tables are exact, the run is the reference run: the same steps, ending and last term.
pub exact_run_is_reference_run : (filling : Term) (es : List Equation) → Every Exact es → EverySolves es → (k : ℕ) (subject : Term) → line_run filling es k subject ≡ reference_run filling es k subject
unfolding line_run reference_run
exact_run_is_reference_run filling es x s k subject = run_same filling line_test reference_test es (all_agree es x s) k subject

pub source_variables : {e : Equation} → WithinLimits e → (d : Direction) → VariablesBelow variable_count (source e d)
unfolding source
source_variables w left_right = w.left_variables
source_variables w right_left = w.right_variables

-- A term that reduces to another exceeds it.
pub reduces_exceeds : {filling : Term} {es : List Equation} {s t : Term} → Reduces filling es s t → s ≻ t
reduces_exceeds {s = s} r = rw r.gives (replace_exceeds s r.position (var 0) _ r.inside (rw r.matches r.exceeds))

reducing_descends : (filling : Term) (es : List Equation) (subject : Term) (steps : List Step) → StepsReduce filling es subject steps → Descending subject steps
reducing_descends filling es subject [] h = tt
reducing_descends filling es subject (s ∷ steps) h = (reduces_exceeds h.0.reduces, reducing_descends filling es s.result steps h.1)

module _ (filling : Term) (es : List Equation) (within : Every WithinLimits es) where
  -- A step of the reference run is a reduction.
  pub taken_step : (subject : Term) (s : Step) → Taken filling reference_test es subject s → StepReduces filling es subject s
  taken_step subject s t =
      let r = t.rewrites in
      let e = t.chosen in
      let d = s.direction in
      let w : WithinLimits e = every_entry WithinLimits es s.equation within t.numbered in
      record {
        reduces = record {
          number = s.equation;
          equation = e;
          equation_there = t.numbered;
          direction = d;
          position = s.position;
          inside = t.inside;
          values = values_of filling r.found;
          matches = sym (match_sound filling _ _ r.found (source_variables w d) r.matches);
          fills = λ v h. unmet_filled filling _ _ r.found v r.matches h;
          exceeds = (reference_test_is e d (values_of filling r.found)).0 r.passes;
          gives = r.gives;
        };
        same_equation = refl;
        same_direction = refl;
        same_position = refl;
      }

  all_taken_reduce : (subject : Term) (steps : List Step) → AllTaken filling reference_test es subject steps → StepsReduce filling es subject steps
  all_taken_reduce subject [] a = tt
  all_taken_reduce subject (s ∷ steps) a = (taken_step subject s a.0, all_taken_reduce s.result steps a.1)

  pub reference_run_reduces : (k : ℕ) (subject : Term) → StepsReduce filling es subject (reference_run filling es k subject).steps
  unfolding reference_run
  reference_run_reduces k subject = all_taken_reduce subject (reference_run filling es k subject).steps (run_taken filling reference_test es k subject)

  pub reference_run_descending : (k : ℕ) (subject : Term) → Descending subject (reference_run filling es k subject).steps
  reference_run_descending k subject = reducing_descends filling es subject (reference_run filling es k subject).steps (reference_run_reduces k subject)

-- On equations within the limits the tables are exact.
pub all_exact : (es : List Equation) → Every WithinLimits es → Every Exact es
all_exact [] w = tt
all_exact (e ∷ es) w = (solve_exact e w.0, all_exact es w.1)

module _ (filling : Term) (es : List Equation) (within : Every WithinLimits es) (solves : EverySolves es) (k : ℕ) (subject : Term) where
  -- So there the run is the reference run wherever every direction solves, each of its steps is a reduction, and each of its terms exceeds the next.
  pub run_is_reference_run : line_run filling es k subject ≡ reference_run filling es k subject
  run_is_reference_run = exact_run_is_reference_run filling es (all_exact es within) solves k subject

  pub run_descending : Descending subject (line_run filling es k subject).steps
  run_descending = rw run_is_reference_run (reference_run_descending filling es within k subject)

  pub run_reduces : StepsReduce filling es subject (line_run filling es k subject).steps
  run_reduces = rw run_is_reference_run (reference_run_reduces filling es within k subject)
