-- Demand 3 for runs, over what run gives.
use Rattle.std.specs.Prelude.{ℕ, ◌≡◌, Bool, false, List}
use Rattle.std.proofs.Math.Path.{refl}
use Rattle.std.proofs.Common.{sym, ap, subst, inl, arith}
use Rattle.std.proofs.Math.Logic.{inr}
use Rattle.std.proofs.Math.Bool.{true}
use Rattle.std.proofs.Math.Option.{Option, none, some}
use Rattle.format.specs.declared.refusal.Refusal.TheVariants.{ShortBuffer as short_buffer, AbsentArgument as absent_argument}
use Rattle.format.specs.Lists.{entry}
use Rattle.format.specs.Theory.Lists.{every_entry}
use Rattle.terms.specs.Term.{Term, Ground}
use Rattle.terms.specs.Filling.{filling}
use Rattle.sheet.specs.Sheet.{Task, run as run_task, judgement, comparison, Sheet}
use Rattle.sheet.specs.Reading.{Reading, refused_at, accepted, read}
use Rattle.sheet.specs.ForContracts.Valid.{ValidTask}
use Rattle.sheet.specs.Theory.Accepted.{accepted_valid}
use Rattle.reducing.specs.Test.{reference_run, EverySolves}
use Rattle.reducing.proofs.Theory.Reference.{run_is_reference_run, run_descending}
use Rattle.reducing.specs.Walks.{WalkRefusal, first_refusal}
use Rattle.outcomes.specs.Buffer.{refusal_byte}
use Rattle.outcomes.specs.Asked.{found, find, asked, Reduction, reduction_in, reduction_task}
use Rattle.outcomes.specs.Outcome.{run_fits, run_done, run_walked, run_answer, run_call}
use Rattle.outcomes.specs.Theory.Number.{fields_byte, refused_byte, refused_not_zero}
use Rattle.neblinaro.specs.Demands.{RunNamed, RunDemand, RunsDemanded, RunsAreReferenceRuns, RunServes, ServedOrHost, RunRefusedByHost}
use Rattle.neblinaro.specs.Theory.Walks.{accepted_limits}
use Rattle.reducing.specs.Theory.Walks.{none_refused, every_solves}

abbrev pub the_reduction : {sheet : List ℕ} {task : ℕ} → RunNamed sheet task → Reduction
the_reduction n = record { filling = filling n.content.arities; equations = n.content.equations; limit = n.limit; subject = n.subject }

named_asked : (sheet : List ℕ) (task : ℕ) (n : RunNamed sheet task) → asked true sheet (reduction_task task) ≡ accepted (the_reduction n)
unfolding asked find found reduction_task reduction_in
named_asked sheet task n = rw (n.reads, n.task_there)

run_ground : (sheet : List ℕ) (task : ℕ) {k : ℕ} {u : Term} (s : Sheet) → read sheet ≡ accepted s → entry s.tasks task ≡ some (run_task k u) → Ground s.arities u
run_ground sheet task s r x = (every_entry (ValidTask s.arities s.equations) s.tasks task (accepted_valid sheet s r).0.tasks x).1

asked_run : (sheet : List ℕ) (task : ℕ) (t : Reduction) → asked true sheet (reduction_task task) ≡ accepted t → (n : RunNamed sheet task) × (the_reduction n ≡ t)
unfolding asked find found reduction_task reduction_in
asked_run sheet task t h = from (read sheet) refl h
  where
    in_task : (s : Sheet) → read sheet ≡ accepted s → (o : Option Task) → entry s.tasks task ≡ o → found (reduction_in (filling s.arities) s.equations o) ≡ accepted t → (n : RunNamed sheet task) × (the_reduction n ≡ t)
    in_task s r none x h = let z : ◌≡◌ {A = ℕ} 0 1 = cc in absurd (omega arith)
    in_task s r (some (run_task k u)) x h = (record { content = s; reads = r; limit = k; subject = u; task_there = x; subject_ground = run_ground sheet task s r x }, cc)
    in_task s r (some (judgement e d ts)) x h = let z : ◌≡◌ {A = ℕ} 0 1 = cc in absurd (omega arith)
    in_task s r (some (comparison u w)) x h = let z : ◌≡◌ {A = ℕ} 0 1 = cc in absurd (omega arith)

    from : (r : Reading Sheet) → read sheet ≡ r → find (reduction_task task) r ≡ accepted t → (n : RunNamed sheet task) × (the_reduction n ≡ t)
    from (refused_at x l) r h = let z : ◌≡◌ {A = ℕ} 0 1 = cc in absurd (omega arith)
    from (accepted s) r h = in_task s r (entry s.tasks task) refl h

module _ (sheet : List ℕ) (task : ℕ) (table scratch term log : List ℕ) where
  -- 1. Where every direction solves, run gives the steps, the count, the ending and the last term of the reference run.
  pub run_gives : (n : RunNamed sheet task) → run_fits table scratch term log ≡ true → EverySolves n.content.equations
      → run_call sheet task table scratch term log ≡ run_done table scratch term log n.subject (reference_run (filling n.content.arities) n.content.equations n.limit n.subject)
  unfolding run_call run_answer run_walked
  run_gives n f s =
      rw (f, named_asked sheet task n, none_refused 0 n.content.equations s)
      (ap (run_done table scratch term log n.subject) (run_is_reference_run (filling n.content.arities) n.content.equations (accepted_limits sheet n.content n.reads) s n.limit n.subject))

  -- 2. Demand 3 for runs.
  run_demand_of : (n : RunNamed sheet task) → run_fits table scratch term log ≡ true → EverySolves n.content.equations → RunDemand sheet task table scratch term log
  run_demand_of n f s =
      let w = accepted_limits sheet n.content n.reads in
      record {
        named = n;
        solves = s;
        given = run_gives n f s;
        same_run = run_is_reference_run (filling n.content.arities) n.content.equations w s;
        descending = run_descending (filling n.content.arities) n.content.equations w s;
      }

  pub run_demand : refusal_byte (run_call sheet task table scratch term log).returned ≡ 0 → RunDemand sheet task table scratch term log
  unfolding run_call run_answer run_walked asked
  run_demand h = fits (run_fits table scratch term log) refl h
    where
      walks : (n : RunNamed sheet task) → run_fits table scratch term log ≡ true → (o : Option WalkRefusal) → first_refusal 0 n.content.equations ≡ o
          → refusal_byte (run_walked table scratch term log (the_reduction n) o).returned ≡ 0 → RunDemand sheet task table scratch term log
      walks n f (some r) x h = absurd (refused_not_zero r.refusal r.line h)
      walks n f none x h = run_demand_of n f (every_solves 0 n.content.equations x)

      answer : run_fits table scratch term log ≡ true → (r : Reading Reduction) → asked true sheet (reduction_task task) ≡ r → refusal_byte (run_answer table scratch term log r).returned ≡ 0 → RunDemand sheet task table scratch term log
      answer f (refused_at r l) a h = absurd (refused_not_zero r l h)
      answer f (accepted t) a h = let (n, x) = asked_run sheet task t a in walks n f (first_refusal 0 n.content.equations) refl (subst (λ t. refusal_byte (run_answer table scratch term log (accepted t)).returned ≡ 0) (sym x) h)

      fits : (b : Bool) → run_fits table scratch term log ≡ b → refusal_byte (run_answer table scratch term log (asked b sheet (reduction_task task))).returned ≡ 0 → RunDemand sheet task table scratch term log
      fits false f h = absurd (refused_not_zero short_buffer 0 h)
      fits true f h = answer f (asked true sheet (reduction_task task)) refl h

  -- 3. On an accepted sheet no refusal but 11 or 12 meets run where every direction solves.
  pub run_served_or_host : (s : Sheet) → read sheet ≡ accepted s → EverySolves s.equations → ServedOrHost (run_call sheet task table scratch term log).returned
  unfolding run_call run_answer run_walked run_done asked find found reduction_task reduction_in
  run_served_or_host s r every = fits (run_fits table scratch term log)
    where
      in_task : (o : Option Task) → ServedOrHost (run_answer table scratch term log (found (reduction_in (filling s.arities) s.equations o))).returned
      in_task none = inr (inr (refused_byte absent_argument 0))
      in_task (some (run_task k u)) = rw (none_refused 0 s.equations every) (inl (fields_byte _ _ _))
      in_task (some (judgement e d ts)) = inr (inr (refused_byte absent_argument 0))
      in_task (some (comparison u w)) = inr (inr (refused_byte absent_argument 0))

      fits : (b : Bool) → ServedOrHost (run_answer table scratch term log (asked b sheet (reduction_task task))).returned
      fits false = inr (inl (refused_byte short_buffer 0))
      fits true = rw r (in_task (entry s.tasks task))

pub runs_demanded : RunsDemanded
runs_demanded sheet task table scratch term log h = run_demand sheet task table scratch term log h

pub run_refused_by_host : RunRefusedByHost
run_refused_by_host sheet s task table scratch term log r every = run_served_or_host sheet task table scratch term log s r every

pub runs_are_reference_runs : RunsAreReferenceRuns
runs_are_reference_runs sheet s r every k subject =
    let within = accepted_limits sheet s r in
    (run_is_reference_run (filling s.arities) s.equations within every k subject, run_descending (filling s.arities) s.equations within every k subject)

pub run_serves : RunServes
unfolding run_done
run_serves sheet s task k t table scratch term log r x every f =
    let n : RunNamed sheet task = record { content = s; reads = r; limit = k; subject = t; task_there = x; subject_ground = run_ground sheet task s r x } in
    rw (run_gives sheet task table scratch term log n f every) (fields_byte _ _ _)
