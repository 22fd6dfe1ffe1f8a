-- The frames of a run, printed from its course.
use Prim.Native.Nat.{ℕ, ◌*◌, ◌≤◌}
use mathlib.Core.Path.{◌≡◌, sym, ap, ◌∙◌}
use mathlib.Core.List.{List, [], ◌∷◌, ◌++◌, map}
use lib.ListN.{length, take, drop}
use lib.Seq.{take_at}
use Rattle.format.specs.Limits.{max_steps}
use Rattle.format.specs.Buffer.{written}
use Rattle.terms.specs.Term.{Term}
use Rattle.terms.specs.Prefix.{prefix}
use Rattle.terms.specs.Theory.Prefix.{length_prefix}
use Rattle.terms.specs.Equation.{Equation}
use Rattle.sheet.specs.Sheet.{run}
use Rattle.reducing.specs.Run.{Step, ending_number}
use Rattle.outcomes.specs.Outcome.{log_of}
use Rattle.outcomes.specs.Theory.Outcomes.{length_log}
use Rattle.run_steps.specs.declared.course.Course.{Course}
use Rattle.run_steps.specs.ForContracts.Course.{the_run, last_of}
use Rattle.run_term.specs.ForContracts.RunTerm.{RunCourse}
use Rattle.listing.specs.Listing.{printed, run_kind, step_frame, run_frames, task_frames}
use Rattle.listing.specs.ForContracts.Appended.{Appended}
use Rattle.listing.specs.Theory.Printed.{printed_append}
use Rattle.listing.specs.Theory.Appended.{appended_join, appended_text}
use Rattle.cursor.specs.Theory.Rest.{task_steps}
use Rattle.tasks.specs.ForContracts.Task.{TaskGiven}
use Rattle.tasks.proofs.TaskLaws.{appended_within}

module _ {arities : List ℕ} {es : List Equation} {k : ℕ} {subject : Term} {term term_after log log_after : List ℕ} {course : Course} (r : RunCourse arities es k subject term term_after log log_after course) where
  last_bytes : take course.size term_after ≡ prefix (last_of arities es k subject)
  unfolding written
  last_bytes =
      let last = prefix (last_of arities es k subject) in
      ap (take course.size) r.term_is ∙ take_at last (drop (length last) term) course.size (length_prefix (last_of arities es k subject) ∙ sym r.size_is)

  logged : take (3 * course.steps) log_after ≡ log_of (the_run arities es k subject).steps
  unfolding written
  logged =
      let steps = (the_run arities es k subject).steps in
      ap (take (3 * course.steps)) r.log_is ∙ take_at (log_of steps) (drop (length (log_of steps)) log) (3 * course.steps) (length_log steps ∙ ap (3 *◌) (sym r.steps_are))

  pub run_given : {out between after : List ℕ} {middle end : ℕ} → k ≤ max_steps
      → ((taken : List Step) → course.steps ≡ length taken → take (3 * course.steps) log_after ≡ log_of taken → Appended out 0 (printed (map step_frame taken)) between middle)
      → Appended between middle (printed ((run_kind ∷ ending_number course.ending ∷ course.steps ∷ take course.size term_after) ∷ [])) after end
      → TaskGiven arities es (run k subject) out after (record { bytes = end; steps = course.steps })
  unfolding task_frames run_frames task_steps
  run_given {out} {after = after} {end = end} low x y =
      let steps = (the_run arities es k subject).steps in
      let told = run_kind ∷ ending_number course.ending ∷ course.steps ∷ take course.size term_after in
      let last = run_kind ∷ ending_number (the_run arities es k subject).ending ∷ length steps ∷ prefix (last_of arities es k subject) in
      let same : told ≡ last =
      ap (λ n. run_kind ∷ ending_number n ∷ course.steps ∷ take course.size term_after) r.ending_is
      ∙ (ap (λ n. run_kind ∷ ending_number (the_run arities es k subject).ending ∷ n ∷ take course.size term_after) r.steps_are
      ∙ ap (λ l. run_kind ∷ ending_number (the_run arities es k subject).ending ∷ length steps ∷ l) last_bytes) in
      let all : printed (map step_frame steps) ++ printed (told ∷ []) ≡ printed (map step_frame steps ++ last ∷ []) =
      ap (λ f. printed (map step_frame steps) ++ printed (f ∷ [])) same ∙ sym (printed_append (map step_frame steps) (last ∷ [])) in
      let appended = appended_text all (appended_join (printed (map step_frame steps)) (printed (told ∷ [])) (x steps r.steps_are logged) y) in
      record { appended = appended; steps_are = r.steps_are; few_steps = r.few_steps low; within = appended_within appended }
