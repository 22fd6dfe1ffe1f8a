-- The frames of logged steps, one after the other.
use Prim.Native.Nat.{ℕ, zero, suc, ◌+◌, ◌*◌, ◌≤◌, ◌<◌}
use mathlib.Core.Path.{◌≡◌, refl, sym, ap, ◌∙◌}
use mathlib.Core.List.{List, [], ◌∷◌, ◌++◌, map, map-append}
use native.Mathlib.Numerals.{add-one}
use native.Mathlib.Omega.{arith}
use lib.ListN.{length, get_or, take}
use lib.Seq.{get_or-take}
use Rattle.terms.specs.Equation.{direction_number}
use Rattle.reducing.specs.Run.{Step}
use Rattle.outcomes.specs.Outcome.{log_of}
use Rattle.listing.specs.Listing.{printed, step_kind, step_frame}
use Rattle.listing.specs.ForContracts.Appended.{Appended}
use Rattle.listing.specs.Theory.Printed.{printed_append, length_printed_one}
use Rattle.listing.specs.Theory.Appended.{appended_none, appended_join, appended_text}
use Rattle.frames.specs.ForContracts.Room.{step_room}

-- Step `i` of these, and its bytes in the log.
pub record StepAt (taken : List Step) (i : ℕ) : Type 0 where
  pub this : Step
  pub next : take (suc i) taken ≡ take i taken ++ (this ∷ [])
  pub equation_byte : get_or (log_of taken) (3 * i) 0 ≡ this.equation
  pub direction_byte : get_or (log_of taken) (3 * i + 1) 0 ≡ direction_number this.direction
  pub position_byte : get_or (log_of taken) (3 * i + 2) 0 ≡ this.position

pub step_at : (taken : List Step) (i : ℕ) → i < length taken → StepAt taken i
unfolding log_of
step_at [] i h = absurd (omega arith)
step_at (s ∷ ss) zero h = record { this = s; next = refl; equation_byte = refl; direction_byte = refl; position_byte = refl }
step_at (s ∷ ss) (suc i) h =
    let x = step_at ss i (omega arith) in
    let e : 3 * suc i ≡ suc (suc (suc (3 * i))) = omega arith in
    let f : 3 * suc i + 1 ≡ suc (suc (suc (3 * i + 1))) = omega arith in
    let g : 3 * suc i + 2 ≡ suc (suc (suc (3 * i + 2))) = omega arith in
    record {
      this = x.this;
      next = ap (s ∷◌) x.next;
      equation_byte = ap (λ n. get_or (log_of (s ∷ ss)) n 0) e ∙ x.equation_byte;
      direction_byte = ap (λ n. get_or (log_of (s ∷ ss)) n 0) f ∙ x.direction_byte;
      position_byte = ap (λ n. get_or (log_of (s ∷ ss)) n 0) g ∙ x.position_byte;
    }

-- The frames of the steps before step `i` are printed.
pub record StepsPassed (log before : List ℕ) (at steps : ℕ) (out : List ℕ) (to i : ℕ) : Type 0 where
  pub within : i ≤ steps
  pub reached : to ≡ at + step_room * i
  pub same_length : length out ≡ length before
  pub so_far : (taken : List Step) → steps ≡ length taken → take (3 * steps) log ≡ log_of taken → Appended before at (printed (map step_frame (take i taken))) out to

pub no_steps_passed : (log before : List ℕ) (at steps : ℕ) → StepsPassed log before at steps before at 0
unfolding printed
no_steps_passed log before at steps = record { within = omega arith; reached = omega arith; same_length = refl; so_far = λ taken e l. appended_none before at }

module _ {log before : List ℕ} {at steps : ℕ} {out : List ℕ} {to i : ℕ} (p : StepsPassed log before at steps out to i) where
  pub step_passed : {after : List ℕ} {end : ℕ} → i < steps
      → Appended out to (printed ((step_kind ∷ get_or log (3 * i) 0 ∷ get_or log (3 * i + 1) 0 ∷ get_or log (3 * i + 2) 0 ∷ []) ∷ [])) after end
      → StepsPassed log before at steps after end (i + 1)
  unfolding step_frame
  step_passed {after} {end} h x = record {
    within = omega arith;
    reached = omega (arith, p.reached, x.ends, length_printed_one (step_kind ∷ get_or log (3 * i) 0 ∷ get_or log (3 * i + 1) 0 ∷ get_or log (3 * i + 2) 0 ∷ []));
    same_length = x.same_length ∙ p.same_length;
    so_far = next;
  }
    where
      next : (taken : List Step) → steps ≡ length taken → take (3 * steps) log ≡ log_of taken → Appended before at (printed (map step_frame (take (i + 1) taken))) after end
      next taken e l =
          let s = step_at taken i (omega arith) in
          let byte : (k : ℕ) → k < 3 * steps → get_or log k 0 ≡ get_or (log_of taken) k 0 = λ k b. sym (get_or-take (3 * steps) log k 0 b) ∙ ap (λ m. get_or m k 0) l in
          let a = byte (3 * i) (omega arith) ∙ s.equation_byte in
          let b = byte (3 * i + 1) (omega arith) ∙ s.direction_byte in
          let d = byte (3 * i + 2) (omega arith) ∙ s.position_byte in
          let frame : step_kind ∷ get_or log (3 * i) 0 ∷ get_or log (3 * i + 1) 0 ∷ get_or log (3 * i + 2) 0 ∷ [] ≡ step_frame s.this = cc in
          let all : printed (map step_frame (take i taken)) ++ printed (step_frame s.this ∷ []) ≡ printed (map step_frame (take (i + 1) taken)) =
          sym (printed_append (map step_frame (take i taken)) (step_frame s.this ∷ []))
          ∙ ap printed (sym (map-append step_frame (take i taken) (s.this ∷ [])) ∙ (ap (map step_frame) (sym s.next) ∙ ap (λ n. map step_frame (take n taken)) (sym (add-one i)))) in
          appended_text all (appended_join (printed (map step_frame (take i taken))) (printed (step_frame s.this ∷ [])) (p.so_far taken e l) (appended_text (ap (λ f. printed (f ∷ [])) frame) x))
