-- The end of the walk, as an answer.
use Prim.Native.Nat.{ℕ, ◌<◌}
use mathlib.Core.Path.{◌≡◌, refl, sym, ap, ◌∙◌}
use mathlib.Core.List.{List}
use native.Mathlib.Decide.{dec_lt}
use native.Mathlib.Omega.{arith}
use Rattle.std.proofs.Common.{lt-ltb, le-ltb}
use Rattle.format.specs.Limits.{max_lines}
use Rattle.format.specs.declared.refusal.Refusal.{Refusal}
use Rattle.terms.specs.Equation.{Equation}
use Rattle.terms.specs.declared.direction.Direction.{Direction}
use Rattle.solving.specs.Always.{has_empty, always_walk, answered, answer_of, always}
use Rattle.std.specs.Prelude.{true, ltb, Ok, Err}
use Rattle.walking.specs.declared.walk.Walk.{Walk}
use Rattle.stopping.specs.ForContracts.Ends.{stop_test, stopping_walk, EndsAt, WalkEnds}
use Rattle.solve_equation.specs.declared.solve.Ends.{Ends}
use Rattle.solve_equation.specs.ForContracts.Equation.{SidesAre, EndsAre}
use Rattle.solve_equation.proofs.Solving.{walk_is}
use Rattle.solve_equation.specs.ForContracts.Decides.{answered_as, decided}

comes_walk : (nodes sizes : List ℕ) (source target : ℕ) → answer_of (stopping_walk true nodes sizes source target) ≡ decided nodes sizes source target
unfolding always_walk stop_test
comes_walk nodes sizes source target = refl

module _ {nodes sizes memory : List ℕ} (source target : ℕ) where
  -- Yes or no, by what is left unfinished.
  pub ended_decides : (v : Walk) → WalkEnds nodes sizes memory true source target (Ok v) → answered_as (Ok (record { yes = ltb v.top max_lines; turns = v.turns })) ≡ decided nodes sizes source target
  unfolding answered_as answer_of
  ended_decides v c = go c.end (dec_lt v.top max_lines)
    where
      go : EndsAt nodes sizes memory true source target v → Dec (v.top < max_lines) → answered (ltb v.top max_lines) v.turns ≡ decided nodes sizes source target
      go k (yes l) = ap (λ b. answered b v.turns) (lt-ltb v.top max_lines l ∙ sym (k.stopped l).1) ∙ (sym (ap answer_of k.walked) ∙ comes_walk nodes sizes source target)
      go k (no l) = ap (λ b. answered b v.turns) (le-ltb v.top max_lines (omega arith) ∙ sym (k.not_stopped (omega arith) refl)) ∙ (sym (ap answer_of k.walked) ∙ comes_walk nodes sizes source target)

  pub refused_decides : (why : Refusal) → WalkEnds nodes sizes memory true source target (Err why) → answered_as (Err why) ≡ decided nodes sizes source target
  unfolding answered_as answer_of
  refused_decides why c = sym (ap answer_of c.end) ∙ comes_walk nodes sizes source target

-- The answer over an equation's bytes is that of the equation.
pub always_decided : {nodes sizes : List ℕ} {e : Equation} (are : SidesAre nodes sizes e) (d : Direction) (ends : Ends) → EndsAre e d ends → decided nodes sizes ends.source ends.target ≡ always e d
unfolding always always_walk
always_decided are d ends at = ap answer_of (walk_is are d ends at has_empty)
