-- The two tests of document 01, 'Runs': that of a run and that of the reference run.
use Rattle.std.specs.Prelude.{ℕ, Bool, true, false, List}
use Rattle.std.proofs.Math.Dec.{ltb}
use Rattle.format.specs.Limits.{variable_count}
use Rattle.format.specs.Lists.{Every}
use Rattle.terms.specs.Term.{Term, Terms, var, nth, Values, inst}
use Rattle.terms.specs.Equation.{Equation, source, target, value}
use Rattle.terms.specs.declared.direction.Direction.{Direction}
use Rattle.ordering.specs.Theory.Decide.{exceeds?}
use Rattle.solving.specs.Walk.{Walked, solved, refused, solve_with, solve, Solves}
use Rattle.solving.specs.Judge.{first_holding}
use Rattle.reducing.specs.Run.{Run, run_with, run}

-- The first line of a direction's table that holds at values, counted from 1; 0 where none holds.
unfoldable pub holding_in : Equation → Values → Walked → ℕ
unfolding first_holding value
holding_in e ρ (solved table n) = first_holding ρ (value e ρ) table
-- Not met: judge and run go on only where every walk solves.
holding_in e ρ (refused r) = 0

-- With any number of variables.
module _ (variables : ℕ) where
  unfoldable pub holding_line_with : Equation → Direction → Values → ℕ
  unfolding holding_in solve_with
  holding_line_with e d ρ = holding_in e ρ (solve_with variables e d)

  -- "one of whose lines holds at the match"
  unfoldable pub line_test_with : Equation → Direction → Values → Bool
  unfolding holding_line_with
  line_test_with e d ρ = ltb 0 (holding_line_with e d ρ)

  -- "the run is the one that this section defines over these tables"
  unfoldable pub line_run_with : (filling : Term) → List Equation → (k : ℕ) → (subject : Term) → Run
  unfolding run_with line_test_with
  line_run_with filling = run_with variables filling line_test_with

-- With the sheet's number of variables.
unfoldable pub holding_line : Equation → Direction → Values → ℕ
unfolding holding_line_with solve
holding_line = holding_line_with variable_count

unfoldable pub line_test : Equation → Direction → Values → Bool
unfolding line_test_with holding_line
line_test = line_test_with variable_count

unfoldable pub line_run : (filling : Term) → List Equation → (k : ℕ) → (subject : Term) → Run
unfolding line_run_with run line_test
line_run = line_run_with variable_count

-- "whose source instance exceeds its target instance by L1 to L3"
unfoldable pub reference_test : Equation → Direction → Values → Bool
unfolding exceeds? inst source target
reference_test e d ρ = elim (exceeds? (inst ρ (source e d)) (inst ρ (target e d))) [ yes g ↦ true | no n ↦ false ]

-- "The reference run is this text with 'one of whose lines holds' replaced by 'whose source instance exceeds its target instance by L1 to L3'."
-- It "takes the same filling before it compares instances" (document 02, W5).
unfoldable pub reference_run : (filling : Term) → List Equation → (k : ℕ) → (subject : Term) → Run
unfolding run reference_test
reference_run filling = run filling reference_test

-- "where every direction solves"
abbrev pub BothSolve : Equation → Type 0
BothSolve e = (d : Direction) → Solves e d

abbrev pub EverySolves : List Equation → Type 0
EverySolves = Every BothSolve

-- The values of a judgement: those of the frame, from variable 80 upward.
unfoldable pub given_values : Terms → Values
unfolding nth
given_values ts v = nth ts v (var v)
