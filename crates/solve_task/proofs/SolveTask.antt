-- Laws for the call solve: what its walk earns.
use Prim.Native.Nat.{ℕ, ◌+◌, ◌<◌}
use mathlib.Core.Path.{◌≡◌, sym, ap, subst, ◌∙◌}
use mathlib.Core.List.{List}
use native.Mathlib.Omega.{arith}
use Rattle.format.specs.Limits.{no_position, table_bytes}
use Rattle.format.specs.Buffer.{written}
use Rattle.format.specs.declared.refusal.Refusal.{Refusal}
use Rattle.terms.specs.Equation.{Equation}
use Rattle.terms.specs.declared.direction.Direction.{Direction}
use Rattle.solving.specs.Line.{records}
use Rattle.solving.specs.Walk.{Walked, solve, refused}
use Rattle.solving.proofs.Theory.Solve.{solved_line_count}
use Rattle.reducing.specs.Walks.{equation_line}
use Rattle.outcomes.specs.Buffer.{field_limit, fields, refusal_number, filled, cleared, blanked}
use Rattle.outcomes.specs.Outcome.{table_unsolved, solve_walked}
use Rattle.outcomes.specs.Theory.Outcomes.{table_outcome}
use Rattle.solve_equation.specs.ForContracts.Equation.{EquationIs}
use Rattle.solve_equation.specs.ForContracts.Reports.{ReportsSolved, Reports}
use Rattle.std.specs.Prelude.{Result, Ok, Err, MatchResult}
use Rattle.solve_equation.specs.declared.positions.Solved.{Solved}

module _ (equation : ℕ) (scratch : List ℕ) {w : Walked} {table after : List ℕ} {told : Result Solved Refusal} (t : Reports w table after told) where
  pub walk_solved : {s : Solved} {n : ℕ} {last : List ℕ} → told ≡ Ok s → n ≡ fields s.lines s.turns 0 → last ≡ cleared scratch
      → solve_walked equation table scratch w ≡ table_outcome n after last
  unfolding solve_walked
  walk_solved {s} {n} {last} x e c =
      let (ls, y, l, a) = subst (λ r. MatchResult r (ReportsSolved w table after) (λ why. (w ≡ refused why) × (after ≡ table))) x t.ends in
      ap (solve_walked equation table scratch) y
      ∙ ap (λ k. table_outcome (fields k s.turns 0) (written (records ls) table) (cleared scratch)) (sym l)
      ∙ ap (λ n. table_outcome n (written (records ls) table) (cleared scratch)) (sym e)
      ∙ ap (λ a. table_outcome n a (cleared scratch)) (sym a)
      ∙ ap (table_outcome n after) (sym c)

  pub walk_refused : {n : ℕ} {why : Refusal} {blank last : List ℕ} → told ≡ Err why → n ≡ refusal_number why (equation + 2) → blank ≡ filled table_bytes no_position after → last ≡ cleared scratch
      → solve_walked equation table scratch w ≡ table_outcome n blank last
  unfolding solve_walked table_unsolved equation_line blanked
  walk_refused {n} {why} {blank} {last} x e b c =
      let (y, a) = subst (λ r. MatchResult r (ReportsSolved w table after) (λ why. (w ≡ refused why) × (after ≡ table))) x t.ends in
      ap (solve_walked equation table scratch) y
      ∙ ap (λ n. table_outcome n (filled table_bytes no_position table) (cleared scratch)) (sym e)
      ∙ ap (λ a. table_outcome n (filled table_bytes no_position a) (cleared scratch)) (sym a)
      ∙ ap (λ b. table_outcome n b (cleared scratch)) (sym b)
      ∙ ap (table_outcome n blank) (sym c)

-- The number of lines of a walk that solves fits its field.
pub lines_low : (d : Direction) {bytes arities table after : List ℕ} {e : Equation} {told : Result Solved Refusal} {s : Solved} → EquationIs bytes arities e → Reports (solve e d) table after told → told ≡ Ok s
    → s.lines < field_limit
lines_low d {table = table} {after} {e} {s = s} is t x =
    let (ls, y, l, a) = subst (λ r. MatchResult r (ReportsSolved (solve e d) table after) (λ why. (solve e d ≡ refused why) × (after ≡ table))) x t.ends in
    omega (arith, l, solved_line_count e is.limits d ls s.turns y)
