-- The lines of one rule, kept from the front of the table.
use Rattle.std.specs.Prelude.{ℕ, ◌+◌, ◌≤◌, ◌≡◌, List, length, take, drop}
use Rattle.std.proofs.Common.{ap, subst, ◌∙◌, arith, take_at}
use Rattle.format.specs.Limits.{table_bytes}
use Rattle.terms.specs.Equation.{Equation}
use Rattle.terms.specs.declared.direction.Direction.{Direction}
use Rattle.terms.specs.ForContracts.Limits.{WithinLimits}
use Rattle.solving.specs.Line.{Line}
use Rattle.solving.specs.Walk.{solved, solve, Solves}
use Rattle.line_bytes.specs.ForContracts.Layout.{placed}
use Rattle.line_bytes.specs.Theory.Placed.{placed_length}
use Rattle.std.specs.Prelude.{Option as Maybe, Some, None, Result, Ok, Err, MatchResult}
use Rattle.solve_equation.specs.declared.positions.Solved.{Solved}
use Rattle.format.specs.declared.refusal.Refusal.{Refusal}
use Rattle.solve_equation.specs.ForContracts.Reports.{LeavesSolved, Leaves}
use Rattle.kept_lines.specs.ForContracts.Trimmed.{trimmed_lines, RecordsAre, KeptAs}
use Rattle.rules.specs.ForContracts.Lines.{ProperLines, LinesAt}
use Rattle.rules.specs.Theory.Proper.{walked_proper}
use Rattle.rules.specs.Theory.Kept.{leaves_solved, records_there, full_kept}

front_lines : (ls : List Line) {end : ℕ} (before : List ℕ) {after : List ℕ} → table_bytes ≤ length before → end ≡ 0 + length (trimmed_lines ls) → end ≤ table_bytes → after ≡ placed 0 (trimmed_lines ls) before
    → LinesAt after (record { from = 0; end = end }) ls
unfolding placed
front_lines ls {end} before {after} room x y z = record {
  ends = x;
  room = y;
  table_room = omega (arith, ap length z, placed_length 0 (trimmed_lines ls) before (omega arith));
  there = ap (take end) z ∙ take_at (trimmed_lines ls) (drop (0 + length (trimmed_lines ls)) before) end (omega (arith, x));
}

abbrev pub walk_solves : {e : Equation} {d : Direction} {memory : List ℕ} {told : Result Solved Refusal} {this : Solved} → Leaves (solve e d) memory told → told ≡ Ok this → Solves e d
walk_solves {this = this} l x = let ends = leaves_solved l x in record { table = ends.0; turns = this.turns; walked = ends.1 }

-- The rule's walk solves, and its lines are kept from the front of the table to `end`.
abbrev pub KeptTo : (table : List ℕ) (end : ℕ) → Equation → Direction → Type 0
KeptTo table end e d = (ls : List Line) × (turns : ℕ) × (solve e d ≡ solved ls turns) × ProperLines e ls × LinesAt table (record { from = 0; end = end }) ls

module _ {e : Equation} (w : WithinLimits e) (d : Direction) {memory : List ℕ} {told : Result Solved Refusal} {this : Solved} (l : Leaves (solve e d) memory told) (solves : told ≡ Ok this)
    (table : List ℕ) (room : table_bytes ≤ length table) (table' : List ℕ) (kept : Maybe ℕ) (keeps : (ls : List Line) → RecordsAre memory this.lines ls → KeptAs ls 0 table table' kept) where
  pub front_fits : kept ≡ None → ⊥
  front_fits x = omega (arith, (full_kept w d l solves 0 table table' kept keeps x).1)

  pub front_kept : {last : ℕ} → kept ≡ Some last → KeptTo table' last e d
  front_kept ended =
      let walked = walk_solves l solves in
      let (x, y, z) = subst (KeptAs walked.table 0 table table') ended (keeps walked.table (records_there w d l solves)) in
      (walked.table, walked.turns, walked.walked, walked_proper w d walked.walked, front_lines walked.table table room x y z)
