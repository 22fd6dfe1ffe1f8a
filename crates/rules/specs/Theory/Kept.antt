-- What the walk of a rule leaves, and the lines that are kept of it.
use Rattle.std.specs.Prelude.{ℕ, ◌+◌, ◌-◌, ◌*◌, ◌≤◌, ◌<◌, ◌≡◌, List, [], ◌∷◌, ◌++◌, length, get_or, take, drop}
use Rattle.std.proofs.Common.{sym, ap, subst, ◌∙◌, arith, length-append, take-append-drop, take_at}
use Rattle.format.specs.Limits.{record_bytes, table_bytes}
use Rattle.format.specs.declared.refusal.Refusal.{Refusal}
use Rattle.terms.specs.Prefix.{equation_bytes}
use Rattle.terms.specs.Equation.{Equation}
use Rattle.terms.specs.declared.direction.Direction.{Direction}
use Rattle.terms.specs.ForContracts.Limits.{WithinLimits, positions}
use Rattle.solving.specs.Line.{Line, line}
use Rattle.solving.specs.Walk.{Walked, refused, solve, Solves}
use Rattle.solving.specs.ForContracts.Written.{WrittenLines}
use Rattle.bindings.specs.ForContracts.Equation.{equation_sizes}
use Rattle.bindings.specs.Theory.Equation.{length_nodes, length_sizes}
use Rattle.solve_equation.specs.ForContracts.Equation.{SidesAre}
use Rattle.std.specs.Prelude.{Option as Maybe, Some, None, Result, Ok, Err, MatchResult}
use Rattle.solve_equation.specs.declared.positions.Solved.{Solved}
use Rattle.solve_equation.specs.ForContracts.Reports.{LeavesSolved, Leaves}
use Rattle.kept_lines.specs.ForContracts.Trimmed.{trimmed, trimmed_lines, RecordsAre, KeptAs}
use Rattle.kept_lines.specs.Theory.Lengths.{length_trimmed}
use Rattle.rules.specs.ForContracts.Rows.{RuleIs}
use Rattle.rules.specs.Theory.Proper.{walked_proper}
use Rattle.rules.specs.Theory.Rows.{row_start, rule_row, row_end, row_room}

module _ {equations lengths arities : List ℕ} {rule i : ℕ} {e : Equation} {d : Direction} (is : RuleIs equations lengths arities rule i e d) where
  module _ {first second : ℕ} (x : first ≡ get_or lengths (row_start rule) 0) (y : second ≡ get_or lengths (row_start rule + first) 0) where
    abbrev pub end : ℕ
    end = row_start rule + first + second

    abbrev many : ℕ
    many = end - row_start rule

    pub end_in_equations : end ≤ length equations
    end_in_equations = omega (arith, row_end is x y, row_room is.row, is.row.equations_length)

    pub end_in_lengths : end ≤ length lengths
    end_in_lengths = omega (arith, row_end is x y, row_room is.row, is.row.lengths_length)

    all_positions : many ≡ positions e
    all_positions = omega (arith, row_end is x y, rule_row is)

    pub sides_there : SidesAre (take many (drop (row_start rule) equations)) (take many (drop (row_start rule) lengths)) e
    sides_there = record {
      arities = arities;
      is = record {
        spelled = ap (λ n. take many (drop n equations)) (rule_row is) ∙ (ap (take many) is.row.bytes.is ∙ take_at (equation_bytes e) is.row.bytes.rest many (length_nodes e ∙ sym all_positions));
        limits = is.row.limits;
        left_fits = is.row.left_fits;
        right_fits = is.row.right_fits;
        few_symbols = is.row.few_symbols;
      };
      measured = ap (λ n. take many (drop n lengths)) (rule_row is) ∙ (ap (take many) is.row.measured.is ∙ take_at (equation_sizes e) is.row.measured.rest many (length_sizes e ∙ sym all_positions));
    }

pub leaves_refused : {w : Walked} {memory : List ℕ} {told : Result Solved Refusal} {why : Refusal} → Leaves w memory told → told ≡ Err why → w ≡ refused why
leaves_refused {w} {memory} {told} l x = subst (λ r. MatchResult r (LeavesSolved w memory) (λ why. w ≡ refused why)) x l.ends

pub leaves_solved : {w : Walked} {memory : List ℕ} {told : Result Solved Refusal} {this : Solved} → Leaves w memory told → told ≡ Ok this → LeavesSolved w memory this
leaves_solved {w} {memory} {told} l x = subst (λ r. MatchResult r (LeavesSolved w memory) (λ why. w ≡ refused why)) x l.ends

-- Lines without filler are no longer than their records.
trimmed_short : (n : ℕ) (ls : List Line) → WrittenLines n ls → length (trimmed_lines ls) ≤ length ls * record_bytes
unfolding trimmed_lines
trimmed_short n [] w = omega arith
trimmed_short n (line θ es ∷ ls) w = omega (arith, length-append (trimmed (line θ es)) (trimmed_lines ls), length_trimmed θ es w.0.slots, w.0.few_elements, trimmed_short n ls w.1)

module _ {e : Equation} (w : WithinLimits e) (d : Direction) {memory : List ℕ} {told : Result Solved Refusal} {this : Solved} (l : Leaves (solve e d) memory told) (x : told ≡ Ok this) where
  abbrev pub ends : LeavesSolved (solve e d) memory this
  ends = leaves_solved l x

  abbrev pub walked_lines : List Line
  walked_lines = ends.0

  pub solves : Solves e d
  solves = record { table = walked_lines; turns = this.turns; walked = ends.1 }

  pub records_there : RecordsAre memory this.lines walked_lines
  records_there = record {
    counted = ends.2;
    first = record { rest = drop (this.lines * record_bytes) memory; is = sym (take-append-drop (this.lines * record_bytes) memory) ∙ ap (◌++ drop (this.lines * record_bytes) memory) ends.4 };
    positions = positions e;
    written = (walked_proper w d ends.1).written;
  }

  few_bytes : length (trimmed_lines walked_lines) ≤ table_bytes
  few_bytes = omega (arith, trimmed_short (positions e) walked_lines (walked_proper w d ends.1).written, ends.2, ends.3)

  module _ (start : ℕ) (before after : List ℕ) (kept : Maybe ℕ) (k : (ls : List Line) → RecordsAre memory this.lines ls → KeptAs ls start before after kept) where
    pub full_kept : kept ≡ None → Solves e d × (0 < start) × (drop table_bytes after ≡ drop table_bytes before)
    full_kept y = let (long, same) = subst (KeptAs walked_lines start before after) y (k walked_lines records_there) in (solves, omega (arith, few_bytes), same)
