-- A walk as the code hands it over: how it ends, the counts, and the table.
use Rattle.std.specs.Prelude.{ℕ, ◌*◌, ◌≤◌, ◌≡◌, List, length, take, Result, MatchResult}
use Rattle.format.specs.Buffer.{written}
use Rattle.format.specs.Limits.{max_lines, record_bytes}
use Rattle.format.specs.declared.refusal.Refusal.{Refusal}
use Rattle.solving.specs.Line.{Line, records}
use Rattle.solving.specs.Walk.{Walked, solved, refused, enough, walk}
use Rattle.bindings.specs.ForContracts.PrefixForm.{view_of}
use Rattle.solve_equation.specs.declared.positions.Solved.{Solved}

-- "solve's table holds its records, bytes beyond them unchanged"; a refused walk leaves the table as it was.
module _ (w : Walked) (before after : List ℕ) where
  abbrev pub ReportsSolved : Solved → Type 0
  ReportsSolved s = (ls : List Line) × (w ≡ solved ls s.turns) × (s.lines ≡ length ls) × (after ≡ written (records ls) before)

  pub record Reports (r : Result Solved Refusal) : Type 0 where
    pub ends : MatchResult r ReportsSolved (λ why. (w ≡ refused why) × (after ≡ before))

-- The records of a walk that solves stand first in its memory.
module _ (w : Walked) (memory : List ℕ) where
  abbrev pub LeavesSolved : Solved → Type 0
  LeavesSolved s = (ls : List Line) × (w ≡ solved ls s.turns) × (s.lines ≡ length ls) × (s.lines ≤ max_lines) × (take (s.lines * record_bytes) memory ≡ records ls)

  pub record Leaves (r : Result Solved Refusal) : Type 0 where
    pub ends : MatchResult r LeavesSolved (λ why. w ≡ refused why)

abbrev pub LeavesWalk : (nodes sizes : List ℕ) (source target : ℕ) (memory : List ℕ) → Result Solved Refusal → Type 0
LeavesWalk nodes sizes source target = Leaves (walk enough (view_of nodes sizes) source target)
