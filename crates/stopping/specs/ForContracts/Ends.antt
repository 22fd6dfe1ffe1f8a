-- The end of a walk that a line without binding and element may stop.
use Rattle.std.specs.Prelude.{ℕ, ◌≤◌, ◌<◌, ◌≡◌, Bool, true, false, List, ◌++◌, map, Result, MatchResult}
use Rattle.std.proofs.Math.Option.{some}
use Rattle.format.specs.Limits.{variable_count, max_lines, max_turns}
use Rattle.solving.specs.Line.{Line}
use Rattle.solving.specs.Walk.{Walked, solved, refused, enough, over_limit, walk_within}
use Rattle.solving.specs.Always.{has_empty}
use Rattle.bindings.specs.ForContracts.PrefixForm.{view_of}
use Rattle.line_bytes.specs.ForContracts.Resting.{line_of}
use Rattle.walking.specs.declared.walk.Walk.{Walk}
use Rattle.format.specs.declared.refusal.Refusal.{Refusal}
use Rattle.walking.specs.ForContracts.Walking.{table_reached, Walking}

-- What stops the walk: an empty line, or nothing.
unfoldable pub stop_test : Bool → List Line → Bool
unfolding has_empty
stop_test true table = has_empty table
stop_test false table = false

-- The walk as it is defined.
abbrev pub stopping_walk : (stops : Bool) → (nodes sizes : List ℕ) (source target : ℕ) → Walked
stopping_walk stops nodes sizes source target = walk_within enough (view_of nodes sizes) over_limit (stop_test stops) max_turns variable_count source target

-- The table that the walk has come to has no empty line.
abbrev pub NoneEmpty : (nodes sizes : List ℕ) → Walk → Type 0
NoneEmpty nodes sizes w = (table : List Line) → table_reached nodes sizes w ≡ some table → has_empty table ≡ false

-- The walk from source to target has ended with the table in the memory. A line is left unfinished there exactly if an empty line has stopped it.
pub record EndsAt (nodes sizes memory : List ℕ) (stops : Bool) (source target : ℕ) (v : Walk) : Type 0 where
  pub walking : Walking nodes sizes memory v
  pub walked : stopping_walk stops nodes sizes source target ≡ solved (walking.finished ++ map line_of walking.unfinished) v.turns
  pub stopped : v.top < max_lines → (stops ≡ true) × (has_empty (walking.finished ++ map line_of walking.unfinished) ≡ true)
  pub not_stopped : max_lines ≤ v.top → stops ≡ true → has_empty (walking.finished ++ map line_of walking.unfinished) ≡ false

-- It has ended so, or it is refused.
pub record WalkEnds (nodes sizes memory : List ℕ) (stops : Bool) (source target : ℕ) (a : Result Walk Refusal) : Type 0 where
  pub end : MatchResult a (EndsAt nodes sizes memory stops source target) (λ r. stopping_walk stops nodes sizes source target ≡ refused r)
