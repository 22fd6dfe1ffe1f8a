-- Stop as soon as it is always (document 02, W6).
use Rattle.std.specs.Prelude.{ℕ, Bool, true, false, List, [], ◌∷◌}
use Rattle.std.proofs.Math.Option.{Option, none, some}
use Rattle.format.specs.Limits.{variable_count, max_turns}
use Rattle.format.specs.declared.refusal.Refusal.{Refusal}
use Rattle.format.specs.Lists.{any, all}
use Rattle.terms.specs.Position.{Node}
use Rattle.terms.specs.Equation.{Equation, view, source_position, target_position}
use Rattle.terms.specs.declared.direction.Direction.{Direction}
use Rattle.solving.specs.Line.{Line, line}
use Rattle.solving.specs.Walk.{Fuel, enough, Walked, solved, refused, over_limit, walk_within}
use Rattle.solving.specs.Turns.{table_after}

-- A slot of a variable that is not bound.
unfoldable pub is_unbound : Option ℕ → Bool
is_unbound none = true
is_unbound (some p) = false

-- "a finished line with no binding and no element". A line without elements is finished: there is none to treat (`empty_finished`, proofs/Theory/Always).
unfoldable pub is_empty : Line → Bool
unfolding all is_unbound
is_empty (line θ []) = all is_unbound θ
is_empty (line θ (e ∷ es)) = false

-- "the whole table, looked over"
unfoldable pub has_empty : List Line → Bool
unfolding any is_empty
has_empty table = any is_empty table

-- "walks as solve does .. as soon as the whole table, looked over after each turn that is not refused, has a finished line with no binding and no element"
unfoldable pub always_walk : Fuel → (ℕ → Node) → (s t : ℕ) → Walked
unfolding walk_within over_limit has_empty
always_walk fuel view = walk_within fuel view over_limit has_empty max_turns variable_count

-- Yes or no, with "the turns taken by then".
pub data Answered : Type 0 where
  answered : (always : Bool) → (turns : ℕ) → Answered
  unanswered : Refusal → Answered

-- "says yes as soon as .. else no when the walk ends": a walk that such a line has stopped has it in its table, and any other ends with a table that has none.
unfoldable pub answer_of : Walked → Answered
unfolding has_empty
answer_of (solved table turns) = answered (has_empty table) turns
answer_of (refused r) = unanswered r

unfoldable pub always : Equation → Direction → Answered
unfolding answer_of always_walk view source_position target_position
always e d = answer_of (always_walk enough (view e) (source_position e d) (target_position e d))

-- What is said of W6 needs the tables on the way (calls/specs/Demands): the table after `n` turns of the walk of one direction, none of which earns 9 or 10.
unfoldable pub reached : Equation → Direction → (n : ℕ) → Option (List Line)
unfolding table_after over_limit view source_position target_position
reached e d = table_after enough (view e) over_limit variable_count (source_position e d) (target_position e d)
