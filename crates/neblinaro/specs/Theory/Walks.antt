-- The equations of an accepted sheet are within the limits; and the turns of every walk fit 16 bits (document 02, W3).
use Rattle.std.specs.Prelude.{ℕ, ◌<◌, ◌≡◌, Bool, true, false, List}
use Rattle.std.proofs.Common.{arith}
use Rattle.format.specs.Limits.{variable_count, max_turns}
use Rattle.format.specs.Lists.{Every}
use Rattle.format.specs.Theory.Lists.{every_map}
use Rattle.terms.specs.Equation.{Equation, source_position, target_position, view}
use Rattle.terms.specs.declared.direction.Direction.{Direction}
use Rattle.terms.specs.ForContracts.Limits.{WithinLimits}
use Rattle.sheet.specs.Sheet.{Sheet}
use Rattle.sheet.specs.Reading.{accepted, read}
use Rattle.sheet.specs.Theory.Accepted.{accepted_valid}
use Rattle.solving.specs.Line.{Line}
use Rattle.solving.specs.Walk.{enough, solved, over_limit, opening, solve}
use Rattle.solving.specs.Always.{answered, always}
use Rattle.solving.proofs.Theory.Always.{always_no, yes_reached}
use Rattle.solving.specs.Theory.Invariant.{walk_keeps}
use Rattle.outcomes.specs.Buffer.{field_limit}
use Rattle.neblinaro.specs.Demands.{TurnsFit}

pub accepted_limits : (sheet : List ℕ) (s : Sheet) → read sheet ≡ accepted s → Every WithinLimits s.equations
accepted_limits sheet s r = every_map (λ e v. v.limits) s.equations (accepted_valid sheet s r).0.equations

-- 16 bits hold the turns of every walk, since they are at most 10,000.
solve_turns : (q : Equation) (d : Direction) (table : List Line) (turns : ℕ) → solve q d ≡ solved table turns → turns < field_limit
unfolding solve
solve_turns q d table turns h =
    let first = opening variable_count (source_position q d) (target_position q d) in
    let ended = walk_keeps enough (view q) over_limit (λ table. false) (λ n table. Unit {0}) (λ n table new kept taken within. tt) max_turns 0 first table turns tt h in
    omega (arith, ended.turns_within)

always_turns : (q : Equation) (d : Direction) (answer : Bool) (turns : ℕ) → always q d ≡ answered answer turns → turns < field_limit
always_turns q d true turns h = omega (arith, (yes_reached q d turns h).within)
always_turns q d false turns h = let (table, w, none_empty) = always_no q d turns h in solve_turns q d table turns w

pub turns_fit : TurnsFit
turns_fit q d = (λ w. solve_turns q d w.table w.turns w.walked, always_turns q d)
