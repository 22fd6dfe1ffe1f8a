-- The walk without its three limits (document 02, W10), of equations of any size with any number of variables.
use Rattle.std.specs.Prelude.{ℕ, suc, max, ◌≤◌, ◌≡◌, false, List}
use Rattle.std.proofs.Math.Option.{Option, none}
use Rattle.format.specs.Limits.{variable_count}
use Rattle.format.specs.declared.refusal.Refusal.{Refusal}
use Rattle.terms.specs.Equation.{Equation, view, source_position, target_position}
use Rattle.terms.specs.declared.direction.Direction.{Direction}
use Rattle.terms.specs.ForContracts.Limits.{positions}
use Rattle.sheet.specs.Sheet.{equation_width}
use Rattle.solving.specs.Line.{Line}
use Rattle.solving.specs.Walk.{Fuel, Walked, solved, walk_within}

-- The slots for bindings in each line: as many as a record has, or more if the equation has a variable with a higher number.
unfoldable pub slots : Equation → ℕ
unfolding equation_width
slots e = max variable_count (equation_width e)

-- How deep the recursions through the bindings may go: as `enough`, but by this equation's slots and positions. No larger fuel changes the walk (`deeper_walk`, proofs/Theory/Walks).
unfoldable pub enough_for : Equation → Fuel
unfolding slots
enough_for e = record { hops = slots e; occurs_depth = suc (positions e); unify_depth = suc (positions e) }

-- Two of the three limits are gone: no table earns a refusal, however many lines it has and however many elements a line has. The third is `most` below.
unfoldable pub no_limit : List Line → Option Refusal
no_limit table = none

-- The walk of a direction without these two limits, allowed `most` turns. It is `walk_within`, the text of document 01's walk too.
unfoldable pub walk_allowed : Equation → Direction → (most : ℕ) → Walked
unfolding walk_within enough_for no_limit slots view source_position target_position
walk_allowed e d most = walk_within (enough_for e) (view e) no_limit (λ table. false) most (slots e) (source_position e d) (target_position e d)

-- The walk without its three limits ends: allowed `turns` turns, or any greater number, it ends with this table after exactly `turns` turns.
pub record WalkEnds (e : Equation) (d : Direction) : Type 0 where
  pub table : List Line
  pub turns : ℕ
  pub ends : (most : ℕ) → turns ≤ most → walk_allowed e d most ≡ solved table turns
