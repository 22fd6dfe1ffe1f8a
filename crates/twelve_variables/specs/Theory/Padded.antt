-- Bindings, matches, lines and tables with `extra` more slots, all of them free (document 02, W9).
use Rattle.std.specs.Prelude.{ℕ, List, ◌++◌, map, replicate}
use Rattle.std.proofs.Math.Option.{Option, none}
use Rattle.solving.specs.Line.{Line, line}
use Rattle.solving.specs.Walk.{Walked, solved, refused}

module _ (extra : ℕ) where
  abbrev pub padded : {A : Type 0} → List (Option A) → List (Option A)
  padded slots = slots ++ replicate extra none

  abbrev pub padded_line : Line → Line
  padded_line (line θ es) = line (padded θ) es

  abbrev pub padded_table : List Line → List Line
  padded_table = map padded_line

  -- As many turns, or the same refusal.
  abbrev pub padded_walk : Walked → Walked
  padded_walk (solved table turns) = solved (padded_table table) turns
  padded_walk (refused r) = refused r
