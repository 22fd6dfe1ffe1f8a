-- The first bytes of scratch, in which a walk works: there is room, and what stands behind them stays.
use Rattle.std.specs.Prelude.{ℕ, ◌≤◌, ◌≡◌, List, ◌++◌, length, take, drop}
use Rattle.std.proofs.Common.{sym, ◌∙◌, drop_at, length-take-le}
use Rattle.walking.specs.ForContracts.Walking.{memory_bytes}

-- Behind the bytes that the walk works in scratch is as it was.
pub behind_kept : (scratch front : List ℕ) → memory_bytes ≤ length scratch → length front ≡ length (take memory_bytes scratch) → drop memory_bytes (front ++ drop memory_bytes scratch) ≡ drop memory_bytes scratch
behind_kept scratch front h l = drop_at front (drop memory_bytes scratch) memory_bytes (l ∙ length-take-le memory_bytes scratch h)

pub walk_room : (scratch : List ℕ) → memory_bytes ≤ length scratch → memory_bytes ≡ length (take memory_bytes scratch)
walk_room scratch h = sym (length-take-le memory_bytes scratch h)
