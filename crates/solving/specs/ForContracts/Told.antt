-- The line that holds, as code tells it: none, or its number, counted from 1. In the definitions a line's number is 0 where none holds.
use Rattle.std.specs.Prelude.{ℕ, ◌<◌, ◌≡◌, Option, MatchOption}

abbrev pub LineTold : Option ℕ → ℕ → Type 0
LineTold told n = MatchOption told (n ≡ 0) (λ line. (0 < line) × (n ≡ line))
