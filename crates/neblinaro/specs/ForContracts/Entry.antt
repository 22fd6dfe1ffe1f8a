-- What a call tests before it looks for what it asks for.
use Rattle.std.specs.Prelude.{ℕ, ◌≤◌, ◌≡◌, Bool, true, List, Result, Ok, Err}
use Rattle.std.proofs.Math.Option.{some}
use Rattle.format.specs.Limits.{max_text}
use Rattle.sheet.specs.Reading.{refused_at}
use Rattle.scanning.specs.declared.known.Known.{Known}
use Rattle.reading.specs.declared.read.RefusedAt.{RefusedAt}
use Rattle.reading.specs.ForContracts.Seek.{Accepts}
use Rattle.outcomes.specs.Asked.{asked}

-- The buffers are long enough, and the sheet is accepted and known; or a call that asks for nothing more than the sheet is refused.
abbrev pub EntersAs : List ℕ → (long_enough : Bool) → Result Known RefusedAt → Type 0
EntersAs sheet b (Ok known) = (b ≡ true) × Accepts sheet known
EntersAs sheet b (Err refused) = (asked b sheet some ≡ refused_at refused.why refused.line) × (refused.line ≤ max_text)
