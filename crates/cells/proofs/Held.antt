-- The verdict that a cell holds, by its byte.
use Prim.Native.Nat.{ℕ, ◌+◌, ◌%◌}
use mathlib.Core.Path.{◌≡◌, refl}
use native.Mathlib.Omega.{arith}
use Rattle.ordering.specs.declared.verdict.Verdict.{Verdict}
use Rattle.ordering.specs.declared.verdict.Verdict.TheVariants.{Smaller as smaller, Equal as equal, Greater as greater}
use Rattle.ordering.specs.Theory.Verdict.{number_unique}
use Rattle.ordering.specs.Verdict.{verdict_number}
use Rattle.cells.specs.ForContracts.Cells.{clause_unit, CellHolds}

-- The verdict that a cell holds, by its byte.
pub holds : {cell : ℕ} {r : Verdict} → cell % clause_unit ≡ verdict_number r + 1 → CellHolds cell r
holds {cell} {r} e = record { only = λ v d. number_unique r v (omega arith) }

pub holds_greater : {cell : ℕ} → ¬ (cell % clause_unit ≡ 1) → ¬ (cell % clause_unit ≡ 2) → CellHolds cell greater
unfolding verdict_number
holds_greater {cell} m n = record { only = only }
  where
    only : (v : Verdict) → cell % clause_unit ≡ verdict_number v + 1 → greater ≡ v
    only smaller e = absurd (m e)
    only equal e = absurd (n e)
    only greater e = refl
