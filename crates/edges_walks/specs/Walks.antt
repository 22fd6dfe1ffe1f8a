-- Walks at the limits of 40 elements, 255 lines and 10,000 turns, over what solve returns, checked against the definitions by computation.
use Rattle.std.specs.Prelude.{ℕ, ◌+◌, ◌*◌, ◌^◌, ◌≡◌, true, List, [], ◌∷◌}
use Rattle.std.proofs.Math.Path.{ap}
use Rattle.outcomes.specs.Outcome.{table_fits, solve_call}
use Rattle.cases.specs.Checked.{lines}
use Rattle.edges.specs.Calls.{solve_fits, forty}

module _ (table scratch : List ℕ) (fits : table_fits table scratch ≡ true) where
  solve_forty : (solve_call (lines forty) 1 0 table scratch).returned ≡ 7 * 2 ^ 8 + 65 * 2 ^ 24
  unfolding solve_call lines
  solve_forty = ap (λ o. o.returned) (solve_fits (lines forty) 1 0 table scratch fits)

  -- "10, a table beyond 255 lines after a turn, finished ones counted": one walk whose table grows to 255 lines, of which 251 stay, and one whose table grows to 256.
  solve_255 : (solve_call (lines ("010400040204" ∷ "020181840000030100878400008487" ∷ [])) 0 1 table scratch).returned ≡ 251 * 2 ^ 8 + 353 * 2 ^ 24
  unfolding solve_call lines
  solve_255 = ap (λ o. o.returned) (solve_fits (lines ("010400040204" ∷ "020181840000030100878400008487" ∷ [])) 0 1 table scratch fits)

  solve_256 : (solve_call (lines ("01020004" ∷ "020100800000010001828282808280" ∷ [])) 0 1 table scratch).returned ≡ 10 + 2 * 2 ^ 8
  unfolding solve_call lines
  solve_256 = ap (λ o. o.returned) (solve_fits (lines ("01020004" ∷ "020100800000010001828282808280" ∷ [])) 0 1 table scratch fits)

  -- "8, a turn beyond 10,000": a walk of exactly 10,000 turns, and one that would take more.
  solve_10000 : (solve_call (lines ("0106020203000301" ∷ "0202030185800501008501858484040584040305038500010303010303" ∷ [])) 0 1 table scratch).returned
      ≡ 193 * 2 ^ 8 + 10000 * 2 ^ 24
  unfolding solve_call lines
  solve_10000 = ap (λ o. o.returned) (solve_fits (lines ("0106020203000301" ∷ "0202030185800501008501858484040584040305038500010303010303" ∷ [])) 0 1 table scratch fits)

  solve_beyond : (solve_call (lines ("01050401030002" ∷ "0202850485048585030400010303030382" ∷ [])) 0 1 table scratch).returned ≡ 8 + 2 * 2 ^ 8
  unfolding solve_call lines
  solve_beyond = ap (λ o. o.returned) (solve_fits (lines ("01050401030002" ∷ "0202850485048585030400010303030382" ∷ [])) 0 1 table scratch fits)
