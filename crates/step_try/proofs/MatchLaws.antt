-- A rule's source and a part of the subject, as the match is asked and answers.
use Prim.Native.Nat.{ℕ}
use mathlib.Core.Path.{◌≡◌, refl}
use mathlib.Core.Bool.{Bool, true, false}
use mathlib.Core.Option.{Option, none, some}
use mathlib.Core.List.{List}
use native.Mathlib.Omega.{arith}
use Rattle.reducing.specs.Match.{Match}
use Rattle.step_match.specs.ForContracts.Matching.{MatchIs, Matched}

-- The match that the code finds is that of the definition, and so is that it finds none.
module _ (nodes sizes arities values : List ℕ) where
  pub matched_none : (o : Option Match) (r : Bool) → Matched nodes sizes arities o values r → r ≡ false → o ≡ none
  matched_none none r m h = refl
  matched_none (some x) r m h = let y = m.0 in let q : ◌≡◌ {A = ℕ} 0 1 = cc in absurd (omega arith)

  pub matched_some : (o : Option Match) (r : Bool) → Matched nodes sizes arities o values r → r ≡ true → (m : Match) × (o ≡ some m) × MatchIs nodes sizes arities m values
  matched_some none r m h = let q : ◌≡◌ {A = ℕ} 0 1 = cc in absurd (omega arith)
  matched_some (some x) r m h = (x, refl, m.1)
