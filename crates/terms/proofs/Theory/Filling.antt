-- The filling is the lowest constant, and a ground term over the sheet's symbols, since one of them is a constant.
use Rattle.std.specs.Prelude.{ℕ, zero, suc, ◌≤◌, ◌≡◌, refl, List, [], ◌∷◌, get_or}
use Rattle.std.proofs.Common.{sym, arith}
use Rattle.std.proofs.Math.Option.{some}
use Rattle.format.specs.Lists.{entry}
use Rattle.format.specs.Theory.Lists.{entry_length}
use Rattle.terms.specs.Term.{Ground, arity, count}
use Rattle.terms.specs.Filling.{lowest_constant, filling}

pub none_lower : (arities : List ℕ) (f : ℕ) → entry arities f ≡ some 0 → lowest_constant arities ≤ f
unfolding entry lowest_constant
none_lower [] f e = omega arith
none_lower (zero ∷ rest) f e = omega arith
none_lower (suc a ∷ rest) zero e = let z : suc a ≡ 0 = cc in absurd (omega arith)
none_lower (suc a ∷ rest) (suc f) e = omega (arith, none_lower rest f e)

pub lowest_is_constant : (arities : List ℕ) (i : ℕ) → entry arities i ≡ some 0 → entry arities (lowest_constant arities) ≡ some 0
unfolding entry lowest_constant
lowest_is_constant [] i e = e
lowest_is_constant (zero ∷ rest) i e = refl
lowest_is_constant (suc a ∷ rest) zero e = let z : suc a ≡ 0 = cc in absurd (omega arith)
lowest_is_constant (suc a ∷ rest) (suc i) e = lowest_is_constant rest i e

entry_get_or : (arities : List ℕ) (i : ℕ) {a : ℕ} → entry arities i ≡ some a → get_or arities i 0 ≡ a
unfolding entry
entry_get_or [] i e = let z : ◌≡◌ {A = ℕ} 0 1 = cc in absurd (omega arith)
entry_get_or (b ∷ rest) zero e = cc
entry_get_or (b ∷ rest) (suc i) e = entry_get_or rest i e

pub filling_ground : (arities : List ℕ) (i : ℕ) → entry arities i ≡ some 0 → Ground arities (filling arities)
unfolding filling count arity
filling_ground arities i e =
    let there = lowest_is_constant arities i e in
    (entry_length arities (lowest_constant arities) there, sym (entry_get_or arities (lowest_constant arities) there), tt)
