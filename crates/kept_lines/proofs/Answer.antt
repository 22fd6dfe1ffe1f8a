-- A test's answer, `true` or `false`, by what it tells.
use Prim.Native.Nat.{ℕ}
use mathlib.Core.Path.{◌≡◌, refl}
use mathlib.Core.Logic.{◌↔◌}
use mathlib.Core.Bool.{Bool, true, false}
use native.Mathlib.Omega.{arith}

abbrev pub Tells : Bool → Type 0 → Type 0
Tells b A = (b ≡ true) ↔ A

module _ {A : Type 0} where
  pub so : A → Tells true A
  so a = (λ e. a, λ x. refl)

  pub not_so : ¬ A → Tells false A
  not_so n = (λ e. let z : ◌≡◌ {A = ℕ} 0 1 = cc in absurd (omega arith), λ a. absurd (n a))

  pub told_not : {b : Bool} → b ≡ false → Tells b A → ¬ A
  told_not e t a = let d = t.1 a in let z : ◌≡◌ {A = ℕ} 0 1 = cc in omega arith
