-- Bindings compared.
use Rattle.std.specs.Prelude.{◌≡◌, Bool, true, false, ℕ, List}

-- Whether two bindings differ.
pub record Differ (a b : List ℕ) (r : Bool) : Type 0 where
  pub other : r ≡ true → a ≡ b → ⊥
  pub same : r ≡ false → a ≡ b
