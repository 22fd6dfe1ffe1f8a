-- Parts of bytes.
use Rattle.std.specs.Prelude.{ℕ, ◌+◌, ◌≤◌, ◌≡◌, refl, List, ◌++◌, length, take, drop}
use Rattle.std.proofs.Common.{ap, ◌∙◌, take-add, take_at, drop_at, length-take-le}
use Rattle.std.proofs.Math.Seq.{slice}

module _ (f : ℕ) (l a b : List ℕ) (e : drop f l ≡ a ++ b) where
  pub part_slice : f ≤ length l → slice f (f + length a) l ≡ a
  part_slice h =
      ap (drop f) (take-add f (length a) l)
      ∙ (drop_at (take f l) (take (length a) (drop f l)) f (length-take-le f l h)
      ∙ (ap (take (length a)) e
      ∙ take_at a b (length a) refl))
