-- What stands behind the front of a buffer.
use Rattle.std.specs.Prelude.{ℕ, ◌+◌, ◌-◌, ◌≤◌, ◌≡◌, List, ◌++◌, length, take, drop}
use Rattle.std.proofs.Common.{sym, ap, ◌∙◌, length-take-le, drop_at, drop-drop, arith}
use Rattle.format.specs.Limits.{scratch_bytes, cell_count}

-- Lists that agree from `k` on agree from a later place on.
pub behind_more : (n k : ℕ) (xs ys : List ℕ) → k ≤ n → drop k xs ≡ drop k ys → drop n xs ≡ drop n ys
behind_more n k xs ys h e = behind xs ∙ (ap (drop (n - k)) e ∙ sym (behind ys))
  where
    behind : (zs : List ℕ) → drop n zs ≡ drop (n - k) (drop k zs)
    behind zs = let parts : n ≡ k + (n - k) = omega arith in ap (λ m. drop m zs) parts ∙ sym (drop-drop (n - k) k zs)

-- The cells stand first in scratch.
pub cells_there : (scratch : List ℕ) → scratch_bytes ≤ length scratch → length (take cell_count scratch) ≡ cell_count
cells_there scratch h = length-take-le cell_count scratch (omega arith)

pub cells_behind : (scratch cells : List ℕ) → length cells ≡ cell_count → drop scratch_bytes (cells ++ drop cell_count scratch) ≡ drop scratch_bytes scratch
cells_behind scratch cells l = behind_more scratch_bytes cell_count (cells ++ drop cell_count scratch) scratch (omega arith) (drop_at cells (drop cell_count scratch) cell_count l)
