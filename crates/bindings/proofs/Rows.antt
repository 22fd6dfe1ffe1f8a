-- The laws of a row's count.
use Prim.Native.Nat.{ℕ, ◌+◌, ◌≤◌, ◌<◌}
use mathlib.Core.Path.{◌≡◌, ap}
use mathlib.Core.List.{List}
use lib.ListN.{length, get_or}
use native.Mathlib.Omega.{arith}
use Rattle.bindings.specs.ForContracts.PrefixForm.{Row}
use Rattle.bindings.specs.ForContracts.Count.{HasRow, CountsRow}
use Rattle.bindings.specs.Theory.PrefixForm.{row_ordered, row_empty, row_next, row_first_some}

module _ (sizes : List ℕ) (k₀ end : ℕ) where
  -- The terms up to `t` are counted.
  pub record Counting (t count : ℕ) : Type 0 where
    pub rest : HasRow sizes t end
    pub fits : count + k₀ ≤ t
    pub so_far : (ps : List ℕ) → Row sizes k₀ end ps → (qs : List ℕ) × Row sizes t end qs × (length ps ≡ count + length qs)

  pub counting_start : HasRow sizes k₀ end → Counting k₀ 0
  counting_start h = record { rest = h; fits = omega arith; so_far = λ ps r. (ps, r, omega arith) }

  module _ {t count : ℕ} (c : Counting t count) where
    pub counting_size : t < end → (0 < get_or sizes t 0) × (t + get_or sizes t 0 ≤ end)
    counting_size h = let (us, x, rest) = row_next c.rest.row h in (row_first_some c.rest.row h, row_ordered rest)

    pub counting_next : (size : ℕ) → t < end → size ≡ get_or sizes t 0 → Counting (t + size) (count + 1)
    counting_next size h e =
        let (us, x, rest) = row_next c.rest.row h in
        record {
          rest = record { starts = us; row = rw e rest; within = c.rest.within };
          fits = omega (arith, c.fits, row_first_some c.rest.row h);
          so_far = λ ps r.
              let (qs, row, l) = c.so_far ps r in
              let (vs, y, behind) = row_next row h in
              (vs, rw e behind, omega (arith, ap length y));
        }

    pub counting_done : end ≤ t → CountsRow sizes k₀ end count
    counting_done h = record {
      counts = λ ps r. let (qs, row, l) = c.so_far ps r in omega (arith, ap length (row_empty row h));
      fits = omega (arith, c.fits, row_ordered c.rest.row);
    }
