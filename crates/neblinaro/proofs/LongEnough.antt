-- What the tests of the lent buffers' lengths tell.
use Prim.Native.Nat.{ℕ, ◌≤◌}
use mathlib.Core.Path.{◌≡◌, refl, sym, ap, ◌∙◌}
use mathlib.Core.Bool.{Bool, true, false, ◌&&◌}
use mathlib.Core.List.{List}
use lib.ListN.{length}
use lib.Dec.{leb}
use Rattle.std.proofs.Common.{leb-true}
use Rattle.format.specs.Limits.{table_bytes, scratch_bytes, term_bytes, log_bytes}
use Rattle.outcomes.specs.Outcome.{table_fits, run_fits}

both : (a b : Bool) → (a && b) ≡ true → (a ≡ true) × (b ≡ true)
both true b e = (refl, e)
both false b e = (e, cc)

pub table_long : (table scratch : List ℕ) → table_fits table scratch ≡ true → (table_bytes ≤ length table) × (scratch_bytes ≤ length scratch)
unfolding table_fits
table_long table scratch e = let (a, b) = both _ _ e in (leb-true _ _ a, leb-true _ _ b)

pub run_long : (table scratch term log : List ℕ) → run_fits table scratch term log ≡ true → (table_bytes ≤ length table) × (scratch_bytes ≤ length scratch) × (term_bytes ≤ length term) × (log_bytes ≤ length log)
unfolding run_fits table_fits
run_long table scratch term log e =
    let (x, d) = both _ _ e in
    let (y, c) = both _ _ x in
    let (a, b) = both _ _ y in
    (leb-true _ _ a, leb-true _ _ b, leb-true _ _ c, leb-true _ _ d)

-- Whether the first three of a run's buffers are long enough, and then the fourth.
pub three_fit : (table scratch term : List ℕ) {b : Bool} → table_fits table scratch ≡ b → (b && leb term_bytes (length term)) ≡ (table_fits table scratch && leb term_bytes (length term))
three_fit table scratch term e = ap (◌&& leb term_bytes (length term)) (sym e)

module _ (table scratch term log : List ℕ) where
  pub last_decides : {t : Bool} → t ≡ true → t ≡ (table_fits table scratch && leb term_bytes (length term)) → leb log_bytes (length log) ≡ run_fits table scratch term log
  unfolding run_fits
  last_decides h e = sym (ap (◌&& leb log_bytes (length log)) (sym e ∙ h))

  pub three_decide : {t : Bool} → t ≡ false → t ≡ (table_fits table scratch && leb term_bytes (length term)) → t ≡ run_fits table scratch term log
  unfolding run_fits
  three_decide h e = h ∙ sym (ap (◌&& leb log_bytes (length log)) (sym e ∙ h))
