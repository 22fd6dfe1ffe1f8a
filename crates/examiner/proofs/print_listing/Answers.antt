-- Goals of `print_listing`.
use Prim.Native.Nat.{ℕ}
use mathlib.Core.Path.{◌≡◌, refl}
use native.Mathlib.Omega.{arith}
use Rattle.cursor.specs.ForContracts.Stands.{at_start}
use Rattle.examiner.proofs.print_listing.Goals as goal

pub loop-equations-init : goal.loop-equations-init
loop-equations-init g c = record {
  more = λ e. let z : ◌≡◌ {A = ℕ} 0 1 = cc in omega arith;
  stands = at_start;
  equations_room = refl;
  lengths_room = refl;
  bounds_room = refl;
  table_room = refl;
  scratch_room = refl;
  out_room = refl;
}
