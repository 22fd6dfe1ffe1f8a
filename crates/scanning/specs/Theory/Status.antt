-- Laws of how reading a part of a frame ends.
use Rattle.std.specs.Prelude.{Ok, Err}
use Rattle.std.specs.Prelude.{Result as Outcome}
use Rattle.std.proofs.Common.{ap}
use Rattle.format.specs.Refusal.{Result, result_map}
use Rattle.format.specs.declared.refusal.Refusal.{Refusal}
use Rattle.scanning.specs.ForContracts.Scan.{Matches}

-- The end of a mapped result.
pub matches_map : {A B : Type 0} (f : A → B) (r : Result A) (o : Outcome (Unit {0}) Refusal) → Matches r o → Matches (result_map f r) o
unfolding result_map
matches_map f r (Ok u) (a, e) = (f a, ap (result_map f) e)
matches_map f r (Err x) e = ap (result_map f) e
