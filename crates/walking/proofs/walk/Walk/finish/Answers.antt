-- `finish` meets its contract.
use native.Mathlib.Omega.{arith}
use Rattle.walking.proofs.Treating.{finishing_goes_on}
use Rattle.walking.proofs.walk.Walk.finish.Goals as goal

pub returns : goal.returns
returns c =
    finishing_goes_on c.requires c.write_record.new.memory (λ i. omega (arith, c.slice_known-1.given i)) c.write_record.ensures
