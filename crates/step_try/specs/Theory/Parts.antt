-- A rule's source beside a part of the subject, as a match is asked.
use Rattle.std.specs.Prelude.{ℕ, ◌+◌, ◌<◌, ◌≡◌, List}
use Rattle.std.proofs.Common.{sym, subst, arith}
use Rattle.format.specs.Limits.{position_count}
use Rattle.terms.specs.Term.{Term, var, size}
use Rattle.terms.specs.Theory.Replace.{around, size_around}
use Rattle.terms.specs.ForContracts.Stored.{GroundStored, SubjectIs}
use Rattle.terms.specs.declared.arguments.Arguments.{Arguments}
use Rattle.reducing.specs.ForContracts.Part.{part_at}
use Rattle.cells.specs.Theory.Stored.{part_stored}
use Rattle.step_match.specs.ForContracts.Matching.{SidePart}
use Rattle.rules.specs.ForContracts.Rows.{SideIs}

pub side_part : {equations lengths arities nodes sizes : List ℕ} {side : Arguments} {s subject : Term} {node p : ℕ} → SideIs equations lengths arities side s → SubjectIs nodes sizes arities subject
    → p < size subject → node ≡ position_count + p → SidePart equations side nodes sizes node arities s (part_at subject p)
side_part {arities = arities} {nodes = nodes} {sizes = sizes} {subject = subject} {p = p} side is h n = record {
  fits = side.fits;
  spelled = side.stored.bytes;
  ends = side.ends;
  part = subst (λ i. GroundStored nodes sizes arities i (part_at subject p)) (sym n) (part_stored is.stored p h);
  inside = omega (arith, is.inside, size_around (around subject p h) (var 0) h);
}
