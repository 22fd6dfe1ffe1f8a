-- The parts of a subject.
use Rattle.std.specs.Prelude.{ℕ, get_or}
use Rattle.terms.specs.Term.{Term, var}
use Rattle.terms.specs.Position.{subterms}

-- The part of the subject at position `p`.
abbrev pub part_at : Term → ℕ → Term
part_at subject p = get_or (subterms subject) p (var 0)
