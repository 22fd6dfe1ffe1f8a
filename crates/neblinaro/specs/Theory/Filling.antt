-- W5 of document 02: the filling of an accepted sheet is its lowest constant, and every direction is usable with it.
use Rattle.std.specs.Prelude.{refl}
use Rattle.terms.specs.Filling.{filling}
use Rattle.terms.proofs.Theory.Filling.{lowest_is_constant, none_lower, filling_ground}
use Rattle.sheet.specs.Theory.Accepted.{accepted_valid}
use Rattle.reducing.proofs.Theory.Reference.{run_reduces}
use Rattle.reducing.proofs.Theory.Irreducible.{run_irreducible}
use Rattle.neblinaro.specs.Demands.{FillingDemanded, RunsReduce, RunsEndIrreducible}
use Rattle.neblinaro.specs.Theory.Walks.{accepted_limits}

pub filling_demanded : FillingDemanded
unfolding filling
filling_demanded sheet s r =
    let symbols = (accepted_valid sheet s r).0.symbols in
    record {
      term_is = refl;
      is_ground = filling_ground s.arities symbols.constant symbols.a_constant;
      a_constant = lowest_is_constant s.arities symbols.constant symbols.a_constant;
      none_lower = none_lower s.arities;
    }

pub runs_reduce : RunsReduce
runs_reduce sheet s r every k subject = run_reduces (filling s.arities) s.equations (accepted_limits sheet s r) every k subject

pub runs_end_irreducible : RunsEndIrreducible
runs_end_irreducible sheet s r every k subject = run_irreducible (filling s.arities) s.equations (accepted_limits sheet s r) every k subject
