-- The first term of a row, and the others.
use Rattle.std.specs.Prelude.{ℕ, ◌+◌, ◌≤◌, ◌<◌, ◌≡◌, List, get_or}
use Rattle.std.proofs.Math.Path.{ap}
use Rattle.std.proofs.Common.{◌∙◌, arith}
use Rattle.format.specs.Limits.{node_count}
use Rattle.terms.specs.Term.{size, sizes}
use Rattle.terms.specs.declared.arguments.Arguments.{Arguments}
use Rattle.terms.specs.ForContracts.Arguments.{behind_first}
use Rattle.terms.specs.Theory.Position.{size_pos}
use Rattle.comparing.specs.ForContracts.Comparing.{HasTerm, HasTerms}
use Rattle.cells.specs.Theory.Nodes.{row_first, some_node, within, ends_within}
use Rattle.comparing.specs.Theory.Weight.{term_weight, row_weight, term_weighs, row_weighs}

-- The first term of a row that has one, and the others.
pub record FirstArgument (nodes sizes values : List ℕ) (row : Arguments) : Type 0 where
  pub term : HasTerm nodes sizes values row.from
  pub others : HasTerms nodes sizes values (behind_first sizes row)
  pub below : row.from < node_count
  pub end_below : row.from + get_or sizes row.from 0 ≤ node_count
  pub some : 1 ≤ get_or sizes row.from 0
  pub first_weight : term_weight nodes sizes values row.from ≤ row_weight nodes sizes values row
  pub others_weight : row_weight nodes sizes values (behind_first sizes row) < row_weight nodes sizes values row

module _ {nodes stored_sizes values : List ℕ} where
  pub first_argument : {row : Arguments} → HasTerms nodes stored_sizes values row → row.from < row.end → FirstArgument nodes stored_sizes values row
  unfolding size
  first_argument {row} h lt =
      let f = row_first h.denote lt in
      let e : row_weight nodes stored_sizes values row ≡ size f.first + sizes f.others = row_weighs h.denote ∙ ap sizes f.are in
      record {
        term = record { term = f.first; denotes = f.denotes };
        others = record { terms = f.others; denote = f.row };
        below = within f.denotes;
        end_below = ends_within f.denotes;
        some = some_node f.denotes;
        first_weight = omega (arith, e, term_weighs f.denotes);
        others_weight = omega (arith, e, row_weighs f.row, size_pos f.first);
      }
