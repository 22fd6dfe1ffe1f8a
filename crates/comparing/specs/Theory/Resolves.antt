-- A node with a term, and the node of a symbol that it gives way to: its place, its arguments, its weight.
use Rattle.std.specs.Prelude.{ℕ, ◌+◌, ◌≤◌, ◌<◌, suc, ◌≡◌, refl, List, get_or}
use Rattle.std.proofs.Common.{sym, ap, subst, ◌∙◌}
use Rattle.format.specs.Limits.{first_variable, position_count, node_count}
use Rattle.terms.specs.Term.{app, size, sizes}
use Rattle.terms.specs.ForContracts.Arguments.{arguments_at}
use Rattle.cells.specs.ForContracts.Nodes.{resolved}
use Rattle.cells.specs.Theory.Nodes.{within, ends_within, symbol_at}
use Rattle.cells.specs.ForContracts.Cells.{SettledCells}
use Rattle.cells.specs.Theory.Resolved.{resolved_node, resolved_symbol}
use Rattle.comparing.specs.ForContracts.Comparing.{HasTerm, HasTerms}
use Rattle.comparing.specs.Theory.Weight.{term_weight, row_weight, term_weighs, row_weighs}

-- A node `i` with a term, and the node `a` that it gives way to.
pub record Resolves (nodes sizes values : List ℕ) (i a : ℕ) : Type 0 where
  pub is : a ≡ resolved nodes values i
  pub here : HasTerm nodes sizes values a
  pub below : a < node_count
  pub end_below : a + get_or sizes a 0 ≤ node_count
  pub symbol : get_or nodes a 0 < first_variable
  pub arguments : HasTerms nodes sizes values (arguments_at sizes a)
  pub weight : term_weight nodes sizes values i ≡ suc (row_weight nodes sizes values (arguments_at sizes a))
  pub same_weight : term_weight nodes sizes values a ≡ term_weight nodes sizes values i
  pub term_is : here.term ≡ app (get_or nodes a 0) arguments.terms

pub resolves : {nodes stored_sizes values : List ℕ} {i a : ℕ} → HasTerm nodes stored_sizes values i → a ≡ resolved nodes values i → Resolves nodes stored_sizes values i a
unfolding size
resolves {nodes} {stored_sizes} {values} {i} {a} h e = subst (λ b. Resolves nodes stored_sizes values i b) (sym e) there
  where
    there : Resolves nodes stored_sizes values i (resolved nodes values i)
    there =
        let n = resolved_node h.denotes in
        let g = symbol_at n.denotes n.symbol in
        let z : size h.term ≡ suc (sizes g.arguments) = ap size g.is in
        record {
          is = refl;
          here = record { term = h.term; denotes = n.denotes };
          below = within n.denotes;
          end_below = ends_within n.denotes;
          symbol = n.symbol;
          arguments = record { terms = g.arguments; denote = g.row };
          weight = term_weighs h.denotes ∙ (z ∙ ap suc (sym (row_weighs g.row)));
          same_weight = term_weighs n.denotes ∙ sym (term_weighs h.denotes);
          term_is = g.is;
        }

-- A symbol gives way to itself.
pub symbol_resolves : {nodes sizes values : List ℕ} {i : ℕ} → HasTerm nodes sizes values i → get_or nodes i 0 < first_variable → Resolves nodes sizes values i i
symbol_resolves {nodes} {sizes} {values} {i} h l = resolves h (sym (resolved_symbol nodes values i l))

-- A subject's node gives way to itself.
pub subject_resolves : {nodes sizes values ready cells : List ℕ} {j : ℕ} → SettledCells nodes sizes values ready cells → HasTerm nodes sizes values j → position_count ≤ j
    → Resolves nodes sizes values j j
subject_resolves {j = j} m h l = symbol_resolves h (m.symbols j l)
