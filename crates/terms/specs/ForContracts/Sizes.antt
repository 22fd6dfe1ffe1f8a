-- The number of nodes of the term that starts at each byte of a list of terms in prefix form.
use Rattle.std.specs.Prelude.{ℕ, ◌≤◌, ◌≡◌, List, map, length}
use Rattle.std.proofs.Math.Seq.{slice}
use Rattle.terms.specs.Term.{size}
use Rattle.terms.specs.Position.{subterms_of}
use Rattle.terms.specs.Prefix.{prefixes, terms_of}
use Rattle.terms.specs.ForContracts.Fits.{AllFit}
use Rattle.format.specs.Limits.{node_count}

-- These bytes are whole terms over the symbols with these arities, one behind the other.
pub record Whole (arities bytes : List ℕ) : Type 0 where
  pub fit : AllFit arities (terms_of arities bytes)
  pub spelled : prefixes (terms_of arities bytes) ≡ bytes

unfoldable pub node_sizes : (arities bytes : List ℕ) → List ℕ
unfolding subterms_of terms_of size
node_sizes arities bytes = map size (subterms_of (terms_of arities bytes))

-- The nodes from `from` to `end` are whole terms, and there is room for their sizes.
pub record Measurable (arities nodes stored_sizes : List ℕ) (from end : ℕ) : Type 0 where
  pub ordered : from ≤ end
  pub few : end ≤ node_count
  pub nodes_room : end ≤ length nodes
  pub sizes_room : end ≤ length stored_sizes
  pub terms : Whole arities (slice from end nodes)
