-- Terms that are stored in a list of nodes: their prefix form, and beside each node the number of nodes of the term that starts there.
use Rattle.std.specs.Prelude.{ℕ, ◌+◌, ◌≤◌, ◌<◌, ◌≡◌, List, ◌++◌, map, length, get_or, drop}
use Rattle.format.specs.Limits.{max_symbols, first_variable, position_count, filling_node, node_count}
use Rattle.terms.specs.Term.{Term, size, Ground}
use Rattle.terms.specs.Position.{subterms}
use Rattle.terms.specs.Prefix.{prefix}
use Rattle.terms.specs.Filling.{filling}

-- From `i` on, `all` has the elements of `part`.
pub record PartAt (all : List ℕ) (i : ℕ) (part : List ℕ) : Type 0 where
  pub rest : List ℕ
  pub is : drop i all ≡ part ++ rest

module _ (nodes sizes : List ℕ) where
  -- The term starts at node `i`.
  pub record StoredAt (i : ℕ) (t : Term) : Type 0 where
    pub bytes : PartAt nodes i (prefix t)
    pub sizes_there : PartAt sizes i (map size (subterms t))

  -- A ground term over symbols with these arities starts at node `i`, which stands behind an equation's.
  pub record GroundStored (arities : List ℕ) (i : ℕ) (t : Term) : Type 0 where
    pub few_symbols : length arities ≤ max_symbols
    pub is_ground : Ground arities t
    pub stored : StoredAt i t
    pub low : position_count ≤ i
    pub within : i + size t ≤ node_count

-- This ground term is the subject: it starts at the first node behind an equation's, and no variable stands from there on. Behind the subject's nodes stands
-- the filling (document 02, W5).
pub record SubjectIs (nodes sizes arities : List ℕ) (t : Term) : Type 0 where
  pub nodes_length : length nodes ≡ node_count
  pub sizes_length : length sizes ≡ node_count
  pub symbols : (i : ℕ) → position_count ≤ i → get_or nodes i 0 < first_variable
  pub stored : GroundStored nodes sizes arities position_count t
  pub inside : position_count + size t ≤ filling_node
  pub filling_stored : GroundStored nodes sizes arities filling_node (filling arities)

-- No byte is a variable's; nor is 0, which is read behind the end.
unfoldable pub AllSymbols : List ℕ → Type 0
AllSymbols bytes = (i : ℕ) → get_or bytes i 0 < first_variable
