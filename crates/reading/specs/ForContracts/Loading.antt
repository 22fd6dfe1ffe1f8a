-- The terms of a task, as the sheet writes them and as the subject's nodes.
use Rattle.std.specs.Prelude.{ℕ, ◌≤◌, ◌≡◌, List, map, length}
use Rattle.format.specs.Limits.{max_symbols, max_task_nodes, position_count, node_count}
use Rattle.terms.specs.Term.{Terms, size, sizes, Grounds}
use Rattle.terms.specs.Position.{subterms_of}
use Rattle.terms.specs.Prefix.{prefixes}
use Rattle.terms.specs.ForContracts.Stored.{PartAt, AllSymbols}
use Rattle.reading.specs.ForContracts.Seek.{Spans}

-- The digits from `from` to `end` write these ground terms, one behind the other.
module _ (sheet arities : List ℕ) (from end : ℕ) where
  pub record TermsIn (ts : Terms) : Type 0 where
    pub spans : Spans sheet from end (prefixes ts)
    pub is_ground : Grounds arities ts
    pub few_nodes : sizes ts ≤ max_task_nodes
    pub few_symbols : length arities ≤ max_symbols

  pub record HasTermsIn : Type 0 where
    pub terms : Terms
    pub are : TermsIn terms

-- These ground terms stand from the subject's first node on, and have `n` nodes. No variable stands among the nodes.
pub record Loaded (arities nodes stored_sizes : List ℕ) (ts : Terms) (n : ℕ) : Type 0 where
  pub few_symbols : length arities ≤ max_symbols
  pub is_ground : Grounds arities ts
  pub counted : n ≡ sizes ts
  pub few_nodes : sizes ts ≤ max_task_nodes
  pub nodes_length : length nodes ≡ node_count
  pub sizes_length : length stored_sizes ≡ node_count
  pub symbols : AllSymbols nodes
  pub bytes : PartAt nodes position_count (prefixes ts)
  pub sizes_there : PartAt stored_sizes position_count (map size (subterms_of ts))
