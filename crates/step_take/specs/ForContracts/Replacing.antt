-- What the code of replacing asks and answers: the instance of a side, and the subject with a part replaced by it.
use Rattle.std.specs.Prelude.{ℕ, ◌+◌, ◌≤◌, ◌<◌, ◌≡◌, true, List, length, get_or, Option, Some, None}
use Rattle.format.specs.Limits.{max_symbols, variable_count, position_count, max_task_nodes}
use Rattle.terms.specs.Term.{Term, Values, size}
use Rattle.terms.specs.Prefix.{prefix}
use Rattle.terms.specs.ForContracts.Fits.{Fits}
use Rattle.terms.specs.ForContracts.Stored.{PartAt, GroundStored, SubjectIs}
use Rattle.terms.specs.declared.arguments.Arguments.{Arguments}
use Rattle.reducing.specs.Match.{has_variable}

-- The side is the term `t`, and each of its variables has as its value the term at the node that `values` has for it.
pub record InstanceIs (bytes : List ℕ) (side : Arguments) (nodes sizes values arities : List ℕ) (t : Term) (ρ : Values) : Type 0 where
  pub few_symbols : length arities ≤ max_symbols
  pub fits : Fits arities t
  pub small : size t ≤ position_count
  pub spelled : PartAt bytes side.from (prefix t)
  pub ends : side.end ≡ side.from + size t
  pub slots : length values ≡ variable_count
  pub given : (v : ℕ) → has_variable v t ≡ true → GroundStored nodes sizes arities (get_or values v 0) (ρ v)

pub record HasInstance (bytes : List ℕ) (side : Arguments) (nodes sizes values : List ℕ) : Type 0 where
  pub arities : List ℕ
  pub term : Term
  pub assigned : Values
  pub is : InstanceIs bytes side nodes sizes values arities term assigned

-- The subject of `n` nodes has a part at position `p`, which is the node `node`.
pub record ReplacementIs (bytes : List ℕ) (side : Arguments) (arities nodes sizes values : List ℕ) (node n : ℕ) (subject t : Term) (ρ : Values) (p : ℕ) : Type 0 where
  pub stands : SubjectIs nodes sizes arities subject
  pub counted : n ≡ size subject
  pub inside : p < size subject
  pub there : node ≡ position_count + p
  pub instance_is : InstanceIs bytes side nodes sizes values arities t ρ

pub record HasReplacement (bytes : List ℕ) (side : Arguments) (arities nodes sizes values : List ℕ) (node n : ℕ) : Type 0 where
  pub subject : Term
  pub term : Term
  pub assigned : Values
  pub position : ℕ
  pub is : ReplacementIs bytes side arities nodes sizes values node n subject term assigned position

-- "result above 160 nodes": nothing has changed. Else the result is the subject.
abbrev pub ReplacedAs : (arities nodes sizes nodes_after sizes_after : List ℕ) (result : Term) → Option ℕ → Type 0
ReplacedAs arities nodes sizes nodes_after sizes_after result None = (max_task_nodes < size result) × (nodes_after ≡ nodes) × (sizes_after ≡ sizes)
ReplacedAs arities nodes sizes nodes_after sizes_after result (Some n) = (n ≡ size result) × SubjectIs nodes_after sizes_after arities result
