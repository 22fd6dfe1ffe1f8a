-- What the code of matching asks and answers: a side of an equation, a part of the subject, and the terms that the variables met.
use Rattle.std.specs.Prelude.{ℕ, ◌+◌, ◌≤◌, ◌<◌, ◌≡◌, Bool, true, false, List, length, get_or}
use Rattle.std.proofs.Math.Option.{Option, none, some}
use Rattle.format.specs.Limits.{variable_count, filling_node}
use Rattle.terms.specs.Term.{Term, size}
use Rattle.terms.specs.Prefix.{prefix}
use Rattle.terms.specs.ForContracts.Fits.{Fits}
use Rattle.terms.specs.ForContracts.Stored.{PartAt, GroundStored}
use Rattle.terms.specs.declared.arguments.Arguments.{Arguments}
use Rattle.reducing.specs.Match.{Match}

module _ (nodes sizes : List ℕ) where
  -- Some ground term starts at node `i` of the subject.
  pub record HasGround (i : ℕ) : Type 0 where
    pub arities : List ℕ
    pub term : Term
    pub stored : GroundStored nodes sizes arities i term
    pub before_filling : i < filling_node

  -- What a variable met: the term that starts at node `i`; the filling's node where it met none.
  abbrev pub SlotIs : (arities : List ℕ) → Option Term → (i : ℕ) → Type 0
  SlotIs arities none i = i ≡ filling_node
  SlotIs arities (some t) i = GroundStored nodes sizes arities i t × (i < filling_node)

  pub record MatchIs (arities : List ℕ) (m : Match) (values : List ℕ) : Type 0 where
    pub slots : length m ≡ variable_count
    pub values_length : length values ≡ variable_count
    pub each : (v : ℕ) → v < variable_count → SlotIs arities (get_or m v none) (get_or values v 0)

  pub record HasMatch (values : List ℕ) : Type 0 where
    pub arities : List ℕ
    pub found : Match
    pub is : MatchIs arities found values

  -- The answer of a match: whether there is one, and if so what the variables met.
  abbrev pub Matched : (arities : List ℕ) → Option Match → (values : List ℕ) → Bool → Type 0
  Matched arities none values r = r ≡ false
  Matched arities (some m) values r = (r ≡ true) × MatchIs arities m values

-- The side is the term `s`, and the term `t` starts at the node, both over symbols with these arities.
pub record SidePart (bytes : List ℕ) (side : Arguments) (nodes sizes : List ℕ) (node : ℕ) (arities : List ℕ) (s t : Term) : Type 0 where
  pub fits : Fits arities s
  pub spelled : PartAt bytes side.from (prefix s)
  pub ends : side.end ≡ side.from + size s
  pub part : GroundStored nodes sizes arities node t
  pub inside : node + size t ≤ filling_node

pub record HasSidePart (bytes : List ℕ) (side : Arguments) (nodes sizes : List ℕ) (node : ℕ) : Type 0 where
  pub arities : List ℕ
  pub pattern : Term
  pub part : Term
  pub is : SidePart bytes side nodes sizes node arities pattern part
