-- The nodes of a comparison, and the terms that they stand for: the positions of an equation, then those of the subject, and behind them one for
-- the filling (document 02, W5), which counts as one of the subject's.
use Rattle.std.specs.Prelude.{ℕ, ◌+◌, ◌-◌, ◌<◌, ◌≡◌, true, false, List, get_or, ltb}
use Rattle.format.specs.Limits.{node_count, first_variable}
use Rattle.format.specs.Byte.{class_of}
use Rattle.format.specs.declared.byte.Class.TheVariants.{Symbol as symbol, Variable as variable}
use Rattle.terms.specs.Term.{Term, Terms, app, nil, cons}

-- Node `i` is the byte at `i` of `nodes`, and `sizes` has the number of nodes of the term that starts there.
-- `Denotes .. i t`: the node `i` stands for the term `t`, where a variable `v` stands for a term that `Value v` holds of.
mutual
  pub data Denotes (nodes sizes : List ℕ) (Value : ℕ → Term → Type 0) : ℕ → Term → Type 0 where
    symbol_node : {i f : ℕ} {ts : Terms} → i < node_count → class_of (get_or nodes i 0) ≡ symbol f
        → RowDenotes nodes sizes Value (i + 1) (i + get_or sizes i 0) ts → Denotes nodes sizes Value i (app f ts)
    variable_node : {i v : ℕ} {t : Term} → i < node_count → class_of (get_or nodes i 0) ≡ variable v → get_or sizes i 0 ≡ 1 → Value v t
        → Denotes nodes sizes Value i t

  -- The nodes from `k` to `end`, the last one not among them, stand for these terms, one behind the other.
  pub data RowDenotes (nodes sizes : List ℕ) (Value : ℕ → Term → Type 0) : ℕ → ℕ → Terms → Type 0 where
    none : {k end : ℕ} → k ≡ end → RowDenotes nodes sizes Value k end nil
    more : {k end : ℕ} {t : Term} {ts : Terms} → Denotes nodes sizes Value k t → RowDenotes nodes sizes Value (k + get_or sizes k 0) end ts
        → RowDenotes nodes sizes Value k end (cons t ts)

-- A node that stands for a ground term: there is no variable among its nodes.
abbrev pub GroundAt : (nodes sizes : List ℕ) → ℕ → Term → Type 0
GroundAt nodes sizes = Denotes nodes sizes (λ v t. ⊥)

-- A variable stands for its value, the ground term at the node that `values` has for it.
pub record ValueOf (nodes sizes values : List ℕ) (v : ℕ) (t : Term) : Type 0 where
  pub is_ground : GroundAt nodes sizes (get_or values v 0) t

abbrev pub TermAt : (nodes sizes values : List ℕ) → ℕ → Term → Type 0
TermAt nodes sizes values = Denotes nodes sizes (ValueOf nodes sizes values)

abbrev pub TermsAt : (nodes sizes values : List ℕ) → ℕ → ℕ → Terms → Type 0
TermsAt nodes sizes values = RowDenotes nodes sizes (ValueOf nodes sizes values)

-- The node that stands for the same term as node `i` and is no variable.
unfoldable pub resolved : (nodes values : List ℕ) → ℕ → ℕ
resolved nodes values i = elim (ltb (get_or nodes i 0) first_variable) [ true ↦ i | false ↦ get_or values (get_or nodes i 0 - first_variable) 0 ]
