-- What the walk's code sees of an equation: its bytes, and beside each the number of nodes of the term that starts there.
use Rattle.std.specs.Prelude.{ℕ, zero, suc, ◌+◌, ◌-◌, ◌≤◌, ◌<◌, ◌≡◌, true, false, List, [], ◌∷◌, length, get_or, ltb}
use Rattle.format.specs.Limits.{first_variable, variable_count, position_count}
use Rattle.terms.specs.Position.{Node, var_node, app_node}

-- The positions of the terms that stand in the row from `k` to `end`, of which there are at most `m`.
unfoldable pub row : (m : ℕ) (sizes : List ℕ) (k end : ℕ) → List ℕ
row zero sizes k end = []
row (suc m) sizes k end = elim (ltb k end) [ true ↦ k ∷ row m sizes (k + get_or sizes k 0) end | false ↦ [] ]

unfoldable pub arguments_of : (sizes : List ℕ) → ℕ → List ℕ
unfolding row
arguments_of sizes p = row (get_or sizes p 0) sizes (p + 1) (p + get_or sizes p 0)

-- What stands at a position; past the last one the first variable.
unfoldable pub node_of : (sizes : List ℕ) → (p byte : ℕ) → Node
unfolding arguments_of
node_of sizes p b = elim (ltb b first_variable) [ true ↦ app_node b (arguments_of sizes p) | false ↦ var_node (b - first_variable) ]

unfoldable pub view_of : (nodes sizes : List ℕ) → ℕ → Node
unfolding node_of
view_of nodes sizes p = node_of sizes p (get_or nodes p first_variable)

-- The terms in the row from `k` to `end` start at these positions, one behind the other.
pub data Row (sizes : List ℕ) : ℕ → ℕ → List ℕ → Type 0 where
  none : {k end : ℕ} → k ≡ end → Row sizes k end []
  more : {k end : ℕ} {ps : List ℕ} → 0 < get_or sizes k 0 → Row sizes (k + get_or sizes k 0) end ps → Row sizes k end (k ∷ ps)

-- The bytes are terms in prefix form, one behind the other, and `sizes` has the number of nodes of each.
pub record InPrefixForm (nodes sizes : List ℕ) : Type 0 where
  pub same_length : length sizes ≡ length nodes
  pub few : length nodes ≤ position_count
  pub variable_low : (p : ℕ) → p < length nodes → first_variable ≤ get_or nodes p first_variable → get_or nodes p first_variable < first_variable + variable_count
  pub variable_alone : (p : ℕ) → p < length nodes → first_variable ≤ get_or nodes p first_variable → get_or sizes p 0 ≡ 1
  pub arguments : (p : ℕ) → p < length nodes → get_or nodes p first_variable < first_variable → Row sizes (p + 1) (p + get_or sizes p 0) (arguments_of sizes p)
  pub ends_within : (p : ℕ) → p < length nodes → p + get_or sizes p 0 ≤ length nodes
