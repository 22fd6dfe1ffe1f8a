-- The number of nodes of the term that a node stands for, computed from the memory: the measure of the comparison.
use Prim.Native.Nat.{ℕ, zero, suc, ◌+◌, ◌-◌, ◌≤◌, ◌<◌}
use Rattle.std.specs.Prelude.{◌≡◌, List, get_or}
use Rattle.std.proofs.Common.{ap, ◌∙◌}
use native.Mathlib.Omega.{arith}
use Rattle.format.specs.Byte.{class_of}
use Rattle.format.specs.declared.byte.Class.{Class}
use Rattle.format.specs.declared.byte.Class.TheVariants.{Symbol as symbol, Variable as variable, Foreign as foreign}
use Rattle.terms.specs.Term.{Term, Terms, size, sizes}
use Rattle.terms.specs.declared.arguments.Arguments.{Arguments}
use Rattle.cells.specs.ForContracts.Nodes.{symbol_node, variable_node, none, more, TermAt, TermsAt}
use Rattle.cells.specs.Theory.Nodes.{some_node, row_ordered, ground_size}

-- A symbol is one node, a variable the nodes of its value.
node_weight : List ℕ → List ℕ → Class → ℕ
node_weight sizes values (symbol f) = 1
node_weight sizes values (variable v) = get_or sizes (get_or values v 0) 0
node_weight sizes values foreign = 0

-- The nodes that `n` nodes from `k` on stand for.
pub weight : (nodes sizes values : List ℕ) → ℕ → ℕ → ℕ
weight nodes sizes values k zero = 0
weight nodes sizes values k (suc n) = node_weight sizes values (class_of (get_or nodes k 0)) + weight nodes sizes values (k + 1) n

pub term_weight : (nodes sizes values : List ℕ) → ℕ → ℕ
term_weight nodes sizes values i = weight nodes sizes values i (get_or sizes i 0)

pub row_weight : (nodes sizes values : List ℕ) → Arguments → ℕ
row_weight nodes sizes values row = weight nodes sizes values row.from (row.end - row.from)

module _ (nodes sizes values : List ℕ) where
  weight_add : (k m n : ℕ) → weight nodes sizes values k (m + n) ≡ weight nodes sizes values k m + weight nodes sizes values (k + m) n
  unfolding weight
  weight_add k zero n =
      let e : 0 + n ≡ n = omega arith in
      let d : k + 0 ≡ k = omega arith in
      rw (e, d) (omega arith)
  weight_add k (suc m) n =
      let e : suc m + n ≡ suc (m + n) = omega arith in
      let d : k + suc m ≡ (k + 1) + m = omega arith in
      rw (e, d) (omega (arith, weight_add (k + 1) m n))

  weight_first : (k n : ℕ) → 1 ≤ n → weight nodes sizes values k n ≡ node_weight sizes values (class_of (get_or nodes k 0)) + weight nodes sizes values (k + 1) (n - 1)
  unfolding weight
  weight_first k zero h = absurd (omega arith)
  weight_first k (suc n) h = let e : suc n - 1 ≡ n = omega arith in rw e

  -- A row weighs no less than what stands behind its first node.
  pub weight_behind : (row : Arguments) → row.from < row.end → row_weight nodes sizes values (record { from = row.from + 1; end = row.end }) ≤ row_weight nodes sizes values row
  unfolding row_weight
  weight_behind row h =
      let e : row.end - (row.from + 1) ≡ (row.end - row.from) - 1 = omega arith in
      rw e (omega (arith, weight_first row.from (row.end - row.from) (omega arith)))

module _ {nodes stored_sizes values : List ℕ} where
  mutual
    unfolding size weight term_weight row_weight node_weight

    pub term_weighs : {i : ℕ} {t : Term} → TermAt nodes stored_sizes values i t → term_weight nodes stored_sizes values i ≡ size t
    term_weighs {i} (symbol_node h c r) =
        let e : (i + get_or stored_sizes i 0) - (i + 1) ≡ get_or stored_sizes i 0 - 1 = omega arith in
        weight_first nodes stored_sizes values i (get_or stored_sizes i 0) (some_node (symbol_node h c r)) ∙ rw c (omega (arith, row_weighs r, ap (weight nodes stored_sizes values (i + 1)) e))
    term_weighs {i} (variable_node h c o x) = rw (o, c) (omega (arith, ground_size x.is_ground))

    pub row_weighs : {k end : ℕ} {ts : Terms} → TermsAt nodes stored_sizes values k end ts → row_weight nodes stored_sizes values (record { from = k; end = end }) ≡ sizes ts
    row_weighs {k} {end} (none e) = let d : end - k ≡ 0 = omega arith in rw d
    row_weighs {k} {end} (more s r) =
        let l = row_ordered r in
        let e : end - k ≡ get_or stored_sizes k 0 + (end - (k + get_or stored_sizes k 0)) = omega arith in
        rw e (weight_add nodes stored_sizes values k (get_or stored_sizes k 0) (end - (k + get_or stored_sizes k 0)) ∙ cc (term_weighs s, row_weighs r))
