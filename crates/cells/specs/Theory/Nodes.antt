-- Laws of the nodes: where terms stand, that the same bytes stand for one term at most, and the number of nodes of that term.
use Rattle.std.specs.Prelude.{ℕ, ◌+◌, ◌-◌, ◌≤◌, ◌<◌, ◌≡◌, refl, List, get_or}
use Rattle.std.proofs.Common.{sym, ap, arith}
use Rattle.format.specs.Lists.{SameBytes}
use Rattle.format.specs.Limits.{max_symbols, first_variable, variable_count, node_count}
use Rattle.format.specs.Theory.Byte.{class_symbol, class_variable}
use Rattle.terms.specs.Term.{Term, Terms, app, nil, cons, size, sizes}
use Rattle.cells.specs.ForContracts.Nodes.{Denotes, symbol_node, variable_node, RowDenotes, none, more, GroundAt, ValueOf, TermAt, TermsAt}

module _ {nodes sizes : List ℕ} {Value : ℕ → Term → Type 0} where
  -- A term stands within the nodes, and has a node; a row ends where its last term ends.
  pub within : {i : ℕ} {t : Term} → Denotes nodes sizes Value i t → i < node_count
  within (symbol_node h c r) = h
  within (variable_node h c o x) = h

  mutual
    pub some_node : {i : ℕ} {t : Term} → Denotes nodes sizes Value i t → 1 ≤ get_or sizes i 0
    some_node (symbol_node h c r) = omega (arith, row_ordered r)
    some_node (variable_node h c o x) = omega arith

    pub row_ordered : {k end : ℕ} {ts : Terms} → RowDenotes nodes sizes Value k end ts → k ≤ end
    row_ordered (none e) = omega arith
    row_ordered (more s r) = omega (arith, row_ordered r)

  mutual
    pub ends_within : {i : ℕ} {t : Term} → Denotes nodes sizes Value i t → i + get_or sizes i 0 ≤ node_count
    ends_within (symbol_node h c r) = row_ends_within r (omega arith)
    ends_within (variable_node h c o x) = omega arith

    pub row_ends_within : {k end : ℕ} {ts : Terms} → RowDenotes nodes sizes Value k end ts → k ≤ node_count → end ≤ node_count
    row_ends_within (none e) h = omega arith
    row_ends_within (more s r) h = row_ends_within r (ends_within s)

-- A row that is not at its end has a first term; at its end it has none.
pub record FirstOfRow (nodes sizes : List ℕ) (Value : ℕ → Term → Type 0) (k end : ℕ) (ts : Terms) : Type 0 where
  pub first : Term
  pub others : Terms
  pub are : ts ≡ cons first others
  pub denotes : Denotes nodes sizes Value k first
  pub row : RowDenotes nodes sizes Value (k + get_or sizes k 0) end others

module _ {nodes sizes : List ℕ} {Value : ℕ → Term → Type 0} where
  pub row_first : {k end : ℕ} {ts : Terms} → RowDenotes nodes sizes Value k end ts → k < end → FirstOfRow nodes sizes Value k end ts
  row_first (none e) h = absurd (omega arith)
  row_first (more {t = t} {ts = ts} s r) h = record { first = t; others = ts; are = refl; denotes = s; row = r }

  pub row_empty : {k end : ℕ} {ts : Terms} → RowDenotes nodes sizes Value k end ts → end ≤ k → ts ≡ nil
  row_empty (none e) h = refl
  row_empty (more s r) h = absurd (omega (arith, some_node s, row_ordered r))

  -- Where nodes and sizes are the same bytes at two places, the same term stands there, if a variable has one value at most.
  module _ (once : (v : ℕ) (s t : Term) → Value v s → Value v t → s ≡ t) where
    module _ {i j n : ℕ} (same_nodes : SameBytes nodes i j n) (same_lengths : SameBytes sizes i j n) where
      same_at : (p q : ℕ) → p + j ≡ q + i → i ≤ p → p < i + n → (get_or nodes p 0 ≡ get_or nodes q 0) × (get_or sizes p 0 ≡ get_or sizes q 0)
      same_at p q e h l =
          let x : i + (p - i) ≡ p = omega arith in
          let y : j + (p - i) ≡ q = omega arith in
          (rw (x, y) at (same_nodes.each (p - i) (omega arith)), rw (x, y) at (same_lengths.each (p - i) (omega arith)))

      mutual
        same_term : {p q : ℕ} {s t : Term} → p + j ≡ q + i → i ≤ p → p + get_or sizes p 0 ≤ i + n → Denotes nodes sizes Value p s → Denotes nodes sizes Value q t → s ≡ t
        same_term {p} {q} e h l (symbol_node {f = f} x c r) (symbol_node {f = g} y d w) =
            let (a, b) = same_at p q e h (omega (arith, row_ordered r)) in
            let z : f ≡ g = cc in
            cc (same_row (omega arith) (omega arith) (omega arith) l r w)
        same_term {p} {q} e h l (symbol_node x c r) (variable_node y d o w) =
            let (a, b) = same_at p q e h (omega (arith, row_ordered r)) in
            let z : ◌≡◌ {A = ℕ} 0 1 = cc in absurd (omega arith)
        same_term {p} {q} e h l (variable_node x c o w) (symbol_node y d r) =
            let (a, b) = same_at p q e h (omega arith) in
            let z : ◌≡◌ {A = ℕ} 0 1 = cc in absurd (omega arith)
        same_term {p} {q} e h l (variable_node {v = u} x c o a) (variable_node {v = v} y d w b) =
            let (f, g) = same_at p q e h (omega arith) in
            let z : u ≡ v = cc in once v _ _ (rw z at a) b

        same_row : {k m end last : ℕ} {ss ts : Terms} → k + j ≡ m + i → end + j ≡ last + i → i ≤ k → end ≤ i + n → RowDenotes nodes sizes Value k end ss → RowDenotes nodes sizes Value m last ts → ss ≡ ts
        same_row e d h l (none x) (none y) = refl
        same_row e d h l (none x) (more s r) = absurd (omega (arith, some_node s, row_ordered r))
        same_row e d h l (more s r) (none x) = absurd (omega (arith, some_node s, row_ordered r))
        same_row {k} {m} e d h l (more s r) (more t w) =
            let (a, b) = same_at k m e h (omega (arith, some_node s, row_ordered r)) in
            cc (same_term e h (omega (arith, row_ordered r)) s t, same_row (omega arith) d (omega (arith, some_node s)) l r w)

    same_bytes_same_term : {i j : ℕ} {s t : Term} → SameBytes nodes i j (get_or sizes i 0) → SameBytes sizes i j (get_or sizes i 0) → Denotes nodes sizes Value i s → Denotes nodes sizes Value j t → s ≡ t
    same_bytes_same_term p q a b = same_term p q (omega arith) (omega arith) (omega arith) a b

    -- A node stands for one term at most.
    pub unique : {i : ℕ} {s t : Term} → Denotes nodes sizes Value i s → Denotes nodes sizes Value i t → s ≡ t
    unique a b = same_bytes_same_term (record { each = λ k l. refl }) (record { each = λ k l. refl }) a b

-- A ground term stands whatever the variables stand for, and `stored_sizes` has the number of its nodes.
module _ {nodes stored_sizes : List ℕ} where
  mutual
    pub ground_denotes : {Value : ℕ → Term → Type 0} {i : ℕ} {t : Term} → GroundAt nodes stored_sizes i t → Denotes nodes stored_sizes Value i t
    ground_denotes (symbol_node h c r) = symbol_node h c (ground_row r)
    ground_denotes (variable_node h c o x) = absurd x

    ground_row : {Value : ℕ → Term → Type 0} {k end : ℕ} {ts : Terms} → RowDenotes nodes stored_sizes (λ v t. ⊥) k end ts → RowDenotes nodes stored_sizes Value k end ts
    ground_row (none e) = none e
    ground_row (more s r) = more (ground_denotes s) (ground_row r)

  mutual
    unfolding size

    pub ground_size : {i : ℕ} {t : Term} → GroundAt nodes stored_sizes i t → get_or stored_sizes i 0 ≡ size t
    ground_size (symbol_node h c r) = omega (arith, ground_sizes r)
    ground_size (variable_node h c o x) = absurd x

    ground_sizes : {k end : ℕ} {ts : Terms} → RowDenotes nodes stored_sizes (λ v t. ⊥) k end ts → k + sizes ts ≡ end
    ground_sizes (none e) = omega arith
    ground_sizes (more s r) = omega (arith, ground_size s, ground_sizes r)

module _ {nodes sizes values : List ℕ} where
  ground_once : (v : ℕ) (s t : Term) → ValueOf nodes sizes values v s → ValueOf nodes sizes values v t → s ≡ t
  ground_once v s t x y = unique (λ v s t e d. absurd e) x.is_ground y.is_ground

  -- The same nodes and sizes stand for the same term.
  pub same_nodes_same_term : {i j : ℕ} {s t : Term} → SameBytes nodes i j (get_or sizes i 0) → SameBytes sizes i j (get_or sizes i 0) → TermAt nodes sizes values i s → TermAt nodes sizes values j t → s ≡ t
  same_nodes_same_term p q a b = same_bytes_same_term ground_once p q a b

  pub term_unique : {i : ℕ} {s t : Term} → TermAt nodes sizes values i s → TermAt nodes sizes values i t → s ≡ t
  term_unique a b = unique ground_once a b

-- At a symbol stands the symbol with its arguments behind it; at a variable the value.
pub record SymbolAt (nodes sizes values : List ℕ) (i : ℕ) (t : Term) : Type 0 where
  pub arguments : Terms
  pub is : t ≡ app (get_or nodes i 0) arguments
  pub row : TermsAt nodes sizes values (i + 1) (i + get_or sizes i 0) arguments

pub record ValueAt (nodes sizes values : List ℕ) (i : ℕ) (t : Term) : Type 0 where
  pub low : get_or nodes i 0 - first_variable < variable_count
  pub value : GroundAt nodes sizes (get_or values (get_or nodes i 0 - first_variable) 0) t

module _ {nodes sizes values : List ℕ} where
  pub symbol_at : {i : ℕ} {t : Term} → TermAt nodes sizes values i t → get_or nodes i 0 < first_variable → SymbolAt nodes sizes values i t
  symbol_at {i} (symbol_node {f = f} {ts = ts} h c r) l = record { arguments = ts; is = ap (λ g. app g ts) (sym (class_symbol (get_or nodes i 0) f c).0); row = r }
  symbol_at {i} (variable_node {v = v} h c o x) l = absurd (omega (arith, (class_variable (get_or nodes i 0) v c).0))

  pub value_at : {i : ℕ} {t : Term} → TermAt nodes sizes values i t → first_variable ≤ get_or nodes i 0 → ValueAt nodes sizes values i t
  value_at {i} (symbol_node {f = f} h c r) l = let (e, m) = class_symbol (get_or nodes i 0) f c in absurd (omega arith)
  value_at {i} (variable_node {v = v} h c o x) l =
      let (e, m) = class_variable (get_or nodes i 0) v c in
      let d : v ≡ get_or nodes i 0 - first_variable = omega arith in
      record { low = omega arith; value = rw d at x.is_ground }

pub ground_symbol : {nodes sizes : List ℕ} {i : ℕ} {t : Term} → GroundAt nodes sizes i t → get_or nodes i 0 < max_symbols
ground_symbol {nodes} {i = i} (symbol_node {f = f} h c r) = let (e, m) = class_symbol (get_or nodes i 0) f c in omega arith
ground_symbol (variable_node h c o x) = absurd x
