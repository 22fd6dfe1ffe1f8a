-- The node that a variable gives way to stands for the same term, and is a symbol.
use Rattle.std.specs.Prelude.{ℕ, ◌+◌, ◌-◌, ◌≤◌, ◌<◌, ◌≡◌, refl, Bool, true, false, List, get_or, ltb}
use Rattle.std.proofs.Common.{arith, lt-ltb, le-ltb, ltb-true, ltb-false}
use Rattle.format.specs.Limits.{first_variable, variable_count}
use Rattle.format.specs.Theory.Byte.{class_symbol, class_variable}
use Rattle.terms.specs.Term.{Term}
use Rattle.cells.specs.ForContracts.Nodes.{symbol_node, variable_node, TermAt, resolved}
use Rattle.cells.specs.Theory.Nodes.{ground_denotes, ground_symbol, value_at}

pub resolved_symbol : (nodes values : List ℕ) (i : ℕ) → get_or nodes i 0 < first_variable → resolved nodes values i ≡ i
unfolding resolved
resolved_symbol nodes values i h = rw (lt-ltb (get_or nodes i 0) first_variable h, resolved)

pub resolved_variable : (nodes values : List ℕ) (i : ℕ) → first_variable ≤ get_or nodes i 0 → resolved nodes values i ≡ get_or values (get_or nodes i 0 - first_variable) 0
unfolding resolved
resolved_variable nodes values i h = rw (le-ltb (get_or nodes i 0) first_variable h, resolved)

pub byte_low : {nodes sizes values : List ℕ} {i : ℕ} {t : Term} → TermAt nodes sizes values i t → get_or nodes i 0 < first_variable + variable_count
byte_low {nodes} {i = i} (symbol_node {f = f} h c r) = omega (arith, class_symbol (get_or nodes i 0) f c)
byte_low {nodes} {i = i} (variable_node {v = v} h c o x) = omega (arith, class_variable (get_or nodes i 0) v c)

pub record SymbolNode (nodes sizes values : List ℕ) (i : ℕ) (t : Term) : Type 0 where
  pub denotes : TermAt nodes sizes values i t
  pub symbol : get_or nodes i 0 < first_variable

pub resolved_node : {nodes sizes values : List ℕ} {i : ℕ} {t : Term} → TermAt nodes sizes values i t → SymbolNode nodes sizes values (resolved nodes values i) t
unfolding resolved
resolved_node {nodes} {sizes} {values} {i} {t} a = go (ltb (get_or nodes i 0) first_variable) refl
  where
    go : (b : Bool) → ltb (get_or nodes i 0) first_variable ≡ b
        → SymbolNode nodes sizes values (elim b as (λ x. ℕ) [ true ↦ i | false ↦ get_or values (get_or nodes i 0 - first_variable) 0 ]) t
    go true e = record { denotes = a; symbol = ltb-true (get_or nodes i 0) first_variable e }
    go false e =
        let v = value_at a (ltb-false (get_or nodes i 0) first_variable e) in
        record { denotes = ground_denotes v.value; symbol = omega (arith, ground_symbol v.value) }
