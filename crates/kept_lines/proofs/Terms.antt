-- What the test of a binding and of an inequality finds: from the nodes' symbols and sizes, and from the verdict of two nodes.
use Prim.Native.Nat.{ℕ, ◌+◌, ◌≤◌, ◌<◌}
use mathlib.Core.Path.{◌≡◌, sym, ap, subst, ◌∙◌}
use mathlib.Core.Logic.{inl, inr}
use mathlib.Core.List.{List}
use native.Mathlib.Omega.{arith}
use lib.ListN.{length, get_or}
use Rattle.format.specs.Limits.{position_count, first_variable, variable_count}
use Rattle.terms.specs.Term.{Term, Terms, app, nil, Values}
use Rattle.path_order.specs.Order.{◌≻◌, L1, L2, L3, none}
use Rattle.ordering.specs.declared.verdict.Verdict.{Verdict}
use Rattle.ordering.specs.declared.verdict.Verdict.TheVariants.{Smaller as smaller, Equal as equal, Greater as greater}
use Rattle.ordering.specs.Verdict.{verdict}
use Rattle.ordering.specs.Theory.Decide.{lexicographic_nil_left}
use Rattle.ordering.specs.Theory.Verdict.{means_verdict, told_equal, told_greater, told_not_greater}
use Rattle.ordering.specs.Theory.Total.{verdict_smaller}
use Rattle.solving.specs.Line.{greater as exceeding}
use Rattle.cells.specs.ForContracts.Nodes.{TermAt, resolved}
use Rattle.cells.specs.ForContracts.Cells.{SettledCells}
use Rattle.comparing.specs.ForContracts.Comparing.{HasTerm, Compares}
use Rattle.cells.specs.Theory.Nodes.{within, row_empty, symbol_at}
use Rattle.cells.specs.Theory.Resolved.{byte_low, SymbolNode, resolved_node}
use Rattle.kept_lines.specs.ForContracts.Holding.{BindingTestable, ElementTestable, InstanceAt}

module _ {nodes sizes values ready cells : List ℕ} (m : SettledCells nodes sizes values ready cells) where
  pub resolvable : {i : ℕ} {t : Term} → TermAt nodes sizes values i t → (i < length nodes) × (get_or nodes i 0 < first_variable + variable_count)
  resolvable a = (omega (arith, within a, m.nodes_length), byte_low a)

  pub readable : {i : ℕ} {t : Term} → TermAt nodes sizes values i t → i < length nodes
  readable a = omega (arith, within a, m.nodes_length)

  pub measurable : {i : ℕ} {t : Term} → TermAt nodes sizes values i t → i < length sizes
  measurable a = omega (arith, within a, m.sizes_length)

-- A constant exceeds no term whose symbol is not smaller, and every term whose symbol is greater exceeds it.
constant_not_greater : {f g : ℕ} {ts : Terms} → f ≤ g → ¬ (app f nil ≻ app g ts)
constant_not_greater h (L1 p) = elim p [ ]
constant_not_greater h (L2 i a) = omega arith
constant_not_greater h (L3 l) = lexicographic_nil_left l

constant_exceeded : {f g : ℕ} (ss : Terms) → g < f → app f ss ≻ app g nil
constant_exceeded ss h = L2 h none

-- A node with one node's size has no arguments.
constant_at : {nodes sizes values : List ℕ} {i : ℕ} {t : Term} → SymbolNode nodes sizes values i t → get_or sizes i 0 ≡ 1 → t ≡ app (get_or nodes i 0) nil
constant_at {nodes} {i = i} n h = let a = symbol_at n.denotes n.symbol in a.is ∙ ap (app (get_or nodes i 0)) (row_empty a.row (omega arith))

-- The node that the instance's gives way to.
pub instance_node : {nodes sizes values : List ℕ} {ρ : Values} {value : ℕ → Term} {p s : ℕ} → InstanceAt nodes sizes values ρ value p → s ≡ resolved nodes values p
    → SymbolNode nodes sizes values s (value p)
instance_node {nodes} {sizes} {values} {value = value} {p = p} i e = subst (λ n. SymbolNode nodes sizes values n (value p)) (sym e) (resolved_node i.stands)

pub has_instance : {nodes sizes values : List ℕ} {ρ : Values} {value : ℕ → Term} {p s : ℕ} → InstanceAt nodes sizes values ρ value p → s ≡ resolved nodes values p
    → HasTerm nodes sizes values s
has_instance {value = value} {p = p} i e = record { term = value p; denotes = (instance_node i e).denotes }

-- A binding of the variable `v`, whose value is at `node`, to `p`, which gives way to `s`.
module _ {nodes sizes values : List ℕ} {ρ : Values} {value : ℕ → Term} {v p node : ℕ} (b : BindingTestable nodes sizes values ρ value v p) (e : node ≡ get_or values v 0) where
  pub no_value : node < position_count → ¬ (ρ v ≡ value p)
  no_value h = elim b.valued [ inl x ↦ absurd (omega (arith, x.low)) | inr x ↦ x.differs ]

  module _ (low : position_count ≤ node) where
    pub value_node : TermAt nodes sizes values node (ρ v)
    value_node = elim b.valued [ inl x ↦ subst (λ n. TermAt nodes sizes values n (ρ v)) (sym e) x.stands | inr x ↦ absurd (omega (arith, x.absent)) ]

    module _ {s : ℕ} (f : s ≡ resolved nodes values p) where
      pub other_symbols : get_or nodes node 0 < first_variable → ¬ (get_or nodes s 0 ≡ get_or nodes node 0) → ¬ (ρ v ≡ value p)
      other_symbols l n d =
          let i = instance_node b.instance_there f in
          let x = symbol_at i.denotes i.symbol in
          let y = symbol_at value_node l in
          let z : get_or nodes s 0 ≡ get_or nodes node 0 = cc (x.is, y.is, d) in
          n z

      module _ {r : Verdict} (c : Compares nodes sizes values s node r) where
        binding_verdict : r ≡ verdict (value p) (ρ v)
        binding_verdict = c.is (value p) (ρ v) (instance_node b.instance_there f).denotes value_node

        pub binding_equal : r ≡ equal → ρ v ≡ value p
        binding_equal h = sym (told_equal (value p) (ρ v) binding_verdict h)

        pub binding_other : ¬ (r ≡ equal) → ¬ (ρ v ≡ value p)
        binding_other n h = n (binding_verdict ∙ means_verdict (value p) (ρ v) equal (sym h))

-- An inequality between `p` and `q`, which give way to `s` and `t`.
module _ {nodes sizes values : List ℕ} {ρ : Values} {value : ℕ → Term} {p q s t : ℕ} (x : ElementTestable nodes sizes values ρ value (exceeding p q)) (e : s ≡ resolved nodes values p)
    (f : t ≡ resolved nodes values q) where
  pub one_low : t < position_count → position_count ≤ s
  one_low h = elim x.2 [ inl a ↦ omega arith | inr a ↦ absurd (omega arith) ]

  left_node : SymbolNode nodes sizes values s (value p)
  left_node = instance_node x.0 e

  right_node : SymbolNode nodes sizes values t (value q)
  right_node = instance_node x.1 f

  pub inequality_fails : get_or sizes s 0 ≡ 1 → get_or nodes s 0 ≤ get_or nodes t 0 → ¬ (value p ≻ value q)
  inequality_fails l h g =
      let a = constant_at left_node l in
      let b = (symbol_at right_node.denotes right_node.symbol).is in
      constant_not_greater h (rw (a, b) at g)

  pub inequality_told : get_or sizes t 0 ≡ 1 → get_or nodes t 0 < get_or nodes s 0 → value p ≻ value q
  inequality_told l h =
      let a = symbol_at left_node.denotes left_node.symbol in
      let b = constant_at right_node l in
      rw (a.is, b) (constant_exceeded a.arguments h)

  module _ {r : Verdict} (c : Compares nodes sizes values s t r) where
    inequality_verdict : r ≡ verdict (value p) (value q)
    inequality_verdict = c.is (value p) (value q) left_node.denotes right_node.denotes

    pub inequality_greater : r ≡ greater → value p ≻ value q
    inequality_greater h = told_greater (value p) (value q) inequality_verdict h

    pub inequality_not_greater : ¬ (r ≡ greater) → ¬ (value p ≻ value q)
    inequality_not_greater n = told_not_greater (value p) (value q) inequality_verdict n

  -- Asked the other way round.
  module _ {r : Verdict} (c : Compares nodes sizes values t s r) where
    other_verdict : r ≡ verdict (value q) (value p)
    other_verdict = c.is (value q) (value p) right_node.denotes left_node.denotes

    pub inequality_smaller : r ≡ smaller → value p ≻ value q
    inequality_smaller h = let g = x.3 in (verdict_smaller g.arities (value q) (value p) g.second g.first).0 (sym other_verdict ∙ h)

    pub inequality_not_smaller : ¬ (r ≡ smaller) → ¬ (value p ≻ value q)
    inequality_not_smaller n h = let g = x.3 in n (other_verdict ∙ (verdict_smaller g.arities (value q) (value p) g.second g.first).1 h)
