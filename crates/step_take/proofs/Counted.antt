-- How far the nodes of an instance are counted.
use Prim.Native.Nat.{ℕ, ◌+◌, ◌-◌, ◌*◌, ◌≤◌, ◌<◌}
use mathlib.Core.Path.{◌≡◌, sym}
use mathlib.Core.List.{List}
use native.Mathlib.Omega.{arith}
use lib.ListN.{get_or}
use Rattle.format.specs.Limits.{first_variable, position_count, max_task_nodes}
use Rattle.terms.specs.Term.{Term, Terms, nil, cons, size, sizes, Values, inst, insts}
use Rattle.terms.specs.declared.arguments.Arguments.{Arguments}
use Rattle.terms.specs.Theory.Append.{append, nil_cons, sizes_append}
use Rattle.terms.specs.Theory.Stored.{ground_size}
use Rattle.terms.specs.Theory.Spelled.{spelled_none}
use Rattle.step_take.specs.ForContracts.Replacing.{InstanceIs, HasInstance}
use Rattle.step_take.proofs.Left.{Left, Next, next_variable, next_symbol, next, left_whole, arguments_size}

-- `n` nodes are counted. The value of each variable has at most as many nodes as a task.
pub record Counted (bytes : List ℕ) (end : ℕ) (nodes stored_sizes values arities : List ℕ) (t : Term) (ρ : Values) (i n : ℕ) : Type 0 where
  pub terms : Terms
  pub left : Left bytes end nodes stored_sizes values arities ρ i terms
  pub counted : size (inst ρ t) ≡ n + sizes (insts ρ terms)
  pub few : n + (max_task_nodes + 1) * sizes terms ≤ (max_task_nodes + 1) * position_count

pub count_start : {bytes nodes sizes values arities : List ℕ} {side : Arguments} {t : Term} {ρ : Values} → InstanceIs bytes side nodes sizes values arities t ρ
    → Counted bytes side.end nodes sizes values arities t ρ side.from 0
unfolding size inst
count_start {t = t} s = record { terms = cons t nil; left = left_whole s; counted = omega arith; few = omega (arith, s.small) }

-- What holds for all terms that may stand there holds for those that do.
pub of_some : {bytes nodes sizes values : List ℕ} {side : Arguments} {i n : ℕ} (h : HasInstance bytes side nodes sizes values)
    → ((arities : List ℕ) (t : Term) (ρ : Values) → InstanceIs bytes side nodes sizes values arities t ρ → Counted bytes side.end nodes sizes values arities t ρ i n)
    → Counted bytes side.end nodes sizes values h.arities h.term h.assigned i n
of_some h each = each h.arities h.term h.assigned h.is

module _ {bytes : List ℕ} {end : ℕ} {nodes stored_sizes values arities : List ℕ} {t : Term} {ρ : Values} {i n : ℕ} (c : Counted bytes end nodes stored_sizes values arities t ρ i n) where
  pub symbol_counted : i < end → get_or bytes i 0 < first_variable → Counted bytes end nodes stored_sizes values arities t ρ (i + 1) (n + 1)
  unfolding size inst
  symbol_counted h l = go (next c.terms c.left h) c.counted c.few
    where
      go : {ts : Terms} → Next bytes end nodes stored_sizes values arities ρ i ts → size (inst ρ t) ≡ n + sizes (insts ρ ts) → n + (max_task_nodes + 1) * sizes ts ≤ (max_task_nodes + 1) * position_count
          → Counted bytes end nodes stored_sizes values arities t ρ (i + 1) (n + 1)
      go (next_variable b k g s) e f = absurd (omega arith)
      go (next_symbol {args = args} {ss = ss} b k s) e f =
          record { terms = append args ss; left = s; counted = omega (arith, arguments_size ρ args ss); few = omega (arith, sizes_append args ss) }

  pub value_counted : i < end → first_variable ≤ get_or bytes i 0 → Counted bytes end nodes stored_sizes values arities t ρ (i + 1) (n + get_or stored_sizes (get_or values (get_or bytes i 0 - first_variable) 0) 0)
  unfolding size inst
  value_counted h l = go (next c.terms c.left h) c.counted c.few
    where
      go : {ts : Terms} → Next bytes end nodes stored_sizes values arities ρ i ts → size (inst ρ t) ≡ n + sizes (insts ρ ts) → n + (max_task_nodes + 1) * sizes ts ≤ (max_task_nodes + 1) * position_count
          → Counted bytes end nodes stored_sizes values arities t ρ (i + 1) (n + get_or stored_sizes (get_or values (get_or bytes i 0 - first_variable) 0) 0)
      go (next_symbol b k s) e f = absurd (omega arith)
      go (next_variable {v} {ss} b k g s) e f =
          let d : v ≡ get_or bytes i 0 - first_variable = omega arith in
          let z = ground_size g in
          rw (← d) (record { terms = ss; left = s; counted = omega arith; few = omega (arith, g.low, g.within) })

  pub all_counted : end ≤ i → n ≡ size (inst ρ t)
  unfolding size inst
  all_counted h = go c.terms (spelled_none c.terms c.left.spelled h) c.counted
    where
      go : (ts : Terms) → ts ≡ nil → size (inst ρ t) ≡ n + sizes (insts ρ ts) → n ≡ size (inst ρ t)
      go nil e x = omega arith
      go (cons s ts) e x = absurd (nil_cons (sym e))
