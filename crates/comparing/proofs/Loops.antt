-- What holds before each turn of the loops over arguments: for L1 and L2, that the answer for the rest of the row is the answer for the whole.
use Prim.Native.Nat.{ℕ, zero, suc, ◌+◌, ◌-◌, ◌≤◌, ◌<◌}
use mathlib.Core.Path.{◌≡◌, subst}
use mathlib.Core.Bool.{Bool}
use mathlib.Core.List.{List}
use native.Mathlib.Omega.{arith}
use lib.ListN.{length, get_or}
use Rattle.format.specs.Limits.{position_count, first_variable}
use Rattle.terms.specs.declared.arguments.Arguments.{Arguments}
use Rattle.ordering.specs.declared.verdict.Verdict.{Verdict}
use Rattle.ordering.specs.declared.verdict.Verdict.TheVariants.{Smaller as smaller, Greater as greater}
use Rattle.cells.specs.ForContracts.Cells.{SettledCells}
use Rattle.cells.specs.ForContracts.Passing.{AllSmaller, BehindSmaller}
use Rattle.comparing.specs.ForContracts.Comparing.{HasTerms, Compares, FindsReaching, ComparesWithAll}
use Rattle.cells.specs.Theory.Nodes.{row_ends_within}
use Rattle.comparing.specs.Theory.Weight.{row_weight, weight_behind}
use Rattle.comparing.proofs.Rows.{reaching_others, all_others}
use Rattle.comparing.proofs.Smaller.{behind_node, behind_terms, all_behind_node, reaching_behind_node}
use Rattle.comparing.specs.Theory.Rows.{first_argument}

module _ (nodes sizes values : List ℕ) where
  -- L1: of the terms in the row, those before `rest` do not reach the term at `j`.
  pub record Reaching (row : Arguments) (j : ℕ) (ready cells : List ℕ) (rest : Arguments) : Type 0 where
    pub settled : SettledCells nodes sizes values ready cells
    pub terms : HasTerms nodes sizes values rest
    pub light : row_weight nodes sizes values rest ≤ row_weight nodes sizes values row
    pub back : (b : Bool) → FindsReaching nodes sizes values rest j b → FindsReaching nodes sizes values row j b

  -- L2: of the terms in the row, the term at `i` exceeds those before `rest`.
  pub record Exceeding (i : ℕ) (row : Arguments) (ready cells : List ℕ) (rest : Arguments) : Type 0 where
    pub settled : SettledCells nodes sizes values ready cells
    pub terms : HasTerms nodes sizes values rest
    pub light : row_weight nodes sizes values rest ≤ row_weight nodes sizes values row
    pub low : position_count ≤ rest.from
    pub back : (b : Bool) → ComparesWithAll nodes sizes values i rest b → ComparesWithAll nodes sizes values i row b

module _ {nodes sizes values : List ℕ} where
  module _ {ready cells : List ℕ} (m : SettledCells nodes sizes values ready cells) where
    pub reaching_start : {row : Arguments} (j : ℕ) → HasTerms nodes sizes values row → Reaching nodes sizes values row j ready cells row
    reaching_start j h = record { settled = m; terms = h; light = omega arith; back = λ b o. o }

    pub exceeding_start : (i : ℕ) {row : Arguments} → HasTerms nodes sizes values row → position_count ≤ row.from → Exceeding nodes sizes values i row ready cells row
    exceeding_start i h l = record { settled = m; terms = h; light = omega arith; low = l; back = λ b o. o }

  pub reaching_again : {row rest : Arguments} {j n : ℕ} {r : Verdict} {ready cells ready_after after : List ℕ} → Reaching nodes sizes values row j ready cells rest
      → rest.from < rest.end → Compares nodes sizes values rest.from j r → r ≡ smaller → SettledCells nodes sizes values ready_after after
      → n ≡ get_or sizes rest.from 0 → Reaching nodes sizes values row j ready_after after (record { from = rest.from + n; end = rest.end })
  reaching_again x lt c le m e =
      let t = first_argument x.terms lt in
      rw e (record { settled = m; terms = t.others; light = omega (arith, t.others_weight, x.light); back = λ b o. x.back b (reaching_others lt c le o) })

  pub exceeding_again : {i n : ℕ} {row rest : Arguments} {r : Verdict} {ready cells ready_after after : List ℕ} → Exceeding nodes sizes values i row ready cells rest
      → rest.from < rest.end → Compares nodes sizes values i rest.from r → r ≡ greater → SettledCells nodes sizes values ready_after after
      → n ≡ get_or sizes rest.from 0 → Exceeding nodes sizes values i row ready_after after (record { from = rest.from + n; end = rest.end })
  exceeding_again x lt c le m e =
      let t = first_argument x.terms lt in
      rw e (record { settled = m; terms = t.others; light = omega (arith, t.others_weight, x.light); low = omega (arith, x.low); back = λ b o. x.back b (all_others lt c le o) })

-- A row with a term ends within the nodes.
pub row_inside : {nodes sizes values ready cells : List ℕ} {row : Arguments} → SettledCells nodes sizes values ready cells → HasTerms nodes sizes values row → row.from < row.end → row.end ≤ length nodes
row_inside m h lt = omega (arith, row_ends_within h.denote (omega (arith, (first_argument h lt).below)), m.nodes_length)

-- What holds of a row holds behind nodes whose symbols are smaller, if it holds behind each.
pass : (nodes : List ℕ) (symbol : ℕ) (P : Arguments → Type 0) → ((row : Arguments) → row.from < row.end → get_or nodes row.from 0 < symbol → P row → P (behind_node row))
    → {from end r : ℕ} → BehindSmaller nodes symbol from end r → P (record { from = from; end = end }) → P (record { from = r; end = end })
pass nodes symbol P step {from} {end} {r} b p =
    let go : (n at : ℕ) → at + n ≤ end → AllSmaller nodes symbol at (at + n) → P (record { from = at; end = end }) → P (record { from = at + n; end = end }) = walk in
    let e : from + (r - from) ≡ r = omega (arith, b.forward) in
    subst (λ n. P (record { from = n; end = end })) e (go (r - from) from (omega (arith, b.inside)) (record { each = λ k h l. b.smaller_symbols.each k h (omega arith) }) p)
  where
    walk : (n at : ℕ) → at + n ≤ end → AllSmaller nodes symbol at (at + n) → P (record { from = at; end = end }) → P (record { from = at + n; end = end })
    walk zero at h s p = let e : at ≡ at + 0 = omega arith in subst (λ n. P (record { from = n; end = end })) e p
    walk (suc n) at h s p =
        let e : (at + 1) + n ≡ at + suc n = omega arith in
        let q = walk n (at + 1) (omega arith) (record { each = λ k x y. s.each k (omega arith) (omega arith) }) (step (record { from = at; end = end }) (omega arith) (s.each at (omega arith) (omega arith)) p) in
        subst (λ m. P (record { from = m; end = end })) e q

module _ {nodes sizes values : List ℕ} where
  pub reaching_passed : {row : Arguments} {j at end r : ℕ} {ready cells : List ℕ} → get_or nodes j 0 < first_variable → Reaching nodes sizes values row j ready cells (record { from = at; end = end })
      → BehindSmaller nodes (get_or nodes j 0) at end r → Reaching nodes sizes values row j ready cells (record { from = r; end = end })
  reaching_passed {row} {j} {ready = ready} {cells = cells} l x b =
      pass nodes (get_or nodes j 0) (Reaching nodes sizes values row j ready cells)
      (λ rest lt h x. record {
        settled = x.settled;
        terms = behind_terms lt x.terms (omega arith);
        light = omega (arith, weight_behind nodes sizes values rest lt, x.light);
        back = λ b o. x.back b (reaching_behind_node lt l h o);
      })
      b
      x

  pub exceeding_passed : {row : Arguments} {i at end r : ℕ} {ready cells : List ℕ} → get_or nodes i 0 < first_variable → Exceeding nodes sizes values i row ready cells (record { from = at; end = end })
      → BehindSmaller nodes (get_or nodes i 0) at end r → Exceeding nodes sizes values i row ready cells (record { from = r; end = end })
  exceeding_passed {row} {i} {ready = ready} {cells = cells} l x b =
      pass nodes (get_or nodes i 0) (Exceeding nodes sizes values i row ready cells)
      (λ rest lt h x. record {
        settled = x.settled;
        terms = behind_terms lt x.terms (omega arith);
        light = omega (arith, weight_behind nodes sizes values rest lt, x.light);
        low = omega (arith, x.low);
        back = λ b o. x.back b (all_behind_node lt l h o);
      })
      b
      x
