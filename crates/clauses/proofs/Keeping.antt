-- The decision that a cell holds, and the cell of a decision.
use Prim.Native.Nat.{ℕ, ◌+◌, ◌*◌, ◌/◌, ◌%◌, ◌≤◌, ◌<◌}
use mathlib.Core.Path.{◌≡◌, refl, sym, ap, ◌∙◌}
use mathlib.Core.List.{List}
use native.Mathlib.Omega.{arith}
use lib.ListN.{get_or}
use Rattle.format.specs.Limits.{position_count, row_cells}
use Rattle.terms.specs.Term.{Term}
use Rattle.ordering.specs.declared.verdict.Verdict.{Verdict}
use Rattle.ordering.specs.declared.verdict.Verdict.TheVariants.{Smaller as smaller, Equal as equal, Greater as greater}
use Rattle.ordering.specs.declared.decision.Clause.{Clause}
use Rattle.ordering.specs.declared.decision.Clause.TheVariants.{L1 as by_L1, L2 as by_L2, L3 as by_L3}
use Rattle.ordering.specs.declared.decision.Decision.{Decision}
use Rattle.ordering.specs.declared.decision.Decision.TheVariants.{Smaller as smaller_by, Equal as equal_terms, Greater as greater_by}
use Rattle.ordering.specs.Verdict.{verdict, verdict_number}
use Rattle.ordering.specs.Decision.{decision, verdict_of, clause_number, clause_number_of}
use Rattle.ordering.specs.Theory.Verdict.{number_few}
use Rattle.ordering.proofs.Theory.Decision.{decision_verdict, decision_unique, is_smaller, is_equal, is_greater}
use Rattle.cells.specs.ForContracts.Nodes.{TermAt}
use Rattle.cells.specs.ForContracts.Cells.{BothGround, clause_unit, Settles, SettledCells, CellHolds}
use Rattle.cells.specs.Theory.Cells.{cell_settles}
use Rattle.clauses.specs.ForContracts.Clauses.{DecisionOf}
use Rattle.clauses.specs.ForContracts.Kept.{cell_of, ClauseNumbered, DecisionHeld}

-- The clause with a number.
pub numbered : {number : ℕ} {r : Clause} → number ≡ clause_number r → ClauseNumbered number r
unfolding verdict_of clause_number_of
numbered {number} {r} e = record { only = only }
  where
    only : (c : Clause) → number ≡ clause_number c → r ≡ c
    only c d = let q : greater_by r ≡ greater_by c = decision_unique (greater_by r) (greater_by c) refl (sym e ∙ d) in cc

pub numbered_L3 : {number : ℕ} → ¬ (number ≡ 1) → ¬ (number ≡ 2) → ClauseNumbered number by_L3
unfolding clause_number
numbered_L3 {number} m n = record { only = only }
  where
    only : (c : Clause) → number ≡ clause_number c → by_L3 ≡ c
    only by_L1 e = absurd (m e)
    only by_L2 e = absurd (n e)
    only by_L3 e = refl

pub clause_few : (d : Decision) → clause_number_of d ≤ 3
unfolding clause_number_of clause_number
clause_few (smaller_by by_L1) = omega arith
clause_few (smaller_by by_L2) = omega arith
clause_few (smaller_by by_L3) = omega arith
clause_few equal_terms = omega arith
clause_few (greater_by by_L1) = omega arith
clause_few (greater_by by_L2) = omega arith
clause_few (greater_by by_L3) = omega arith

-- The decision from the verdict and the clause that a cell holds.
module _ {cell : ℕ} {v : Verdict} (h : CellHolds cell v) {b : Clause} (n : ClauseNumbered (cell / clause_unit) b) where
  told : {s t : Term} → Settles cell s t → v ≡ verdict s t
  told {s} {t} z = h.only (verdict s t) z.verdict_is

  pub held_smaller : v ≡ smaller → DecisionHeld cell (smaller_by b)
  unfolding verdict_of clause_number_of
  held_smaller e = record { verdict_is = λ s t z. sym e ∙ told z; is = is }
    where
      is : (s t : Term) → Settles cell s t → clause_unit ≤ cell → BothGround s t → smaller_by b ≡ decision s t
      is s t z l g =
          let (c, d) = is_smaller (decision s t) (decision_verdict s t ∙ sym (told z) ∙ e) in
          ap smaller_by (n.only c (z.clause_is l g ∙ ap clause_number_of d)) ∙ sym d

  pub held_equal : v ≡ equal → DecisionHeld cell equal_terms
  unfolding verdict_of
  held_equal e = record { verdict_is = λ s t z. sym e ∙ told z; is = λ s t z l g. sym (is_equal (decision s t) (decision_verdict s t ∙ sym (told z) ∙ e)) }

  pub held_greater : v ≡ greater → DecisionHeld cell (greater_by b)
  unfolding verdict_of clause_number_of
  held_greater e = record { verdict_is = λ s t z. sym e ∙ told z; is = is }
    where
      is : (s t : Term) → Settles cell s t → clause_unit ≤ cell → BothGround s t → greater_by b ≡ decision s t
      is s t z l g =
          let (c, d) = is_greater (decision s t) (decision_verdict s t ∙ sym (told z) ∙ e) in
          ap greater_by (n.only c (z.clause_is l g ∙ ap clause_number_of d)) ∙ sym d

module _ {nodes sizes values : List ℕ} {i j : ℕ} {r : Decision} where
  -- A decision that is kept settles its cell.
  pub decision_settles : DecisionOf nodes sizes values i j r → (s t : Term) → TermAt nodes sizes values i s → TermAt nodes sizes values j t → Settles (cell_of r) s t
  unfolding cell_of
  decision_settles d s t a b =
      let v : cell_of r % clause_unit ≡ verdict_number (verdict_of r) + 1 = omega (arith, number_few (verdict_of r)) in
      let c : cell_of r / clause_unit ≡ clause_number_of r = omega (arith, number_few (verdict_of r)) in
      record {
        verdict_is = v ∙ ap (λ w. verdict_number w + 1) (d.verdict_is.is s t a b);
        clause_is = λ l g. c ∙ ap clause_number_of (d.is s t a b g);
      }

  -- The decision that is read from its cell.
  pub decision_kept : {ready cells : List ℕ} → SettledCells nodes sizes values ready cells → 0 < get_or ready i 0 → position_count ≤ j
      → clause_unit ≤ get_or cells (i * row_cells + j) 0 → DecisionHeld (get_or cells (i * row_cells + j) 0) r → DecisionOf nodes sizes values i j r
  decision_kept m o l h d =
      let settles : (s t : Term) → TermAt nodes sizes values i s → TermAt nodes sizes values j t → Settles _ s t = λ s t a b. cell_settles m o l (omega arith) a b in
      record {
        verdict_is = record { is = λ s t a b. d.verdict_is s t (settles s t a b) };
        is = λ s t a b g. d.is s t (settles s t a b) h g;
      }
