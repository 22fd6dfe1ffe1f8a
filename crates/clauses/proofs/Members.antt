-- What the bytes tell of terms answers L1's and L2's question: a term among others is reached by one of them, and does not exceed them all.
use Prim.Native.Nat.{ℕ, ◌+◌, ◌<◌}
use mathlib.Core.Path.{◌≡◌, refl}
use mathlib.Core.Bool.{Bool, true, false}
use mathlib.Core.List.{List}
use lib.ListN.{get_or}
use Rattle.format.specs.Lists.{SameBytes}
use Rattle.format.specs.Theory.Lists.{false_true}
use Rattle.terms.specs.Term.{Term, Terms}
use Rattle.terms.specs.Theory.Induction.{Member, first, later}
use Rattle.terms.specs.declared.arguments.Arguments.{Arguments}
use Rattle.path_order.specs.Order.{ExceedsAll}
use Rattle.path_order.proofs.Theory.Laws.{≻_irrefl}
use Rattle.path_order.proofs.Theory.Subterm.{member_reached}
use Rattle.ordering.specs.Theory.Decide.{all_head, all_tail}
use Rattle.cells.specs.ForContracts.Nodes.{TermAt, TermsAt}
use Rattle.comparing.specs.ForContracts.Comparing.{FindsReaching, ComparesWithAll}
use Rattle.cells.specs.Theory.Nodes.{row_first, same_nodes_same_term}
use Rattle.comparing.specs.Theory.Rows.{first_argument}
use Rattle.clauses.specs.ForContracts.Among.{HasTwoTerms, HasRowAndTerm, TellsEqual, TellsAmong}

not_all : {t : Term} {ss : Terms} → Member t ss → ¬ ExceedsAll t ss
not_all first p = ≻_irrefl (all_head p)
not_all (later m) p = not_all m (all_tail p)

module _ {nodes sizes : List ℕ} where
  pub not_told : {i j : ℕ} → TellsEqual nodes sizes i j false
  not_told = record { is = λ e. false_true e }

  pub told_equal : {i j : ℕ} {r : Bool} → SameBytes nodes i j (get_or sizes i 0) → (r ≡ true → SameBytes sizes i j (get_or sizes i 0)) → TellsEqual nodes sizes i j r
  told_equal p q = record { is = λ e values s t a b. same_nodes_same_term p (q e) a b }

  pub none_among : {row : Arguments} {j : ℕ} → TellsAmong nodes sizes row j false
  none_among = record { is = λ e. false_true e }

  module _ {row : Arguments} {j : ℕ} (lt : row.from < row.end) where
    pub first_among : {r : Bool} → TellsEqual nodes sizes row.from j r → TellsAmong nodes sizes row j r
    first_among {r} x = record { is = is }
      where
        is : r ≡ true → (values : List ℕ) (ss : Terms) (t : Term) → TermsAt nodes sizes values row.from row.end ss → TermAt nodes sizes values j t → Member t ss
        is e values ss t a b = let f = row_first a lt in rw (f.are, x.is e values f.first t f.denotes b) first

    pub later_among : {n : ℕ} {r : Bool} → n ≡ get_or sizes row.from 0 → TellsAmong nodes sizes (record { from = row.from + n; end = row.end }) j r → TellsAmong nodes sizes row j r
    later_among {n} {r} d x = record { is = is }
      where
        is : r ≡ true → (values : List ℕ) (ss : Terms) (t : Term) → TermsAt nodes sizes values row.from row.end ss → TermAt nodes sizes values j t → Member t ss
        is e values ss t a b = let f = row_first a lt in rw f.are (later (x.is e values f.others t (rw d f.row) b))

    pub first_and : HasRowAndTerm nodes sizes row j → HasTwoTerms nodes sizes row.from j
    first_and h = record { values = h.values; first = (first_argument h.terms lt).term; second = h.term }

    pub others_and : {n : ℕ} → n ≡ get_or sizes row.from 0 → HasRowAndTerm nodes sizes row j → HasRowAndTerm nodes sizes (record { from = row.from + n; end = row.end }) j
    others_and d h = rw d (record { values = h.values; terms = (first_argument h.terms lt).others; term = h.term })

  module _ {values : List ℕ} {row : Arguments} {i : ℕ} (x : TellsAmong nodes sizes row i true) where
    pub among_reaches : FindsReaching nodes sizes values row i true
    among_reaches = record { tells = λ ss t a b. (λ e. member_reached (x.is refl values ss t a b), λ p. refl) }

    pub among_not_exceeded : ComparesWithAll nodes sizes values i row false
    among_not_exceeded = record { tells = λ s ts a b. (λ e. false_true e, λ p. absurd (not_all (x.is refl values ts s b a) p)) }
