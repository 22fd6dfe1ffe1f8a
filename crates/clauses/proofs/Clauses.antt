-- The decision on the terms at two symbol nodes, from the answers to L1's question one way round and the other, and from the symbols.
use Prim.Native.Nat.{ℕ, ◌<◌}
use mathlib.Core.Path.{◌≡◌, refl, sym, ap, subst, ◌∙◌}
use mathlib.Core.Logic.{inl, inr, ◌↔◌}
use mathlib.Core.Bool.{Bool, true, false, not}
use mathlib.Core.List.{List}
use native.Mathlib.Omega.{arith}
use lib.ListN.{get_or}
use Rattle.format.specs.Limits.{first_variable}
use Rattle.terms.specs.Term.{Term, Terms, app, Ground}
use Rattle.terms.specs.ForContracts.Arguments.{arguments_at}
use Rattle.path_order.specs.Order.{◌≻◌, L1, SomeReaches, ExceedsAll}
use Rattle.ordering.specs.declared.verdict.Verdict.{Verdict}
use Rattle.ordering.specs.declared.verdict.Verdict.TheVariants.{Smaller as smaller, Equal as equal, Greater as greater}
use Rattle.ordering.specs.declared.decision.Clause.{Clause}
use Rattle.ordering.specs.declared.decision.Clause.TheVariants.{L1 as by_L1, L2 as by_L2, L3 as by_L3}
use Rattle.ordering.specs.declared.decision.Decision.TheVariants.{Smaller as smaller_by, Equal as equal_terms, Greater as greater_by}
use Rattle.ordering.specs.Verdict.{verdict}
use Rattle.ordering.specs.Decision.{first_clause, decision, verdict_of}
use Rattle.ordering.specs.Theory.Question.{exceeds_below}
use Rattle.path_order.proofs.Theory.Subterm.{exceeds_arguments}
use Rattle.ordering.specs.Theory.Verdict.{means_verdict, told_greater}
use Rattle.ordering.specs.Theory.Total.{verdict_smaller, reached_or_exceeded, exceeded_not_reached}
use Rattle.ordering.proofs.Theory.Decision.{reached_L1, greater_symbol_L2, no_greater_symbol_L3}
use Rattle.cells.specs.ForContracts.Nodes.{TermAt}
use Rattle.cells.specs.ForContracts.Cells.{BothGround}
use Rattle.comparing.specs.ForContracts.Comparing.{greater_if, Compares, FindsReaching, ComparesWithAll}
use Rattle.cells.specs.Theory.Nodes.{symbol_at}
use Rattle.comparing.specs.Theory.Symbols.{false_not, smaller_symbols, greater_symbols}
use Rattle.clauses.specs.ForContracts.Clauses.{first_of, DecisionOf}

-- The clause that is left for s = f(..) > t = g(..) where L1 does not apply.
pub data Left (f g : ℕ) : Clause → Type 0 where
  by_symbols : g < f → Left f g by_L2
  by_arguments : ¬ (g < f) → Left f g by_L3

-- Where s > t, the answer to L1's question and the symbols tell the first clause.
clause_told : {f g : ℕ} {ss ts : Terms} {c : Clause} (q : Bool) → Left f g c → app f ss ≻ app g ts → (q ≡ true) ↔ SomeReaches ss (app g ts)
    → first_of q c ≡ first_clause (app f ss) (app g ts)
unfolding first_of
clause_told {f} true o h l = sym (reached_L1 f (l.0 refl))
clause_told {f} false (by_symbols i) h l = sym (greater_symbol_L2 f h (false_not l.1) i)
clause_told {f} false (by_arguments i) h l = sym (no_greater_symbol_L3 f h (false_not l.1) i)

-- Of ground terms, one of the arguments of t reaches s exactly if s does not exceed them all.
reached_unless : (arities : List ℕ) {s : Term} (g : ℕ) (ts : Terms) (q : Bool) → Ground arities s → Ground arities (app g ts) → (q ≡ true) ↔ ExceedsAll s ts
    → (not q ≡ true) ↔ SomeReaches ts s
reached_unless arities {s} g ts true x y l = (λ e. let z : ◌≡◌ {A = ℕ} 0 1 = cc in absurd (omega arith), λ p. absurd (exceeded_not_reached (l.0 refl) p))
reached_unless arities {s} g ts false x y l =
    (λ e. elim (reached_or_exceeded arities {s = s} x ts y.2) [ inl p ↦ p | inr a ↦ absurd (false_not l.1 a) ], λ p. refl)

-- The answers to the two questions of L1: whether an argument of the term at `i` reaches that at `j`, and whether the term at `i` exceeds every argument of that at `j`.
abbrev Reaching : (nodes sizes values : List ℕ) (i j : ℕ) → Bool → Type 0
Reaching nodes sizes values i j = FindsReaching nodes sizes values (arguments_at sizes i) j

abbrev Exceeding : (nodes sizes values : List ℕ) (i j : ℕ) → Bool → Type 0
Exceeding nodes sizes values i j = ComparesWithAll nodes sizes values i (arguments_at sizes j)

module _ {nodes sizes values : List ℕ} {i j : ℕ} (x : get_or nodes i 0 < first_variable) (y : get_or nodes j 0 < first_variable) where
  -- L1 gives the verdict: s > t; and that s does not exceed every argument of t gives the other one.
  reached_greater : Reaching nodes sizes values i j true → Compares nodes sizes values i j greater
  reached_greater o = record { is = is }
    where
      is : (s t : Term) → TermAt nodes sizes values i s → TermAt nodes sizes values j t → greater ≡ verdict s t
      is s t a b =
          let f = symbol_at a x in
          let h : s ≻ t = rw f.is (L1 ((o.tells f.arguments t f.row b).0 refl)) in
          sym (means_verdict s t greater h)

  not_exceeding_smaller : Exceeding nodes sizes values i j false → Compares nodes sizes values i j smaller
  not_exceeding_smaller o = record { is = is }
    where
      is : (s t : Term) → TermAt nodes sizes values i s → TermAt nodes sizes values j t → smaller ≡ verdict s t
      is s t a b =
          let g = symbol_at b y in
          let n : ¬ ExceedsAll s g.arguments = false_not (o.tells s g.arguments a g.row).1 in
          sym (means_verdict s t smaller (λ e. n (subst (λ w. ExceedsAll w g.arguments) (sym (e ∙ g.is)) (exceeds_arguments g.arguments)), λ h. n (exceeds_below g.arguments (rw g.is at h))))

  names_greater : {c : Clause} (q : Bool) → Left (get_or nodes i 0) (get_or nodes j 0) c → Compares nodes sizes values i j greater → Reaching nodes sizes values i j q
      → DecisionOf nodes sizes values i j (greater_by (first_of q c))
  unfolding verdict_of decision
  names_greater {c} q l v o = record { verdict_is = v; is = λ s t a b k. rw (← v.is s t a b, decision) (ap greater_by (is s t a b)) }
    where
      is : (s t : Term) → TermAt nodes sizes values i s → TermAt nodes sizes values j t → first_of q c ≡ first_clause s t
      is s t a b =
          let f = symbol_at a x in
          let g = symbol_at b y in
          let h : s ≻ t = told_greater s t (v.is s t a b) refl in
          rw (f.is, g.is) (clause_told q l (rw (f.is, g.is) at h) (rw g.is at (o.tells f.arguments t f.row b)))

  names_smaller : {c : Clause} (q : Bool) → Left (get_or nodes j 0) (get_or nodes i 0) c → Compares nodes sizes values i j smaller → Exceeding nodes sizes values i j q
      → DecisionOf nodes sizes values i j (smaller_by (first_of (not q) c))
  unfolding verdict_of decision
  names_smaller {c} q l v o = record { verdict_is = v; is = λ s t a b k. rw (← v.is s t a b, decision) (ap smaller_by (is s t a b k)) }
    where
      is : (s t : Term) → TermAt nodes sizes values i s → TermAt nodes sizes values j t → BothGround s t → first_of (not q) c ≡ first_clause t s
      is s t a b k =
          let f = symbol_at a x in
          let g = symbol_at b y in
          let h : t ≻ s = (verdict_smaller k.arities s t k.first k.second).0 (sym (v.is s t a b)) in
          let r = reached_unless k.arities (get_or nodes j 0) g.arguments q k.first (rw g.is at k.second) (o.tells s g.arguments a g.row) in
          rw (f.is, g.is) (clause_told (not q) l (rw (f.is, g.is) at h) (rw f.is at r))

  -- The first term's symbol is the greater.
  module _ (u : get_or nodes j 0 < get_or nodes i 0) where
    pub first_reaches : Reaching nodes sizes values i j true → DecisionOf nodes sizes values i j (greater_by by_L1)
    unfolding first_of
    first_reaches o = names_greater true (by_symbols u) (reached_greater o) o

    pub first_exceeds : Reaching nodes sizes values i j false → Exceeding nodes sizes values i j true → DecisionOf nodes sizes values i j (greater_by by_L2)
    unfolding first_of greater_if
    first_exceeds o e = names_greater false (by_symbols u) (greater_symbols x y u e refl) o

    pub first_fails : Exceeding nodes sizes values i j false → DecisionOf nodes sizes values i j (smaller_by by_L1)
    unfolding first_of greater_if
    first_fails e = names_smaller false (by_arguments (λ h. omega arith)) (greater_symbols x y u e refl) e

  -- The second term's symbol is the greater.
  module _ (u : get_or nodes i 0 < get_or nodes j 0) where
    pub second_reaches : Exceeding nodes sizes values i j false → DecisionOf nodes sizes values i j (smaller_by by_L1)
    unfolding first_of
    second_reaches e = names_smaller false (by_symbols u) (not_exceeding_smaller e) e

    pub second_exceeds : Exceeding nodes sizes values i j true → Reaching nodes sizes values i j false → DecisionOf nodes sizes values i j (smaller_by by_L2)
    unfolding first_of greater_if
    second_exceeds e o = names_smaller true (by_symbols u) (smaller_symbols x y u o refl) e

    pub second_fails : Reaching nodes sizes values i j true → DecisionOf nodes sizes values i j (greater_by by_L1)
    unfolding first_of greater_if
    second_fails o = names_greater true (by_arguments (λ h. omega arith)) (smaller_symbols x y u o refl) o

  -- The symbols are the same.
  module _ (u : get_or nodes i 0 ≡ get_or nodes j 0) {v : Verdict} (c : Compares nodes sizes values i j v) where
    compares_as : {w : Verdict} → v ≡ w → Compares nodes sizes values i j w
    compares_as e = subst (Compares nodes sizes values i j) e c

    pub same_greater : v ≡ greater → (q : Bool) → Reaching nodes sizes values i j q → DecisionOf nodes sizes values i j (greater_by (first_of q by_L3))
    same_greater e q o = names_greater q (by_arguments (λ h. omega arith)) (compares_as e) o

    pub same_smaller : v ≡ smaller → (q : Bool) → Exceeding nodes sizes values i j q → DecisionOf nodes sizes values i j (smaller_by (first_of (not q) by_L3))
    same_smaller e q o = names_smaller q (by_arguments (λ h. omega arith)) (compares_as e) o

    pub same_equal : v ≡ equal → DecisionOf nodes sizes values i j equal_terms
    unfolding verdict_of decision
    same_equal e = record { verdict_is = compares_as e; is = λ s t a b k. rw (← (compares_as e).is s t a b, decision) }
