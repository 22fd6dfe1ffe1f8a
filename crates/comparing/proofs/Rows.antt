-- What the verdict of the first term of a row says of the whole row, and the question that decides s > t.
use Prim.Native.Nat.{ℕ, ◌≤◌, ◌<◌}
use mathlib.Core.Path.{◌≡◌, refl}
use mathlib.Core.Logic.{◌↔◌}
use mathlib.Core.Bool.{Bool, true, false}
use mathlib.Core.List.{List}
use Rattle.format.specs.Theory.Lists.{false_true}
use Rattle.terms.specs.Term.{Term, Terms, cons}
use Rattle.terms.specs.declared.arguments.Arguments.{Arguments}
use Rattle.terms.specs.ForContracts.Arguments.{behind_first}
use Rattle.path_order.specs.Order.{SomeReaches, there, ExceedsAll, none, more}
use Rattle.ordering.specs.declared.verdict.Verdict.{Verdict}
use Rattle.ordering.specs.declared.verdict.Verdict.TheVariants.{Smaller as smaller, Greater as greater}
use Rattle.ordering.specs.Theory.Decide.{some_nil, all_head, all_tail}
use Rattle.ordering.specs.Theory.Verdict.{told_greater, told_not_greater, reaches_first, reaches_later}
use Rattle.cells.specs.ForContracts.Nodes.{TermAt, TermsAt}
use Rattle.comparing.specs.ForContracts.Comparing.{Compares, FindsReaching, ComparesWithAll}
use Rattle.cells.specs.Theory.Nodes.{row_first, row_empty}

module _ {nodes sizes values : List ℕ} where
  -- L1.
  module _ {row : Arguments} {j : ℕ} where
    pub reaching_none : row.end ≤ row.from → FindsReaching nodes sizes values row j false
    reaching_none le = record { tells = λ ss t a b. rw (row_empty a le) (λ e. false_true e, λ p. absurd (some_nil p)) }

    module _ {r : Verdict} (lt : row.from < row.end) (c : Compares nodes sizes values row.from j r) where
      pub reaching_first : ¬ (r ≡ smaller) → FindsReaching nodes sizes values row j true
      reaching_first h = record { tells = tells }
        where
          tells : (ss : Terms) (t : Term) → TermsAt nodes sizes values row.from row.end ss → TermAt nodes sizes values j t → (true ≡ true) ↔ SomeReaches ss t
          tells ss t a b =
              let f = row_first a lt in
              (λ e. rw f.are (reaches_first f.first t (c.is f.first t f.denotes b) h), λ p. refl)

      pub reaching_others : {b : Bool} → r ≡ smaller → FindsReaching nodes sizes values (behind_first sizes row) j b → FindsReaching nodes sizes values row j b
      reaching_others {b} h o = record { tells = tells }
        where
          tells : (ss : Terms) (t : Term) → TermsAt nodes sizes values row.from row.end ss → TermAt nodes sizes values j t → (b ≡ true) ↔ SomeReaches ss t
          tells ss t a d =
              let f = row_first a lt in
              let (x, y) = o.tells f.others t f.row d in
              rw f.are (λ e. there (x e), λ p. y (reaches_later f.first t (c.is f.first t f.denotes d) h p))

  -- L2.
  module _ {i : ℕ} {row : Arguments} where
    pub all_none : row.end ≤ row.from → ComparesWithAll nodes sizes values i row true
    all_none le = record { tells = λ s ts a b. rw (row_empty b le) (λ e. none, λ p. refl) }

    module _ {r : Verdict} (lt : row.from < row.end) (c : Compares nodes sizes values i row.from r) where
      pub all_not : ¬ (r ≡ greater) → ComparesWithAll nodes sizes values i row false
      all_not h = record { tells = tells }
        where
          tells : (s : Term) (ts : Terms) → TermAt nodes sizes values i s → TermsAt nodes sizes values row.from row.end ts → (false ≡ true) ↔ ExceedsAll s ts
          tells s ts a b =
              let f = row_first b lt in
              let n : ¬ ExceedsAll s (cons f.first f.others) = λ p. told_not_greater s f.first (c.is s f.first a f.denotes) h (all_head p) in
              rw f.are (λ e. false_true e, λ p. absurd (n p))

      pub all_others : {b : Bool} → r ≡ greater → ComparesWithAll nodes sizes values i (behind_first sizes row) b → ComparesWithAll nodes sizes values i row b
      all_others {b} h o = record { tells = tells }
        where
          tells : (s : Term) (ts : Terms) → TermAt nodes sizes values i s → TermsAt nodes sizes values row.from row.end ts → (b ≡ true) ↔ ExceedsAll s ts
          tells s ts a d =
              let f = row_first d lt in
              let (x, y) = o.tells s f.others a f.row in
              let g = told_greater s f.first (c.is s f.first a f.denotes) h in
              rw f.are (λ e. more g (x e), λ p. y (all_tail p))
