-- Two terms with different symbols: one question decides their verdict.
use Rattle.std.specs.Prelude.{ℕ, ◌<◌, ◌≡◌, refl, ◌↔◌, Bool, true, false, List, get_or}
use Rattle.std.proofs.Common.{sym, ◌∙◌, arith}
use Rattle.format.specs.Theory.Lists.{false_true}
use Rattle.format.specs.Limits.{first_variable}
use Rattle.terms.specs.Term.{Term}
use Rattle.terms.specs.ForContracts.Arguments.{arguments_at}
use Rattle.path_order.specs.Order.{◌≻◌}
use Rattle.ordering.specs.declared.verdict.Verdict.TheVariants.{Smaller as smaller, Greater as greater}
use Rattle.ordering.specs.Verdict.{verdict}
use Rattle.ordering.specs.Theory.Verdict.{means_verdict}
use Rattle.ordering.specs.declared.verdict.Verdict.{Verdict}
use Rattle.ordering.specs.Theory.Question.{greater_symbol, smaller_symbol}
use Rattle.comparing.specs.ForContracts.Comparing.{greater_if, Compares, FindsReaching, ComparesWithAll}
use Rattle.cells.specs.ForContracts.Nodes.{TermAt}
use Rattle.cells.specs.Theory.Nodes.{symbol_at}

pub false_not : {P : Type 0} → (P → false ≡ true) → ¬ P
false_not k p = false_true (k p)

-- The answer to the question that decides s > t gives the verdict of two terms that are not equal.
pub decides : {P : Type 0} {s t : Term} (q : Bool) → ¬ (s ≡ t) → (s ≻ t) ↔ P → (q ≡ true) ↔ P → verdict s t ≡ greater_if q
unfolding greater_if
decides {s = s} {t = t} true n x h = means_verdict s t greater (x.1 (h.0 refl))
decides {s = s} {t = t} false n x h = means_verdict s t smaller (n, λ g. false_not h.1 (x.0 g))

module _ {nodes sizes values : List ℕ} {i j : ℕ} where
  -- The symbols differ.
  module _ (x : get_or nodes i 0 < first_variable) (y : get_or nodes j 0 < first_variable) where
    pub smaller_symbols : {p : Verdict} {q : Bool} → get_or nodes i 0 < get_or nodes j 0 → FindsReaching nodes sizes values (arguments_at sizes i) j q → p ≡ greater_if q → Compares nodes sizes values i j p
    smaller_symbols {p} {q} h o u = record { is = is }
      where
        is : (s t : Term) → TermAt nodes sizes values i s → TermAt nodes sizes values j t → p ≡ verdict s t
        is s t a b =
            let f = symbol_at a x in
            let g = symbol_at b y in
            u ∙ sym (rw (f.is, g.is) (decides q (λ e. let z : get_or nodes i 0 ≡ get_or nodes j 0 = cc in omega arith) (smaller_symbol f.arguments g.arguments h) (rw g.is at (o.tells f.arguments t f.row b))))

    pub greater_symbols : {p : Verdict} {q : Bool} → get_or nodes j 0 < get_or nodes i 0 → ComparesWithAll nodes sizes values i (arguments_at sizes j) q → p ≡ greater_if q → Compares nodes sizes values i j p
    greater_symbols {p} {q} h o u = record { is = is }
      where
        is : (s t : Term) → TermAt nodes sizes values i s → TermAt nodes sizes values j t → p ≡ verdict s t
        is s t a b =
            let f = symbol_at a x in
            let g = symbol_at b y in
            u ∙ sym (rw (f.is, g.is) (decides q (λ e. let z : get_or nodes i 0 ≡ get_or nodes j 0 = cc in omega arith) (greater_symbol f.arguments g.arguments h) (rw f.is at (o.tells s g.arguments a g.row))))
