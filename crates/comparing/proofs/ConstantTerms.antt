-- What the symbols of two terms tell, where one of the terms is a constant.
use Prim.Native.Nat.{ℕ, ◌<◌}
use mathlib.Core.Path.{◌≡◌, refl, sym, ◌∙◌}
use mathlib.Core.List.{List}
use native.Mathlib.Omega.{arith}
use lib.ListN.{get_or}
use Rattle.format.specs.Limits.{first_variable}
use Rattle.terms.specs.Term.{Term, app}
use Rattle.ordering.specs.declared.verdict.Verdict.TheVariants.{Smaller as smaller, Equal as equal, Greater as greater}
use Rattle.ordering.specs.Theory.Verdict.{means_verdict}
use Rattle.std.specs.Prelude.{Some}
use Rattle.cells.specs.ForContracts.Nodes.{TermAt}
use Rattle.comparing.specs.ForContracts.Comparing.{greater_if, TellsConstants}
use Rattle.cells.specs.Theory.Nodes.{symbol_at, row_empty}
use Rattle.comparing.proofs.Rows.{reaching_none, all_none}
use Rattle.comparing.specs.Theory.Symbols.{smaller_symbols, greater_symbols}

module _ {nodes sizes : List ℕ} {i j : ℕ} where
  module _ (x : get_or nodes i 0 < first_variable) (y : get_or nodes j 0 < first_variable) where
    pub tells_smaller : get_or nodes i 0 < get_or nodes j 0 → get_or sizes i 0 ≡ 1 → TellsConstants nodes sizes i j (Some smaller)
    unfolding greater_if
    tells_smaller h e = λ values. smaller_symbols x y h (reaching_none (omega arith)) refl

    pub tells_greater : get_or nodes j 0 < get_or nodes i 0 → get_or sizes j 0 ≡ 1 → TellsConstants nodes sizes i j (Some greater)
    unfolding greater_if
    tells_greater h e = λ values. greater_symbols x y h (all_none (omega arith)) refl

    -- A constant is its symbol.
    pub tells_equal : get_or nodes i 0 ≡ get_or nodes j 0 → get_or sizes i 0 ≡ 1 → get_or sizes j 0 ≡ 1 → TellsConstants nodes sizes i j (Some equal)
    tells_equal h e d = λ values. record { is = λ s t a b. sym (means_verdict s t equal (same s t a b)) }
      where
        same : {values : List ℕ} (s t : Term) → TermAt nodes sizes values i s → TermAt nodes sizes values j t → s ≡ t
        same s t a b =
            let f = symbol_at a x in
            let g = symbol_at b y in
            let p = row_empty f.row (omega arith) in
            let q = row_empty g.row (omega arith) in
            let u : app (get_or nodes i 0) f.arguments ≡ app (get_or nodes j 0) g.arguments = cc in
            f.is ∙ u ∙ sym g.is
