-- The verdict of two symbol nodes, from the answer to the one question about their arguments that decides it.
use Prim.Native.Nat.{ℕ}
use mathlib.Core.Path.{◌≡◌, sym, subst, ◌∙◌}
use mathlib.Core.Bool.{Bool}
use mathlib.Core.List.{List}
use Rattle.ordering.specs.declared.verdict.Verdict.{Verdict}
use Rattle.ordering.specs.declared.verdict.Verdict.TheVariants.{Smaller as smaller, Equal as equal, Greater as greater}
use Rattle.ordering.specs.Verdict.{verdict}
use Rattle.ordering.specs.Theory.Verdict.{means_verdict}
use Rattle.comparing.specs.declared.comparison.Difference.{Difference}
use Rattle.comparing.specs.ForContracts.Comparing.{greater_if, LeftToAsk, Compares, FindsReaching, ComparesWithAll, FindsDifference}
use Rattle.comparing.proofs.Settled.{compares}
use Rattle.comparing.specs.Theory.Symbols.{decides}

module _ {nodes sizes values : List ℕ} {i j : ℕ} where
  -- They are the same.
  module _ {d : Difference} (f : FindsDifference nodes sizes values i j d) where
    left_as : {v : Verdict} → d.verdict ≡ v → LeftToAsk v f.first.here.term f.second.here.term f.first.those.terms f.second.those.terms
    left_as e = subst (λ v. LeftToAsk v f.first.here.term f.second.here.term f.first.those.terms f.second.those.terms) e f.left

    verdict_is : {p : Verdict} → p ≡ verdict f.first.here.term f.second.here.term → Compares nodes sizes values i j p
    verdict_is e = compares f.first.here.denotes f.second.here.denotes e

    pub equal_arguments : {p : Verdict} → d.verdict ≡ equal → p ≡ equal → Compares nodes sizes values i j p
    equal_arguments e u = verdict_is (u ∙ sym (means_verdict _ _ equal (left_as e)))

    pub smaller_arguments : {p : Verdict} {q : Bool} → d.verdict ≡ smaller → FindsReaching nodes sizes values d.first j q → p ≡ greater_if q → Compares nodes sizes values i j p
    smaller_arguments {q = q} e o u =
        let (n, x) = left_as e in
        verdict_is (u ∙ sym (decides q n x (o.tells _ _ f.first.those.denote f.second.here.denotes)))

    pub greater_arguments : {p : Verdict} {q : Bool} → d.verdict ≡ greater → ComparesWithAll nodes sizes values i d.second q → p ≡ greater_if q → Compares nodes sizes values i j p
    greater_arguments {q = q} e o u =
        let (n, x) = left_as e in
        verdict_is (u ∙ sym (decides q n x (o.tells _ _ f.first.here.denotes f.second.those.denote)))
