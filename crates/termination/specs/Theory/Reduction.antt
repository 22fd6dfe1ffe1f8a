-- Ground reduction cannot go on forever (document 02, W10): a step keeps a term ground, and the term exceeds the result.
use Rattle.std.specs.Prelude.{ℕ, zero, suc, List}
use Rattle.format.specs.Lists.{Every}
use Rattle.format.specs.Theory.Lists.{every_entry}
use Rattle.terms.specs.Term.{Term, var, Ground, inst}
use Rattle.terms.specs.Equation.{Equation, source, target}
use Rattle.terms.specs.declared.direction.Direction.{Direction}
use Rattle.terms.specs.declared.direction.Direction.TheVariants.{LeftRight as left_right, RightLeft as right_left}
use Rattle.terms.specs.ForContracts.Fits.{Fits}
use Rattle.terms.specs.Theory.Ground.{part_ground}
use Rattle.terms.specs.Theory.Replace.{ground_replace}
use Rattle.ordering.specs.Theory.Descent.{no_endless_descent}
use Rattle.sheet.specs.ForContracts.Valid.{ValidEquation}
use Rattle.reducing.specs.Reduction.{Reduces}
use Rattle.reducing.proofs.Theory.Reference.{reduces_exceeds}
use Rattle.reducing.proofs.Theory.Variables.{filled_ground}

target_fits : {arities : List ℕ} {e : Equation} → ValidEquation arities e → (d : Direction) → Fits arities (target e d)
unfolding target
target_fits v left_right = v.right_fits
target_fits v right_left = v.left_fits

module _ (arities : List ℕ) (filling : Term) (is_ground : Ground arities filling) (es : List Equation) (valid : Every (ValidEquation arities) es) where
  pub reduces_ground : {s t : Term} → Reduces filling es s t → Ground arities s → Ground arities t
  reduces_ground {s} r g =
      let e = r.equation in
      let d = r.direction in
      let v : ValidEquation arities e = every_entry (ValidEquation arities) es r.number valid r.equation_there in
      let x : Ground arities (inst r.values (source e d)) = rw r.matches at (part_ground arities s r.position (var 0) g r.inside) in
      rw r.gives (ground_replace arities _ (filled_ground arities r.values (target e d) (source e d) (target_fits v d) (λ w h. rw (r.fills w h) is_ground) x) s r.position g)

  module _ (terms : ℕ → Term) (reduction : (i : ℕ) → Reduces filling es (terms i) (terms (suc i))) where
    all_ground : Ground arities (terms 0) → (i : ℕ) → Ground arities (terms i)
    all_ground g zero = g
    all_ground g (suc i) = reduces_ground (reduction i) (all_ground g i)

  pub no_endless_reduction : (terms : ℕ → Term) → Ground arities (terms 0) → ¬ ((i : ℕ) → Reduces filling es (terms i) (terms (suc i)))
  no_endless_reduction terms g reduction = let (i, stops) = no_endless_descent arities terms (all_ground terms reduction g) in stops (reduces_exceeds (reduction i))
