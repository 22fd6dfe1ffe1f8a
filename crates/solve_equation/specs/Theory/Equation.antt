-- The bytes of an equation over the sheet's symbols are whole terms, and what `measure` fills in beside them is their sizes.
use Rattle.std.specs.Prelude.{ℕ, zero, suc, ◌≤◌, ◌<◌, ◌≡◌, refl, length}
use Rattle.std.proofs.Common.{sym, subst, ◌∙◌, arith}
use Rattle.std.proofs.Math.Path.{ap}
use mathlib.Core.List.{List, ◌++◌, map, append-nil}
use Rattle.std.proofs.Math.Option.{some}
use Rattle.format.specs.Limits.{max_symbols}
use Rattle.terms.specs.Term.{Terms, nil, cons, size}
use Rattle.terms.specs.Position.{subterms, subterms_of}
use Rattle.terms.specs.Prefix.{prefix, prefixes, equation_bytes, terms_of}
use Rattle.terms.specs.Equation.{Equation, direction_of}
use Rattle.terms.specs.declared.direction.Direction.{Direction}
use Rattle.terms.specs.declared.direction.Direction.TheVariants.{LeftRight as left_right, RightLeft as right_left}
use Rattle.terms.specs.Theory.Prefix.{terms_of_spelled}
use Rattle.terms.specs.ForContracts.Fits.{AllFit, Fits}
use Rattle.terms.specs.ForContracts.Sizes.{Whole, node_sizes}
use Rattle.terms.specs.Theory.Sizes.{whole}
use Rattle.bindings.specs.ForContracts.Equation.{equation_sizes}

-- Its sides, one behind the other.
abbrev pub sides : Equation → Terms
sides e = cons e.left (cons e.right nil)

pub sides_spelled : (e : Equation) → equation_bytes e ≡ prefixes (sides e)
unfolding equation_bytes prefix
sides_spelled e = ap (prefix e.left ++◌) (sym (append-nil (prefix e.right)))

module _ (arities : List ℕ) (known : length arities ≤ max_symbols) (e : Equation) (left_fits : Fits arities e.left) (right_fits : Fits arities e.right) where
  sides_fit : AllFit arities (sides e)
  sides_fit = (left_fits, (right_fits, tt))

  pub equation_whole : Whole arities (equation_bytes e)
  equation_whole = subst (Whole arities) (sym (sides_spelled e)) (whole arities known (sides e) sides_fit)

  pub equation_measured : node_sizes arities (equation_bytes e) ≡ equation_sizes e
  unfolding node_sizes equation_sizes subterms
  equation_measured =
      ap (λ bs. map size (subterms_of (terms_of arities bs))) (sides_spelled e)
      ∙ ap (λ ts. map size (subterms_of ts)) (terms_of_spelled arities known (sides e) sides_fit)
      ∙ ap (λ l. map size (subterms e.left ++ l)) (append-nil (subterms e.right))

pub some_direction : (n : ℕ) → n < 2 → (d : Direction) × (direction_of n ≡ some d)
unfolding direction_of
some_direction zero h = (left_right, refl)
some_direction (suc zero) h = (right_left, refl)
some_direction (suc (suc n)) h = absurd (omega arith)
