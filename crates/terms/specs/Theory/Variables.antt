-- The variables of a term, said by a property that each has.
use Rattle.std.specs.Prelude.{ℕ}
use Rattle.terms.specs.Term.{Term, Terms, var, app, nil, cons}

abbrev mutual
  pub VariablesIn : (ℕ → Type 0) → Term → Type 0
  VariablesIn P (var v) = P v
  VariablesIn P (app f ts) = AllVariablesIn P ts

  pub AllVariablesIn : (ℕ → Type 0) → Terms → Type 0
  AllVariablesIn P nil = Unit {0}
  AllVariablesIn P (cons t ts) = VariablesIn P t × AllVariablesIn P ts
