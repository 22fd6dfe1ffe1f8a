-- Terms over the sheet's symbols, with variables.
use Rattle.std.specs.Prelude.{ℕ, ◌<◌, ◌≡◌, List, length}
use Rattle.format.specs.Limits.{variable_count}
use Rattle.terms.specs.Term.{Term, Terms, var, app, nil, cons, count, arity}

-- Each symbol has as many arguments as its arity says.
abbrev mutual
  pub Fits : List ℕ → Term → Type 0
  Fits arities (var v) = v < variable_count
  Fits arities (app f ts) = (f < length arities) × (count ts ≡ arity arities f) × AllFit arities ts

  pub AllFit : List ℕ → Terms → Type 0
  AllFit arities nil = Unit {0}
  AllFit arities (cons t ts) = Fits arities t × AllFit arities ts
