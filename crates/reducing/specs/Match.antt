-- Matching, and the values of a match (document 01, 'Runs'; document 02, W5).
use Rattle.std.specs.Prelude.{ℕ, Bool, false, ◌||◌, List, get_or, set, replicate, eqb}
use Rattle.std.proofs.Math.Decide.{ℕ_discrete}
use Rattle.std.proofs.Math.Option
use Rattle.std.proofs.Math.Option.{Option, none, some}
use Rattle.format.specs.Limits.{variable_count}
use Rattle.terms.specs.Term.{Term, Terms, var, app, nil, cons, identical?, Values}

-- The terms that the variables met so far: a slot for each variable.
abbrev pub Match : Type 0
Match = List (Option Term)

-- None of `variables` variables has met a term.
abbrev pub unmet : (variables : ℕ) → Match
unmet variables = replicate variables none

unfoldable pub no_match : Match
no_match = unmet variable_count

-- A variable meets a term: "a repeated variable meets identical terms".
unfoldable pub meet : Match → ℕ → Term → Option Term → Option Match
unfolding identical?
meet m v t none = some (set m v (some t))
meet m v t (some u) = elim (identical? u t) [ yes e ↦ some m | no n ↦ none ]

-- The match of a pattern with a term, if there is one, beyond what the variables met before.
unfoldable mutual
  unfolding meet ℕ_discrete

  pub match : Term → Term → Match → Option Match
  match (var v) t m = meet m v t (get_or m v none)
  match (app f ss) (var w) m = none
  match (app f ss) (app g ts) m = elim (ℕ_discrete f g) [ yes e ↦ match_each ss ts m | no n ↦ none ]

  pub match_each : Terms → Terms → Match → Option Match
  match_each nil nil m = some m
  match_each nil (cons t ts) m = none
  match_each (cons s ss) nil m = none
  match_each (cons s ss) (cons t ts) m = elim (match s t m) [ none ↦ none | some n ↦ match_each ss ts n ]

-- The values that a match gives the variables. One that met no term takes the filling: "fills such a variable with the lowest constant of the sheet"
-- (document 02, W5).
unfoldable pub values_of : (filling : Term) → Match → Values
values_of filling m v = Option.get_or (get_or m v none) filling

-- Does the variable `v` occur in a term?
unfoldable mutual
  pub has_variable : ℕ → Term → Bool
  has_variable v (var w) = eqb v w
  has_variable v (app f ts) = have_variable v ts

  pub have_variable : ℕ → Terms → Bool
  have_variable v nil = false
  have_variable v (cons t ts) = has_variable v t || have_variable v ts
