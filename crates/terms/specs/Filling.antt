-- "the lowest constant of the sheet" (document 02, W5): the lowest-numbered symbol of arity 0.
use Rattle.std.specs.Prelude.{ℕ, zero, suc, List, [], ◌∷◌}
use Rattle.terms.specs.Term.{Term, app, nil}

unfoldable pub lowest_constant : (arities : List ℕ) → ℕ
-- Not met (document 01, 'The sheet'): "At least one arity is 0."
lowest_constant [] = 0
lowest_constant (zero ∷ rest) = 0
lowest_constant (suc a ∷ rest) = suc (lowest_constant rest)

unfoldable pub filling : (arities : List ℕ) → Term
unfolding lowest_constant
filling arities = app (lowest_constant arities) nil
