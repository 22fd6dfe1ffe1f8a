-- Bytes without variables: the prefix forms of ground terms, and what is put together from such bytes.
use Rattle.std.specs.Prelude.{ℕ, zero, suc, ◌+◌, ◌≤◌, List, [], ◌∷◌, ◌++◌, length, take, drop}
use Rattle.std.proofs.Common.{arith, get_or-drop}
use Rattle.format.specs.Limits.{max_symbols}
use Rattle.terms.specs.Term.{Term, Terms, var, app, nil, cons, Ground, Grounds}
use Rattle.terms.specs.Prefix.{prefix, prefixes}
use Rattle.terms.specs.ForContracts.Stored.{AllSymbols}

pub symbols_append : (xs ys : List ℕ) → AllSymbols xs → AllSymbols ys → AllSymbols (xs ++ ys)
unfolding AllSymbols
symbols_append [] ys h k i = k i
symbols_append (x ∷ xs) ys h k zero = h 0
symbols_append (x ∷ xs) ys h k (suc i) = symbols_append xs ys (λ j. h (suc j)) k i

pub symbols_drop : (n : ℕ) (xs : List ℕ) → AllSymbols xs → AllSymbols (drop n xs)
unfolding AllSymbols
symbols_drop n xs h i = rw (get_or-drop n xs i 0) (h (n + i))

pub symbols_take : (n : ℕ) (xs : List ℕ) → AllSymbols xs → AllSymbols (take n xs)
unfolding AllSymbols
symbols_take zero xs h i = omega arith
symbols_take (suc n) [] h i = omega arith
symbols_take (suc n) (x ∷ xs) h zero = h 0
symbols_take (suc n) (x ∷ xs) h (suc i) = symbols_take n xs (λ j. h (suc j)) i

mutual
  unfolding prefix AllSymbols

  pub ground_symbols : (arities : List ℕ) → length arities ≤ max_symbols → (t : Term) → Ground arities t → AllSymbols (prefix t)
  ground_symbols arities known (var v) g i = absurd g
  ground_symbols arities known (app f ts) g zero = omega (arith, g.0)
  ground_symbols arities known (app f ts) g (suc i) = grounds_symbols arities known ts g.2 i

  pub grounds_symbols : (arities : List ℕ) → length arities ≤ max_symbols → (ts : Terms) → Grounds arities ts → AllSymbols (prefixes ts)
  grounds_symbols arities known nil g i = omega arith
  grounds_symbols arities known (cons t ts) g i = symbols_append (prefix t) (prefixes ts) (λ j. ground_symbols arities known t g.0 j) (λ j. grounds_symbols arities known ts g.1 j) i
