-- The match of two lists of terms, taken from the front: a symbol gives way to its arguments, and a variable meets a term.
use Prim.Native.Nat.{ℕ}
use mathlib.Core.Path.{◌≡◌, refl, sym, ap, ◌∙◌}
use mathlib.Core.Bool.{true, false}
use mathlib.Core.List.{List}
use mathlib.Core.Option.{Option, none, some}
use native.Mathlib.Decide.{ℕ_discrete}
use native.Mathlib.Omega.{arith}
use lib.ListN.{get_or}
use Rattle.terms.specs.Term.{Term, Terms, var, app, nil, cons, count}
use Rattle.terms.specs.Theory.Append.{append}
use Rattle.reducing.specs.Match.{Match, meet, match, match_each}
use Rattle.step_match.specs.ForContracts.Matching.{MatchIs, Matched}

-- The match of a list goes on, if its first terms matched.
abbrev match_others : Terms → Terms → Option Match → Option Match
match_others ss ts o = elim o as (λ x. Option Match) [ none ↦ none | some n ↦ match_each ss ts n ]

match_append : (args ss us ts : Terms) (m : Match) → count args ≡ count us → match_each (append args ss) (append us ts) m ≡ match_others ss ts (match_each args us m)
unfolding match append count
match_append nil ss nil ts m e = refl
match_append nil ss (cons u us) ts m e = absurd (omega arith)
match_append (cons a args) ss nil ts m e = absurd (omega arith)
match_append (cons a args) ss (cons u us) ts m e = go (λ n. match_append args ss us ts n (omega arith)) (match a u m)
  where
    go : ((n : Match) → match_each (append args ss) (append us ts) n ≡ match_others ss ts (match_each args us n)) → (o : Option Match)
        → match_others (append args ss) (append us ts) o ≡ match_others ss ts (match_others args us o)
    go k none = refl
    go k (some n) = k n

module _ (args us ss ts : Terms) (m : Match) where
  pub same_symbol : (f : ℕ) → count args ≡ count us → match_each (cons (app f args) ss) (cons (app f us) ts) m ≡ match_each (append args ss) (append us ts) m
  unfolding match
  same_symbol f e = go (ℕ_discrete f f) ∙ sym (match_append args ss us ts m e)
    where
      go : (d : Dec (f ≡ f)) → match_others ss ts (elim d as (λ x. Option Match) [ yes e ↦ match_each args us m | no n ↦ none ]) ≡ match_others ss ts (match_each args us m)
      go (yes e) = refl
      go (no n) = absurd (n refl)

  pub other_symbol : (f g : ℕ) → (f ≡ g → ⊥) → match_each (cons (app f args) ss) (cons (app g us) ts) m ≡ none
  unfolding match
  other_symbol f g n = go (ℕ_discrete f g)
    where
      go : (d : Dec (f ≡ g)) → match_others ss ts (elim d as (λ x. Option Match) [ yes e ↦ match_each args us m | no n ↦ none ]) ≡ none
      go (yes e) = absurd (n e)
      go (no _) = refl

-- A variable meets the first term, and the others follow.
module _ (v : ℕ) (u : Term) (ss ts : Terms) (m : Match) where
  pub variable_meets : {n : Match} → meet m v u (get_or m v none) ≡ some n → match_each (cons (var v) ss) (cons u ts) m ≡ match_each ss ts n
  unfolding match
  variable_meets e = ap (match_others ss ts) e

  pub variable_fails : meet m v u (get_or m v none) ≡ none → match_each (cons (var v) ss) (cons u ts) m ≡ none
  unfolding match
  variable_fails e = ap (match_others ss ts) e

pub one_term : (s t : Term) (m : Match) → match s t m ≡ match_each (cons s nil) (cons t nil) m
unfolding match
one_term s t m = go (match s t m)
  where
    go : (o : Option Match) → o ≡ match_others nil nil o
    go none = refl
    go (some n) = refl

-- What the answer says of a match.
module _ (nodes sizes arities values : List ℕ) where
  pub matched : (o : Option Match) → Matched nodes sizes arities o values true → (n : Match) × (o ≡ some n) × MatchIs nodes sizes arities n values
  matched none q = let z : ◌≡◌ {A = ℕ} 0 1 = cc in absurd (omega arith)
  matched (some n) q = (n, refl, q.1)

  pub not_matched : (o : Option Match) → Matched nodes sizes arities o values false → o ≡ none
  not_matched none q = refl
  not_matched (some n) q = let z : ◌≡◌ {A = ℕ} 0 1 = cc q.0 in absurd (omega arith)
