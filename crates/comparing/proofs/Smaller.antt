-- A node whose symbol is smaller gives way to its arguments: a term with a greater symbol exceeds it if it exceeds these, and is reached by it if one of these reaches it.
use Prim.Native.Nat.{ℕ, ◌+◌, ◌<◌}
use mathlib.Core.Path.{◌≡◌, refl, ap, ◌∙◌}
use mathlib.Core.Logic.{◌↔◌}
use mathlib.Core.Bool.{Bool, true}
use mathlib.Core.List.{List}
use native.Mathlib.Omega.{arith}
use lib.ListN.{get_or}
use Rattle.format.specs.Limits.{first_variable}
use Rattle.terms.specs.Term.{Term, Terms, app, nil, cons}
use Rattle.terms.specs.declared.arguments.Arguments.{Arguments}
use Rattle.terms.specs.Theory.Append.{append}
use Rattle.path_order.specs.Order.{◌≻◌, L1, SomeReaches, here_equal, here_greater, there, ExceedsAll, none, more}
use Rattle.ordering.specs.Theory.Decide.{all_head, all_tail}
use Rattle.ordering.specs.Theory.Question.{greater_symbol, smaller_symbol}
use Rattle.cells.specs.ForContracts.Nodes.{none as row_none, more as row_more, TermAt, TermsAt}
use Rattle.comparing.specs.ForContracts.Comparing.{HasTerms, FindsReaching, ComparesWithAll}
use Rattle.cells.specs.Theory.Nodes.{row_first, symbol_at}

-- 1. Terms before others.
all_both : {s : Term} (us : Terms) {bs : Terms} → ExceedsAll s us → ExceedsAll s bs → ExceedsAll s (append us bs)
unfolding append
all_both nil p q = q
all_both (cons a us) p q = more (all_head p) (all_both us (all_tail p) q)

all_first : {s : Term} (us bs : Terms) → ExceedsAll s (append us bs) → ExceedsAll s us
unfolding append
all_first nil bs p = none
all_first (cons a us) bs p = more (all_head p) (all_first us bs (all_tail p))

all_second : {s : Term} (us : Terms) {bs : Terms} → ExceedsAll s (append us bs) → ExceedsAll s bs
unfolding append
all_second nil p = p
all_second (cons a us) p = all_second us (all_tail p)

some_first : {t : Term} {us : Terms} (bs : Terms) → SomeReaches us t → SomeReaches (append us bs) t
unfolding append
some_first bs here_equal = here_equal
some_first bs (here_greater g) = here_greater g
some_first bs (there p) = there (some_first bs p)

some_second : {t : Term} (us : Terms) {bs : Terms} → SomeReaches bs t → SomeReaches (append us bs) t
unfolding append
some_second nil p = p
some_second (cons a us) p = there (some_second us p)

some_either : {t : Term} (us : Terms) {bs cs : Terms} → (SomeReaches us t → SomeReaches cs t) → (SomeReaches bs t → SomeReaches cs t) → SomeReaches (append us bs) t → SomeReaches cs t
unfolding append
some_either nil k l p = l p
some_either (cons a us) k l here_equal = k here_equal
some_either (cons a us) k l (here_greater g) = k (here_greater g)
some_either (cons a us) k l (there p) = some_either us (λ q. k (there q)) l p

first_or : {s t : Term} {bs : Terms} {A : Type 0} → (s ≡ t → A) → (s ≻ t → A) → (SomeReaches bs t → A) → SomeReaches (cons s bs) t → A
first_or x y z here_equal = x refl
first_or x y z (here_greater g) = y g
first_or x y z (there p) = z p

-- 2. The term with the smaller symbol and its arguments.
module _ {f g : ℕ} (ss us bs : Terms) (h : g < f) where
  all_opened : ExceedsAll (app f ss) (cons (app g us) bs) ↔ ExceedsAll (app f ss) (append us bs)
  all_opened = (
    λ p. all_both us ((greater_symbol ss us h).0 (all_head p)) (all_tail p),
    λ p. more ((greater_symbol ss us h).1 (all_first us bs p)) (all_second us p),
  )

module _ {f g : ℕ} (ts us bs : Terms) (h : g < f) where
  some_opened : SomeReaches (cons (app g us) bs) (app f ts) ↔ SomeReaches (append us bs) (app f ts)
  some_opened = (
    first_or (λ e. let z : g ≡ f = cc in absurd (omega arith)) (λ p. some_first bs ((smaller_symbol us ts h).0 p)) (λ p. some_second us p),
    some_either us (λ p. here_greater (L1 p)) (λ p. there p),
  )

-- 3. The row from its second node on.
abbrev pub behind_node : Arguments → Arguments
behind_node row = record { from = row.from + 1; end = row.end }

record Opened (nodes sizes values : List ℕ) (row : Arguments) (ts : Terms) : Type 0 where
  arguments : Terms
  others : Terms
  are : ts ≡ cons (app (get_or nodes row.from 0) arguments) others
  row_there : TermsAt nodes sizes values (row.from + 1) row.end (append arguments others)

module _ {nodes sizes values : List ℕ} where
  row_append : {k m end : ℕ} {us bs : Terms} → TermsAt nodes sizes values k m us → TermsAt nodes sizes values m end bs → TermsAt nodes sizes values k end (append us bs)
  unfolding append
  row_append (row_none e) q = rw e q
  row_append (row_more s r) q = row_more s (row_append r q)

  open_row : {row : Arguments} {ts : Terms} → TermsAt nodes sizes values row.from row.end ts → row.from < row.end → get_or nodes row.from 0 < first_variable → Opened nodes sizes values row ts
  open_row d lt l =
      let f = row_first d lt in
      let a = symbol_at f.denotes l in
      record {
        arguments = a.arguments;
        others = f.others;
        are = f.are ∙ ap (λ t. cons t f.others) a.is;
        row_there = row_append a.row f.row;
      }

  module _ {row : Arguments} (lt : row.from < row.end) where
    pub behind_terms : HasTerms nodes sizes values row → get_or nodes row.from 0 < first_variable → HasTerms nodes sizes values (behind_node row)
    behind_terms h l = let o = open_row h.denote lt l in record { terms = append o.arguments o.others; denote = o.row_there }

    pub all_behind_node : {i : ℕ} {b : Bool} → get_or nodes i 0 < first_variable → get_or nodes row.from 0 < get_or nodes i 0 → ComparesWithAll nodes sizes values i (behind_node row) b
        → ComparesWithAll nodes sizes values i row b
    all_behind_node {i} {b} l h w = record { tells = tells }
      where
        tells : (s : Term) (ts : Terms) → TermAt nodes sizes values i s → TermsAt nodes sizes values row.from row.end ts → (b ≡ true) ↔ ExceedsAll s ts
        tells s ts a d =
            let o = open_row d lt (omega arith) in
            let s_is = symbol_at a l in
            let (x, y) = all_opened s_is.arguments o.arguments o.others h in
            let (p, q) = rw s_is.is at (w.tells s (append o.arguments o.others) a o.row_there) in
            rw (s_is.is, o.are) (λ e. y (p e), λ r. q (x r))

    pub reaching_behind_node : {j : ℕ} {b : Bool} → get_or nodes j 0 < first_variable → get_or nodes row.from 0 < get_or nodes j 0 → FindsReaching nodes sizes values (behind_node row) j b
        → FindsReaching nodes sizes values row j b
    reaching_behind_node {j} {b} l h w = record { tells = tells }
      where
        tells : (ss : Terms) (t : Term) → TermsAt nodes sizes values row.from row.end ss → TermAt nodes sizes values j t → (b ≡ true) ↔ SomeReaches ss t
        tells ss t d a =
            let o = open_row d lt (omega arith) in
            let t_is = symbol_at a l in
            let (x, y) = some_opened t_is.arguments o.arguments o.others h in
            let (p, q) = rw t_is.is at (w.tells (append o.arguments o.others) t o.row_there a) in
            rw (t_is.is, o.are) (λ e. y (p e), λ r. q (x r))
