-- L3: the arguments of two terms with the same symbol, compared one by one.
use Prim.Native.Nat.{ℕ, ◌≤◌, ◌<◌}
use mathlib.Core.Path.{◌≡◌, refl, sym, ap, ◌∙◌}
use mathlib.Core.List.{List}
use native.Mathlib.Omega.{arith}
use Rattle.format.specs.Limits.{position_count}
use Rattle.terms.specs.Term.{Term, Terms, app, nil, cons, size}
use Rattle.terms.specs.declared.arguments.Arguments.{Arguments}
use Rattle.terms.specs.ForContracts.Arguments.{behind_first}
use Rattle.terms.specs.Theory.Append.{append, arguments_differ, nil_cons, append_first, sizes_append}
use Rattle.ordering.specs.declared.verdict.Verdict.{Verdict}
use Rattle.ordering.specs.declared.verdict.Verdict.TheVariants.{Smaller as smaller, Equal as equal, Greater as greater}
use Rattle.path_order.proofs.Theory.Laws.{≻_irrefl}
use Rattle.ordering.specs.Theory.Question.{greater_argument, smaller_argument, more_arguments, fewer_arguments}
use Rattle.ordering.specs.Theory.Verdict.{Means, verdict_told, told_equal}
use Rattle.ordering.specs.Theory.Decide.{some_nil}
use Rattle.cells.specs.ForContracts.Nodes.{TermAt, TermsAt}
use Rattle.cells.specs.ForContracts.Cells.{SettledCells}
use Rattle.comparing.specs.ForContracts.Comparing.{HasTerms, HasArguments, LeftToAsk, Compares, FindsDifference}
use Rattle.cells.specs.Theory.Nodes.{row_first, row_empty}
use Rattle.comparing.specs.Theory.Weight.{term_weight, row_weight, term_weighs, row_weighs}

-- At `i` and `j` stand terms with the same symbol, whose first arguments are the same; the two rows have their other arguments.
pub record HasLists (nodes sizes values : List ℕ) (i j : ℕ) (first second : Arguments) : Type 0 where
  pub symbol : ℕ
  pub same : Terms
  pub left : Terms
  pub right : Terms
  pub left_term : TermAt nodes sizes values i (app symbol (append same left))
  pub left_row : TermsAt nodes sizes values first.from first.end left
  pub right_term : TermAt nodes sizes values j (app symbol (append same right))
  pub right_row : TermsAt nodes sizes values second.from second.end right

-- The loop's invariant: the arguments before the two rows are the same.
pub record ComparingArguments (nodes sizes values : List ℕ) (i j : ℕ) (ready cells : List ℕ) (first second : Arguments) : Type 0 where
  pub settled : SettledCells nodes sizes values ready cells
  pub lists : HasLists nodes sizes values i j first second
  pub low : position_count ≤ second.from

-- The two rows weigh less than their terms.
pub record Balanced (nodes sizes values : List ℕ) (i j : ℕ) (first second : Arguments) : Type 0 where
  pub left : row_weight nodes sizes values first < term_weight nodes sizes values i
  pub right : row_weight nodes sizes values second < term_weight nodes sizes values j

module _ {nodes sizes values : List ℕ} where
  pub arguments_weight : {i : ℕ} {row : Arguments} → HasArguments nodes sizes values i row → row_weight nodes sizes values row < term_weight nodes sizes values i
  arguments_weight a = omega (arith, a.fewer, term_weighs a.here.denotes, row_weighs a.those.denote)

module _ {nodes sizes values : List ℕ} {i j : ℕ} {first second : Arguments} (q : HasLists nodes sizes values i j first second) where
  pub left_arguments : HasTerms nodes sizes values first
  left_arguments = record { terms = q.left; denote = q.left_row }

  pub right_arguments : HasTerms nodes sizes values second
  right_arguments = record { terms = q.right; denote = q.right_row }

  pub first_arguments : HasArguments nodes sizes values i first
  unfolding size
  first_arguments = record { here = record { term = _; denotes = q.left_term }; those = record { terms = q.left; denote = q.left_row }; fewer = omega (arith, sizes_append q.same q.left) }

  pub second_arguments : HasArguments nodes sizes values j second
  unfolding size
  second_arguments = record { here = record { term = _; denotes = q.right_term }; those = record { terms = q.right; denote = q.right_row }; fewer = omega (arith, sizes_append q.same q.right) }

  pub balanced : Balanced nodes sizes values i j first second
  balanced = record { left = arguments_weight first_arguments; right = arguments_weight second_arguments }

  module _ (low : position_count ≤ second.from) where
    finds : (v : Verdict) → LeftToAsk v (app q.symbol (append q.same q.left)) (app q.symbol (append q.same q.right)) q.left q.right
        → FindsDifference nodes sizes values i j (record { verdict = v; first = first; second = second })
    unfolding first_arguments second_arguments
    finds v l = record { first = first_arguments; second = second_arguments; second_low = low; left = l }

    pub both_end : first.end ≤ first.from → second.end ≤ second.from
        → FindsDifference nodes sizes values i j (record { verdict = equal; first = first; second = second })
    both_end x y = finds equal (ap (λ us. app q.symbol (append q.same us)) (row_empty q.left_row x ∙ sym (row_empty q.right_row y)))

    pub first_ends : first.end ≤ first.from → second.from < second.end
        → FindsDifference nodes sizes values i j (record { verdict = smaller; first = first; second = second })
    first_ends x y =
        let h = row_first q.right_row y in
        finds smaller (rw (row_empty q.left_row x, h.are) (arguments_differ q.symbol q.same nil _ nil_cons, (λ g. absurd (fewer_arguments q.same _ g), λ p. absurd (some_nil p))))

    pub second_ends : first.from < first.end → second.end ≤ second.from
        → FindsDifference nodes sizes values i j (record { verdict = smaller; first = first; second = second })
    second_ends x y =
        let g = row_first q.left_row x in
        finds smaller (rw (row_empty q.right_row y) (arguments_differ q.symbol q.same q.left nil (λ z. nil_cons (sym z ∙ g.are)), more_arguments q.same q.left))

  module _ {r : Verdict} (x : first.from < first.end) (y : second.from < second.end) (c : Compares nodes sizes values first.from second.from r) where
    -- The first two of the rows are equal: the others come behind one more argument that is the same.
    pub other_lists : r ≡ equal → HasLists nodes sizes values i j (behind_first sizes first) (behind_first sizes second)
    other_lists z =
        let g = row_first q.left_row x in
        let h = row_first q.right_row y in
        let d = told_equal g.first h.first (c.is g.first h.first g.denotes h.denotes) z in
        record {
          symbol = q.symbol;
          same = append q.same (cons g.first nil);
          left = g.others;
          right = h.others;
          left_term = rw (ap (append q.same) g.are ∙ append_first q.same g.first g.others) at q.left_term;
          left_row = g.row;
          right_term = rw (ap (append q.same) (h.are ∙ ap (λ u. cons u h.others) (sym d)) ∙ append_first q.same g.first h.others) at q.right_term;
          right_row = h.row;
        }

    -- They differ.
    differ : (v : Verdict) (f : ℕ) (same : Terms) (a b : Term) (ps qs : Terms) → ¬ (v ≡ equal) → Means v a b
        → LeftToAsk v (app f (append same (cons a ps))) (app f (append same (cons b qs))) ps qs
    differ smaller f same a b ps qs n m = (arguments_differ f same _ _ (λ e. m.0 cc), smaller_argument same ps qs m)
    differ equal f same a b ps qs n m = absurd (n refl)
    differ greater f same a b ps qs n m =
        let u : ¬ (a ≡ b) = λ e. ≻_irrefl (rw e at m) in
        (arguments_differ f same _ _ (λ e. u cc), greater_argument same ps qs m)

    pub difference : ¬ (r ≡ equal) → position_count ≤ second.from
        → FindsDifference nodes sizes values i j (record { verdict = r; first = behind_first sizes first; second = behind_first sizes second })
    unfolding size
    difference n low =
        let g = row_first q.left_row x in
        let h = row_first q.right_row y in
        let told = verdict_told g.first h.first (c.is g.first h.first g.denotes h.denotes) in
        record {
          first = record {
            here = record { term = _; denotes = rw g.are at q.left_term };
            those = record { terms = g.others; denote = g.row };
            fewer = omega (arith, sizes_append q.same (cons g.first g.others));
          };
          second = record {
            here = record { term = _; denotes = rw h.are at q.right_term };
            those = record { terms = h.others; denote = h.row };
            fewer = omega (arith, sizes_append q.same (cons h.first h.others));
          };
          second_low = omega arith;
          left = differ r q.symbol q.same g.first h.first g.others h.others n told;
        }
