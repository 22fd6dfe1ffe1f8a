-- Where the subterms of an equation stand: the arguments of a symbol stand behind it, one after the other.
use Rattle.std.specs.Prelude.{ℕ, ◌+◌, ◌≤◌, ◌<◌, ◌≡◌, refl, List, [], ◌∷◌, ◌++◌, length, get_or}
use Rattle.std.proofs.Common.{sym, ap, ◌∙◌, append_assoc, append-nil, length-append, arith}
use Rattle.std.proofs.Math.ListN.{get_or-eq_default}
use Rattle.std.proofs.lemmas.List.{get_or_at}
use Rattle.std.proofs.Math.Decide.{ℕ_discrete, dec_lt}
use Rattle.terms.specs.Term.{Term, Terms, var, app, nil, cons, size, sizes}
use Rattle.terms.specs.Position.{subterms, subterms_of}
use Rattle.terms.specs.Equation.{Equation, source, target, source_position, target_position, term_at}
use Rattle.terms.specs.declared.direction.Direction.{Direction}
use Rattle.terms.specs.declared.direction.Direction.TheVariants.{LeftRight as left_right, RightLeft as right_left}
use Rattle.terms.specs.Theory.Position.{length_subterms, length_subterms_of, size_pos}
use Rattle.terms.specs.ForContracts.Limits.{positions}

-- `part` stands in `all` from `p` on.
pub record Segment (all : List Term) (p : ℕ) (part : List Term) : Type 0 where
  pub before : List Term
  pub after : List Term
  pub split : all ≡ before ++ (part ++ after)
  pub start : length before ≡ p

module _ {all : List Term} {p : ℕ} where
  segment_head : {x : Term} {xs : List Term} (d : Term) → Segment all p (x ∷ xs) → get_or all p d ≡ x
  segment_head {x} {xs} d s = rw s.split (get_or_at s.before x (xs ++ s.after) d p s.start)

  segment_tail : {x : Term} {xs : List Term} → Segment all p (x ∷ xs) → Segment all (p + 1) xs
  segment_tail {x} {xs} s = record {
    before = s.before ++ (x ∷ []);
    after = s.after;
    split = s.split ∙ sym (append_assoc s.before (x ∷ []) (xs ++ s.after));
    start = length-append s.before (x ∷ []) ∙ ap (◌+ 1) s.start;
  }

  segment_left : (xs ys : List Term) → Segment all p (xs ++ ys) → Segment all p xs
  segment_left xs ys s = record { before = s.before; after = ys ++ s.after; split = s.split ∙ ap (s.before ++◌) (append_assoc xs ys s.after); start = s.start }

  segment_right : (xs : List Term) {ys : List Term} (n : ℕ) → length xs ≡ n → Segment all p (xs ++ ys) → Segment all (p + n) ys
  segment_right xs {ys} n e s = record {
    before = s.before ++ xs;
    after = s.after;
    split = s.split ∙ (ap (s.before ++◌) (append_assoc xs ys s.after) ∙ sym (append_assoc s.before xs (ys ++ s.after)));
    start = length-append s.before xs ∙ cc s.start;
  }

  segment_end : (xs : List Term) → Segment all p xs → p + length xs ≤ length all
  segment_end xs s = rw s.split (simp length-append (omega (arith, s.start)))

  -- The segment of a term begins with the term; behind it stand its arguments, one after the other.
  pub term_head : (t : Term) (d : Term) → Segment all p (subterms t) → get_or all p d ≡ t
  unfolding subterms
  term_head (var v) d s = segment_head d s
  term_head (app f ts) d s = segment_head d s

  pub arguments_segment : (f : ℕ) (ts : Terms) → Segment all p (subterms (app f ts)) → Segment all (p + 1) (subterms_of ts)
  unfolding subterms
  arguments_segment f ts s = segment_tail s

  pub first_segment : (t : Term) (ts : Terms) → Segment all p (subterms_of (cons t ts)) → Segment all p (subterms t)
  unfolding subterms
  first_segment t ts s = segment_left (subterms t) (subterms_of ts) s

  pub rest_segment : (t : Term) (ts : Terms) → Segment all p (subterms_of (cons t ts)) → Segment all (p + size t) (subterms_of ts)
  unfolding subterms
  rest_segment t ts s = segment_right (subterms t) (size t) (length_subterms t) s

-- Within the segment of a term, every position begins the segment of a term.
module _ (all : List Term) (d : Term) where
  abbrev SubtermAt : ℕ → Type 0
  SubtermAt p = Segment all p (subterms (get_or all p d))

  mutual
    unfolding size

    covered : (t : Term) (b p : ℕ) → Segment all b (subterms t) → b ≤ p → p < b + size t → SubtermAt p
    covered (var v) b p s l h = let e : p ≡ b = omega arith in rw (e, term_head (var v) d s) s
    covered (app f ts) b p s l h = go (λ x y. covered_by ts (b + 1) p (arguments_segment f ts s) x y) (ℕ_discrete p b)
      where
        go : (b + 1 ≤ p → p < (b + 1) + sizes ts → SubtermAt p) → Dec (p ≡ b) → SubtermAt p
        go ih (yes e) = rw (e, term_head (app f ts) d s) s
        go ih (no n) = ih (omega arith) (omega arith)

    covered_by : (ts : Terms) (b p : ℕ) → Segment all b (subterms_of ts) → b ≤ p → p < b + sizes ts → SubtermAt p
    covered_by nil b p s l h = absurd (omega arith)
    covered_by (cons t ts) b p s l h = go (λ x. covered t b p (first_segment t ts s) l x) (λ x y. covered_by ts (b + size t) p (rest_segment t ts s) x y) (dec_lt p (b + size t))
      where
        go : (p < b + size t → SubtermAt p) → (b + size t ≤ p → p < (b + size t) + sizes ts → SubtermAt p) → Dec (p < b + size t) → SubtermAt p
        go x y (yes i) = x i
        go x y (no i) = y (omega arith) (omega arith)

-- The positions of an equation.
module _ (e : Equation) where
  abbrev pub all_subterms : List Term
  all_subterms = subterms e.left ++ subterms e.right

  pub length_all : length all_subterms ≡ positions e
  length_all = length-append (subterms e.left) (subterms e.right) ∙ cc (length_subterms e.left, length_subterms e.right)

  left_segment : Segment all_subterms 0 (subterms e.left)
  left_segment = record { before = []; after = subterms e.right; split = refl; start = refl }

  right_segment : Segment all_subterms (size e.left) (subterms e.right)
  right_segment = record { before = subterms e.left; after = []; split = simp append-nil; start = length_subterms e.left }

  pub left_at : term_at e 0 ≡ e.left
  unfolding term_at
  left_at = term_head e.left (var 0) left_segment

  pub right_at : term_at e (size e.left) ≡ e.right
  unfolding term_at
  right_at = term_head e.right (var 0) right_segment

  -- At a position of the equation stands the term there; past the last one a variable.
  pub term_segment : (p : ℕ) → p < positions e → Segment all_subterms p (subterms (term_at e p))
  unfolding term_at
  term_segment p h = go (dec_lt p (size e.left))
    where
      go : Dec (p < size e.left) → Segment all_subterms p (subterms (term_at e p))
      go (yes i) = covered all_subterms (var 0) e.left 0 p left_segment (omega arith) (omega arith)
      go (no i) = covered all_subterms (var 0) e.right (size e.left) p right_segment (omega arith) (omega arith)

  pub past_end : (p : ℕ) → positions e ≤ p → term_at e p ≡ var 0
  unfolding term_at
  past_end p h = get_or-eq_default all_subterms (var 0) (omega (arith, length_all))

  -- The arguments of a symbol of the equation stand behind it.
  pub arguments_at : (p f : ℕ) (ts : Terms) → term_at e p ≡ app f ts → Segment all_subterms (p + 1) (subterms_of ts)
  arguments_at p f ts x = go (dec_lt p (positions e))
    where
      go : Dec (p < positions e) → Segment all_subterms (p + 1) (subterms_of ts)
      go (yes i) = arguments_segment f ts (rw x at (term_segment p i))
      go (no n) = let y = past_end p (omega arith) in let z : ◌≡◌ {A = ℕ} 0 1 = cc in absurd (omega arith)

  pub segment_within : {p : ℕ} (ts : Terms) → Segment all_subterms p (subterms_of ts) → p + sizes ts ≤ positions e
  segment_within ts s = omega (arith, segment_end (subterms_of ts) s, length_subterms_of ts, length_all)

  -- The source and the target stand at their positions, which are positions of the equation.
  pub source_at : (d : Direction) → term_at e (source_position e d) ≡ source e d
  unfolding source_position source
  source_at left_right = left_at
  source_at right_left = right_at

  pub target_at : (d : Direction) → term_at e (target_position e d) ≡ target e d
  unfolding target_position target
  target_at left_right = right_at
  target_at right_left = left_at

  pub source_within : (d : Direction) → source_position e d < positions e
  unfolding source_position
  source_within left_right = omega (arith, size_pos e.left)
  source_within right_left = omega (arith, size_pos e.right)

  pub target_within : (d : Direction) → target_position e d < positions e
  unfolding target_position
  target_within left_right = omega (arith, size_pos e.right)
  target_within right_left = omega (arith, size_pos e.left)
