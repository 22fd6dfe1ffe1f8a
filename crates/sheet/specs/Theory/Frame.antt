-- What the terms of a frame that is not refused are.
use Rattle.std.specs.Prelude.{ℕ, ◌≤◌, length}
use Rattle.std.proofs.Math.Path.{◌≡◌, refl, sym, ap, ap₂, subst}
use Rattle.std.proofs.Common.{◌∙◌}
use Rattle.std.proofs.Math.Bool.{true, false}
use mathlib.Core.List.{List, [], ◌∷◌, ◌++◌, append-nil}
use native.Mathlib.Omega.{arith}
use Rattle.format.specs.Limits.{max_symbols, max_side_nodes, max_task_nodes}
use Rattle.format.specs.Refusal.{Result, refuse, give, result_map}
use Rattle.terms.specs.Term.{Term, Terms, nil, cons, nth, size, sizes, count, Grounds}
use Rattle.terms.specs.Equation.{Equation}
use Rattle.terms.specs.Prefix.{prefix, prefixes, terms_of}
use Rattle.terms.specs.Theory.Prefix.{terms_of_spelled, fits_variables}
use Rattle.terms.specs.ForContracts.Fits.{AllFit, Fits}
use Rattle.sheet.specs.Frame.{scan, all_read, ground_terms, scan_sides, first_term, second_term, equation_body}
use Rattle.sheet.specs.Theory.Scan.{scan_sound}
use Rattle.sheet.specs.ForContracts.Valid.{ValidEquation}

-- A result that is mapped and given was given.
pub mapped : {A B : Type 0} (f : A → B) (r : Result A) (b : B) → result_map f r ≡ give b → (a : A) × (r ≡ give a) × (f a ≡ b)
unfolding result_map
mapped f (refuse x) b e = let z : ◌≡◌ {A = ℕ} 0 1 = cc in absurd (omega arith)
mapped f (give a) b e = (a, refl, cc)

all_read_given : (ts us : Terms) (r : Result (List ℕ)) → all_read ts r ≡ give us → (ts ≡ us) × (r ≡ give [])
unfolding all_read
all_read_given ts us (refuse x) e = let z : ◌≡◌ {A = ℕ} 0 1 = cc in absurd (omega arith)
all_read_given ts us (give []) e = (cc, refl)
all_read_given ts us (give (b ∷ bs)) e = let z : ◌≡◌ {A = ℕ} 0 1 = cc in absurd (omega arith)

-- 1. Terms.
pub record GroundTerms (arities : List ℕ) (n : ℕ) (bs : List ℕ) (ts : Terms) : Type 0 where
  pub counted : count ts ≡ n
  pub spelled : bs ≡ prefixes ts
  pub few : sizes ts ≤ max_task_nodes
  pub grounded : Grounds arities ts

-- One term is its first, two are its first and its second.
pub one_term : (ts : Terms) → count ts ≡ 1 → ts ≡ cons (first_term ts) nil
unfolding count first_term nth
one_term nil h = absurd (omega arith)
one_term (cons t nil) h = refl
one_term (cons t (cons u us)) h = absurd (omega arith)

pub two_terms : (ts : Terms) → count ts ≡ 2 → ts ≡ cons (first_term ts) (cons (second_term ts) nil)
unfolding count first_term second_term nth
two_terms nil h = absurd (omega arith)
two_terms (cons t nil) h = absurd (omega arith)
two_terms (cons t (cons u nil)) h = refl
two_terms (cons t (cons u (cons w ws))) h = absurd (omega arith)

module _ (arities : List ℕ) (known : length arities ≤ max_symbols) where
  pub ground_terms_given : (n : ℕ) (bs : List ℕ) (ts : Terms) → ground_terms arities n bs ≡ give ts → GroundTerms arities n bs ts
  unfolding ground_terms
  ground_terms_given n bs ts e =
      let (a, d) = all_read_given (terms_of arities bs) ts (scan arities true bs n max_task_nodes) e in
      let s = scan_sound arities true bs n max_task_nodes [] d in
      let p : bs ≡ prefixes s.terms = s.spelled ∙ append-nil (prefixes s.terms) in
      let q : terms_of arities (prefixes s.terms) ≡ s.terms = terms_of_spelled arities known s.terms s.fit in
      let x : s.terms ≡ ts = cc in
      rw (← x) (record { counted = s.counted; spelled = p; few = s.within; grounded = s.grounded })

  -- 2. An equation.
  pub record EquationRead (bs : List ℕ) (e : Equation) : Type 0 where
    pub spelled : bs ≡ prefix e.left ++ prefix e.right
    pub valid : ValidEquation arities e

  one_size : (t : Term) → sizes (cons t nil) ≡ size t
  unfolding size
  one_size t = omega arith

  one_prefix : (t : Term) (bs : List ℕ) → prefixes (cons t nil) ++ bs ≡ prefix t ++ bs
  unfolding prefix
  one_prefix t bs = ap (◌++ bs) (append-nil (prefix t))

  two_prefixes : (t u : Term) → prefixes (cons t (cons u nil)) ≡ prefix t ++ prefix u
  unfolding prefix
  two_prefixes t u = ap (prefix t ++◌) (append-nil (prefix u))

  -- The two sides, one after the other.
  sides : (bs : List ℕ) → scan_sides arities bs ≡ give []
      → (l r : Term) × (bs ≡ prefixes (cons l (cons r nil))) × Fits arities l × Fits arities r × (size l ≤ max_side_nodes) × (size r ≤ max_side_nodes)
  unfolding scan_sides
  sides bs e = go (scan arities false bs 1 max_side_nodes) refl e
    where
      go : (x : Result (List ℕ)) → scan arities false bs 1 max_side_nodes ≡ x
          → ◌≡◌ {A = Result (List ℕ)} (elim x [ refuse r ↦ refuse r | give rest ↦ scan arities false rest 1 max_side_nodes ]) (give [])
          → (l r : Term) × (bs ≡ prefixes (cons l (cons r nil))) × Fits arities l × Fits arities r × (size l ≤ max_side_nodes) × (size r ≤ max_side_nodes)
      go (refuse r) d e = let z : ◌≡◌ {A = ℕ} 0 1 = cc in absurd (omega arith)
      go (give rest) d e =
          let a = scan_sound arities false bs 1 max_side_nodes rest d in
          let b = scan_sound arities false rest 1 max_side_nodes [] e in
          let l = first_term a.terms in
          let r = first_term b.terms in
          let x : a.terms ≡ cons l nil = one_term a.terms a.counted in
          let y : b.terms ≡ cons r nil = one_term b.terms b.counted in
          let p : bs ≡ prefixes (cons l nil) ++ rest = a.spelled ∙ ap (λ ts. prefixes ts ++ rest) x in
          let q : rest ≡ prefixes (cons r nil) ++ [] = b.spelled ∙ ap (λ ts. prefixes ts ++ []) y in
          let fl : AllFit arities (cons l nil) = rw x at a.fit in
          let fr : AllFit arities (cons r nil) = rw y at b.fit in
          (l, r, p ∙ one_prefix l rest ∙ ap (prefix l ++◌) (q ∙ one_prefix r [] ∙ append-nil (prefix r)) ∙ sym (two_prefixes l r), fl.0, fr.0, omega (arith, one_size l, ap sizes x, a.within), omega (arith, one_size r, ap sizes y, b.within))

  pub equation_given : (bs : List ℕ) (e : Equation) → equation_body arities bs ≡ give e → EquationRead bs e
  unfolding equation_body first_term second_term nth
  equation_given bs e d =
      let (ts, x, y) = mapped (λ ts. let q : Equation = record { left = first_term ts; right = second_term ts } in q) (all_read (terms_of arities bs) (scan_sides arities bs)) e d in
      let (a, b) = all_read_given (terms_of arities bs) ts (scan_sides arities bs) x in
      let (l, r, p, fl, fr, sl, sr) = sides bs b in
      let back : terms_of arities (prefixes (cons l (cons r nil))) ≡ cons l (cons r nil) = terms_of_spelled arities known (cons l (cons r nil)) (fl, (fr, tt)) in
      let t : ts ≡ cons l (cons r nil) = cc in
      let i : first_term ts ≡ l = ap first_term t in
      let j : second_term ts ≡ r = ap second_term t in
      let u : l ≡ e.left = sym i ∙ ap (λ q. q.left) y in
      let w : r ≡ e.right = sym j ∙ ap (λ q. q.right) y in
      record {
        spelled = p ∙ two_prefixes l r ∙ ap₂ (λ a b. prefix a ++ prefix b) u w;
        valid = record {
          left_fits = subst (Fits arities) u fl;
          right_fits = subst (Fits arities) w fr;
          limits = record {
            left_variables = fits_variables arities e.left (subst (Fits arities) u fl);
            right_variables = fits_variables arities e.right (subst (Fits arities) w fr);
            left_size = subst (λ t. size t ≤ max_side_nodes) u sl;
            right_size = subst (λ t. size t ≤ max_side_nodes) w sr;
          };
        };
      }
