-- What a scan that refuses nothing has passed, with any number of variables: no more nodes than it had room for.
use Prim.Native.Nat.{ℕ, zero, suc, ◌+◌, ◌≤◌, ◌<◌}
use Rattle.std.proofs.Math.Path.{◌≡◌, refl, ap}
use Rattle.std.proofs.Common.{sym, ◌∙◌}
use Rattle.std.specs.Prelude.{Bool, true, length, ltb}
use Rattle.std.proofs.Math.Bool.{false}
use mathlib.Core.List.{List, [], ◌∷◌}
use native.Mathlib.Omega.{arith}
use Rattle.format.specs.Limits.{max_side_nodes}
use Rattle.format.specs.Refusal.{Result, refuse, give}
use Rattle.format.specs.declared.refusal.Refusal.TheVariants.{FrameBytes as frame_bytes}
use Rattle.format.specs.Byte.{class_of_with}
use Rattle.format.specs.declared.byte.Class.{Class}
use Rattle.format.specs.declared.byte.Class.TheVariants.{Symbol as symbol, Variable as variable, Foreign as foreign}
use Rattle.terms.specs.Term.{Terms, var, nil, cons, nth, size, sizes, arity}
use Rattle.terms.specs.Prefix.{drop_terms, put_node, terms_of_with}
use Rattle.terms.specs.Theory.Prefix.{sizes_take_drop}
use Rattle.sheet.specs.Frame.{after_node, scan_with, scan_sides_with, first_term, second_term}

drop_none : (n : ℕ) → drop_terms n nil ≡ nil
unfolding drop_terms
drop_none zero = refl
drop_none (suc n) = refl

drop_more : (a n : ℕ) (ts : Terms) → drop_terms n (drop_terms a ts) ≡ drop_terms (a + n) ts
unfolding drop_terms
drop_more zero n ts = let e : 0 + n ≡ n = omega arith in rw e
drop_more (suc a) n nil = drop_none n ∙ sym (drop_none (suc a + n))
drop_more (suc a) n (cons t ts) = let e : suc a + n ≡ suc (a + n) = omega arith in rw e (drop_more a n ts)

module _ (few : ℕ) (arities : List ℕ) where
  -- `rest` stands behind `need` terms that have at most `room` nodes together.
  pub record Passed (bs : List ℕ) (need room : ℕ) (rest : List ℕ) : Type 0 where
    pub behind : drop_terms need (terms_of_with few arities bs) ≡ terms_of_with few arities rest
    pub within : sizes (terms_of_with few arities bs) ≤ room + sizes (terms_of_with few arities rest)

  nothing_passed : (bs : List ℕ) (room : ℕ) (rest : List ℕ) → ◌≡◌ {A = Result (List ℕ)} (give bs) (give rest) → Passed bs 0 room rest
  unfolding drop_terms
  nothing_passed bs room rest e = let x : bs ≡ rest = cc in rw (← x) (record { behind = refl; within = omega arith })

  node_passed : (is_ground : Bool) (b : ℕ) (bs : List ℕ) (need n room : ℕ) (rest : List ℕ) → after_node arities is_ground (class_of_with few b) need ≡ give n → Passed bs n room rest
      → Passed (b ∷ bs) (suc need) (suc room) rest
  unfolding terms_of_with after_node size
  node_passed is_ground b bs need n room rest e s = let p = put is_ground (class_of_with few b) e in record { behind = p.0; within = p.1 }
    where
      ts : Terms
      ts = terms_of_with few arities bs

      Put : Class → Type 0
      Put c = (drop_terms (suc need) (put_node arities c ts) ≡ terms_of_with few arities rest) × (sizes (put_node arities c ts) ≤ suc room + sizes (terms_of_with few arities rest))

      put_symbol : (f : ℕ) → arity arities f + need ≡ n → Put (symbol f)
      put_symbol f x = (drop_more (arity arities f) need ts ∙ (ap (λ k. drop_terms k ts) x ∙ s.behind), omega (arith, sizes_take_drop (arity arities f) ts, s.within))

      known : (f : ℕ) (t : Bool) → elim t as (λ t. Result ℕ) [ true ↦ give (arity arities f + need) | false ↦ refuse frame_bytes ] ≡ give n → Put (symbol f)
      known f true e = put_symbol f cc
      known f false e = let z : ◌≡◌ {A = ℕ} 0 1 = cc in absurd (omega arith)

      put : (g : Bool) (c : Class) → after_node arities g c need ≡ give n → Put c
      put g (symbol f) e = known f (ltb f (length arities)) e
      put true (variable v) e = let z : ◌≡◌ {A = ℕ} 0 1 = cc in absurd (omega arith)
      put false (variable v) e = let x : need ≡ n = cc in (ap (λ k. drop_terms k ts) x ∙ s.behind, omega (arith, s.within))
      put true foreign e = let z : ◌≡◌ {A = ℕ} 0 1 = cc in absurd (omega arith)
      put false foreign e = let z : ◌≡◌ {A = ℕ} 0 1 = cc in absurd (omega arith)

  pub scan_passed : (is_ground : Bool) (bs : List ℕ) (need room : ℕ) (rest : List ℕ) → scan_with few arities is_ground bs need room ≡ give rest → Passed bs need room rest
  unfolding scan_with
  scan_passed is_ground [] zero room rest e = nothing_passed [] room rest e
  scan_passed is_ground [] (suc need) room rest e = let z : ◌≡◌ {A = ℕ} 0 1 = cc in absurd (omega arith)
  scan_passed is_ground (b ∷ bs) zero room rest e = nothing_passed (b ∷ bs) room rest e
  scan_passed is_ground (b ∷ bs) (suc need) zero rest e = let z : ◌≡◌ {A = ℕ} 0 1 = cc in absurd (omega arith)
  scan_passed is_ground (b ∷ bs) (suc need) (suc room) rest e = go (λ n d. scan_passed is_ground bs n room rest d) (after_node arities is_ground (class_of_with few b) need) refl e
    where
      go : ((n : ℕ) → scan_with few arities is_ground bs n room ≡ give rest → Passed bs n room rest)
          → (r : Result ℕ) → after_node arities is_ground (class_of_with few b) need ≡ r
          → elim r as (λ r. Result (List ℕ)) [ refuse x ↦ refuse x | give n ↦ scan_with few arities is_ground bs n room ] ≡ give rest
          → Passed (b ∷ bs) (suc need) (suc room) rest
      go ih (refuse x) d e = let z : ◌≡◌ {A = ℕ} 0 1 = cc in absurd (omega arith)
      go ih (give n) d e = node_passed is_ground b bs need n room rest d (ih n e)

  -- The first term of a row is no larger than what was passed for it.
  first_small : (bs : List ℕ) (room : ℕ) (rest : List ℕ) → 0 < room → Passed bs 1 room rest → size (first_term (terms_of_with few arities bs)) ≤ room
  unfolding first_term nth drop_terms size
  first_small bs room rest positive s = go (terms_of_with few arities bs) s.behind s.within
    where
      go : (ts : Terms) → drop_terms 1 ts ≡ terms_of_with few arities rest → sizes ts ≤ room + sizes (terms_of_with few arities rest) → size (nth ts 0 (var 0)) ≤ room
      go nil e h = positive
      go (cons t ts) e h = omega (arith, ap sizes e)

  second_first : (ts : Terms) → second_term ts ≡ first_term (drop_terms 1 ts)
  unfolding second_term first_term nth drop_terms
  second_first nil = refl
  second_first (cons t ts) = refl

  -- The two sides of an equation.
  pub sides_small : (bs : List ℕ) → scan_sides_with few arities bs ≡ give []
      → (size (first_term (terms_of_with few arities bs)) ≤ max_side_nodes) × (size (second_term (terms_of_with few arities bs)) ≤ max_side_nodes)
  unfolding scan_sides_with
  sides_small bs e = go (scan_with few arities false bs 1 max_side_nodes) refl e
    where
      go : (o : Result (List ℕ)) → scan_with few arities false bs 1 max_side_nodes ≡ o
          → ◌≡◌ {A = Result (List ℕ)} (elim o [ refuse r ↦ refuse r | give rest ↦ scan_with few arities false rest 1 max_side_nodes ]) (give [])
          → (size (first_term (terms_of_with few arities bs)) ≤ max_side_nodes) × (size (second_term (terms_of_with few arities bs)) ≤ max_side_nodes)
      go (refuse r) d e = let z : ◌≡◌ {A = ℕ} 0 1 = cc in absurd (omega arith)
      go (give rest) d e =
          let s = scan_passed false bs 1 max_side_nodes rest d in
          let t = scan_passed false rest 1 max_side_nodes [] e in
          let x : second_term (terms_of_with few arities bs) ≡ first_term (terms_of_with few arities rest) = second_first (terms_of_with few arities bs) ∙ ap first_term s.behind in
          (first_small bs max_side_nodes rest (omega arith) s, rw x (first_small rest max_side_nodes [] (omega arith) t))
