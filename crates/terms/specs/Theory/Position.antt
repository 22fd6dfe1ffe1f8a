-- Positions of a list of terms: those of the first term, then those of the others. What is put back in its place changes nothing.
use Rattle.std.specs.Prelude.{ℕ, zero, suc, ◌+◌, ◌-◌, ◌≤◌, ◌<◌, ◌≡◌, refl, Bool, true, false, ◌++◌, length, get_or, ltb, T}
use Rattle.std.proofs.Common.{ap, ◌∙◌, arith, length-append, get_or-append-add, ltb→lt, lt→ltb}
use Rattle.std.proofs.Math.Decide.{dec_lt}
use Rattle.std.proofs.Math.ListN.{get_or-append}
use Rattle.terms.specs.Term.{Term, Terms, var, app, nil, cons, size, sizes, count}
use Rattle.terms.specs.Position.{subterms, subterms_of, starts, replace, replace_in}

-- "A node is one byte": a term has as many positions as nodes.
mutual
  unfolding size subterms

  pub length_subterms : (t : Term) → length (subterms t) ≡ size t
  length_subterms (var v) = refl
  length_subterms (app f ts) = ap suc (length_subterms_of ts)

  pub length_subterms_of : (ts : Terms) → length (subterms_of ts) ≡ sizes ts
  length_subterms_of nil = refl
  length_subterms_of (cons t ts) = length-append (subterms t) (subterms_of ts) ∙ cc (length_subterms t, length_subterms_of ts)

pub size_pos : (t : Term) → 0 < size t
unfolding size
size_pos (var v) = omega arith
size_pos (app f ts) = omega arith

pub count_few : (ts : Terms) → count ts ≤ sizes ts
unfolding count size
count_few nil = omega arith
count_few (cons t ts) = omega (arith, size_pos t, count_few ts)

-- A start for each term.
pub count_starts : (ts : Terms) (b : ℕ) → length (starts ts b) ≡ count ts
unfolding starts count
count_starts nil b = refl
count_starts (cons t ts) b = ap suc (count_starts ts (b + size t))

-- The subterm at a position of the first term, and of the others.
pub subterm_first : (t : Term) (ts : Terms) (p : ℕ) (d : Term) → p < size t → get_or (subterms_of (cons t ts)) p d ≡ get_or (subterms t) p d
unfolding subterms
subterm_first t ts p d h = get_or-append (subterms t) (subterms_of ts) d p (rw length_subterms h)

pub subterm_rest : (t : Term) (ts : Terms) (p : ℕ) (d : Term) → size t ≤ p → get_or (subterms_of (cons t ts)) p d ≡ get_or (subterms_of ts) (p - size t) d
unfolding subterms
subterm_rest t ts p d h =
    let e : p ≡ length (subterms t) + (p - size t) = omega (arith, length_subterms t) in
    ap (λ q. get_or (subterms t ++ subterms_of ts) q d) e ∙ get_or-append-add (subterms t) (subterms_of ts) (p - size t) d

-- Replacement at a position of the first term, and of the others.
pub replace_first : (t : Term) (ts : Terms) (p : ℕ) (u : Term) → p < size t → replace_in (cons t ts) p u ≡ cons (replace t p u) ts
unfolding replace
replace_first t ts p u h = go (ltb p (size t)) (lt→ltb p (size t) h)
  where
    go : (b : Bool) → T b → elim b as (λ x. Terms) [ true ↦ cons (replace t p u) ts | false ↦ cons t (replace_in ts (p - size t) u) ] ≡ cons (replace t p u) ts
    go true h = refl
    go false h = elim h [ ]

pub replace_rest : (t : Term) (ts : Terms) (p : ℕ) (u : Term) → size t ≤ p → replace_in (cons t ts) p u ≡ cons t (replace_in ts (p - size t) u)
unfolding replace
replace_rest t ts p u h = go (ltb p (size t)) (λ x. let l : p < size t = ltb→lt p (size t) x in omega arith)
  where
    go : (b : Bool) → (T b → ⊥) → elim b as (λ x. Terms) [ true ↦ cons (replace t p u) ts | false ↦ cons t (replace_in ts (p - size t) u) ] ≡ cons t (replace_in ts (p - size t) u)
    go true n = absurd (n tt)
    go false n = refl

-- A subterm put back in its place.
mutual
  unfolding size subterms replace

  pub replace_same : (s : Term) (p : ℕ) (d : Term) → p < size s → replace s p (get_or (subterms s) p d) ≡ s
  replace_same (var v) zero d h = refl
  replace_same (var v) (suc p) d h = absurd (omega arith)
  replace_same (app f ts) zero d h = refl
  replace_same (app f ts) (suc p) d h = ap (app f) (replace_in_same ts p d (omega arith))

  pub replace_in_same : (ts : Terms) (p : ℕ) (d : Term) → p < sizes ts → replace_in ts p (get_or (subterms_of ts) p d) ≡ ts
  replace_in_same nil p d h = absurd (omega arith)
  replace_in_same (cons t ts) p d h =
      elim (dec_lt p (size t)) [
        | yes l ↦ rw (subterm_first t ts p d l, replace_first t ts p _ l, replace_same t p d l)
        | no n ↦ let l : size t ≤ p = omega arith in rw (subterm_rest t ts p d l, replace_rest t ts p _ l, replace_in_same ts (p - size t) d (omega arith))
      ]
