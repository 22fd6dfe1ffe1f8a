-- Laws of the prefix form: what terms spell, and that `terms_of` reads it back.
use Rattle.std.specs.Prelude.{ℕ, zero, suc, ◌+◌, ◌-◌, ◌≤◌, ◌<◌, ◌≡◌, refl, List, [], ◌++◌, length}
use Rattle.std.proofs.Common.{sym, ap, ◌∙◌, append_assoc, append-nil, length-append, arith}
use Rattle.format.specs.Limits.{max_symbols, variable_count}
use Rattle.format.specs.Theory.Byte.{symbol_class, variable_class}
use Rattle.terms.specs.Term.{Term, Terms, var, app, nil, cons, size, sizes, count, arity, Ground, Grounds}
use Rattle.terms.specs.Prefix.{prefix, prefixes, take_terms, drop_terms, terms_of}
use Rattle.terms.specs.ForContracts.Limits.{VariablesBelow, AllVariablesBelow}
use Rattle.terms.specs.ForContracts.Fits.{Fits, AllFit}
use Rattle.terms.specs.Theory.Append.{append}

-- 1. Ground terms are terms over the sheet's symbols.
mutual
  pub ground_fits : (arities : List ℕ) (t : Term) → Ground arities t → Fits arities t
  ground_fits arities (var v) g = absurd g
  ground_fits arities (app f ts) g = (g.0, g.1, grounds_fit arities ts g.2)

  pub grounds_fit : (arities : List ℕ) (ts : Terms) → Grounds arities ts → AllFit arities ts
  grounds_fit arities nil g = tt
  grounds_fit arities (cons t ts) g = (ground_fits arities t g.0, grounds_fit arities ts g.1)

mutual
  pub fits_variables : (arities : List ℕ) (t : Term) → Fits arities t → VariablesBelow variable_count t
  fits_variables arities (var v) h = h
  fits_variables arities (app f ts) h = all_fit_variables arities ts h.2

  pub all_fit_variables : (arities : List ℕ) (ts : Terms) → AllFit arities ts → AllVariablesBelow variable_count ts
  all_fit_variables arities nil h = tt
  all_fit_variables arities (cons t ts) h = (fits_variables arities t h.0, all_fit_variables arities ts h.1)

-- 2. Lists of terms one after the other.
pub take_drop_terms : (n : ℕ) (ts : Terms) → append (take_terms n ts) (drop_terms n ts) ≡ ts
unfolding append take_terms drop_terms
take_drop_terms zero ts = refl
take_drop_terms (suc n) nil = refl
take_drop_terms (suc n) (cons t ts) = ap (cons t) (take_drop_terms n ts)

pub take_append_terms : (n : ℕ) (ts us : Terms) → count ts ≡ n → take_terms n (append ts us) ≡ ts
unfolding append take_terms count
take_append_terms zero nil us e = refl
take_append_terms zero (cons t ts) us e = absurd (omega arith)
take_append_terms (suc n) nil us e = absurd (omega arith)
take_append_terms (suc n) (cons t ts) us e = ap (cons t) (take_append_terms n ts us (omega arith))

pub drop_append_terms : (n : ℕ) (ts us : Terms) → count ts ≡ n → drop_terms n (append ts us) ≡ us
unfolding append drop_terms count
drop_append_terms zero nil us e = refl
drop_append_terms zero (cons t ts) us e = absurd (omega arith)
drop_append_terms (suc n) nil us e = absurd (omega arith)
drop_append_terms (suc n) (cons t ts) us e = drop_append_terms n ts us (omega arith)

pub count_take : (n : ℕ) (ts : Terms) → n ≤ count ts → count (take_terms n ts) ≡ n
unfolding take_terms count
count_take zero ts h = refl
count_take (suc n) nil h = absurd (omega arith)
count_take (suc n) (cons t ts) h = omega (arith, count_take n ts (omega arith))

pub count_drop : (n : ℕ) (ts : Terms) → count (drop_terms n ts) ≡ count ts - n
unfolding drop_terms count
count_drop zero ts = omega arith
count_drop (suc n) nil = omega arith
count_drop (suc n) (cons t ts) = omega (arith, count_drop n ts)

pub sizes_take_drop : (n : ℕ) (ts : Terms) → sizes (take_terms n ts) + sizes (drop_terms n ts) ≡ sizes ts
unfolding take_terms drop_terms size
sizes_take_drop zero ts = omega arith
sizes_take_drop (suc n) nil = omega arith
sizes_take_drop (suc n) (cons t ts) = omega (arith, sizes_take_drop n ts)

pub fit_take_drop : (arities : List ℕ) (n : ℕ) (ts : Terms) → AllFit arities ts → AllFit arities (take_terms n ts) × AllFit arities (drop_terms n ts)
unfolding take_terms drop_terms
fit_take_drop arities zero ts h = (tt, h)
fit_take_drop arities (suc n) nil h = (tt, tt)
fit_take_drop arities (suc n) (cons t ts) h = let (a, b) = fit_take_drop arities n ts h.1 in ((h.0, a), b)

pub ground_take_drop : (arities : List ℕ) (n : ℕ) (ts : Terms) → Grounds arities ts → Grounds arities (take_terms n ts) × Grounds arities (drop_terms n ts)
unfolding take_terms drop_terms
ground_take_drop arities zero ts h = (tt, h)
ground_take_drop arities (suc n) nil h = (tt, tt)
ground_take_drop arities (suc n) (cons t ts) h = let (a, b) = ground_take_drop arities n ts h.1 in ((h.0, a), b)

pub prefixes_append : (ts us : Terms) → prefixes (append ts us) ≡ prefixes ts ++ prefixes us
unfolding append prefix
prefixes_append nil us = refl
prefixes_append (cons t ts) us = ap (prefix t ++◌) (prefixes_append ts us) ∙ sym (append_assoc (prefix t) (prefixes ts) (prefixes us))

-- 3. "A node is one byte."
mutual
  unfolding prefix size

  pub length_prefix : (t : Term) → length (prefix t) ≡ size t
  length_prefix (var v) = refl
  length_prefix (app f ts) = ap suc (length_prefixes ts)

  pub length_prefixes : (ts : Terms) → length (prefixes ts) ≡ sizes ts
  length_prefixes nil = refl
  length_prefixes (cons t ts) = length-append (prefix t) (prefixes ts) ∙ cc (length_prefix t, length_prefixes ts)

-- 4. Reading back: `terms_of` gives the terms whose prefix forms these are.
module _ (arities : List ℕ) (known : length arities ≤ max_symbols) where
  mutual
    unfolding prefix terms_of append

    pub terms_of_prefix : (t : Term) (bs : List ℕ) → Fits arities t → terms_of arities (prefix t ++ bs) ≡ cons t (terms_of arities bs)
    terms_of_prefix (var v) bs h = rw (variable_class v h)
    terms_of_prefix (app f ts) bs h =
        let below : f < max_symbols = omega (arith, h.0) in
        rw (symbol_class f below, terms_of_prefixes ts bs h.2, take_append_terms (arity arities f) ts (terms_of arities bs) h.1, drop_append_terms (arity arities f) ts (terms_of arities bs) h.1)

    pub terms_of_prefixes : (ts : Terms) (bs : List ℕ) → AllFit arities ts → terms_of arities (prefixes ts ++ bs) ≡ append ts (terms_of arities bs)
    terms_of_prefixes nil bs h = refl
    terms_of_prefixes (cons t ts) bs h = rw (append_assoc (prefix t) (prefixes ts) bs, terms_of_prefix t (prefixes ts ++ bs) h.0, terms_of_prefixes ts bs h.1)

  -- Terms that spell the same are identical.
  pub prefix_injective : (s t : Term) → Fits arities s → Fits arities t → prefix s ≡ prefix t → s ≡ t
  prefix_injective s t h k e = cc (terms_of_prefix s [] h, terms_of_prefix t [] k)

append_nil_terms : (ts : Terms) → append ts nil ≡ ts
unfolding append
append_nil_terms nil = refl
append_nil_terms (cons t ts) = ap (cons t) (append_nil_terms ts)

pub terms_of_spelled : (arities : List ℕ) → length arities ≤ max_symbols → (ts : Terms) → AllFit arities ts → terms_of arities (prefixes ts) ≡ ts
unfolding terms_of
terms_of_spelled arities known ts h = ap (terms_of arities) (sym (append-nil (prefixes ts))) ∙ (terms_of_prefixes arities known ts [] h ∙ append_nil_terms ts)
