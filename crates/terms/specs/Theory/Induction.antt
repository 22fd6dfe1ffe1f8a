-- Induction on terms.
use Rattle.std.specs.Prelude.{ℕ}
use Rattle.terms.specs.Term.{Term, Terms, var, app, nil, cons}

-- `P` holds of every term of a list.
pub data Each (P : Term → Type 0) : Terms → Type 0 where
  each_nil : Each P nil
  each_cons : {t : Term} {ts : Terms} → P t → Each P ts → Each P (cons t ts)

-- What holds of the variables, and of a term wherever it holds of all arguments, holds of every term.
module _ (P : Term → Type 0) (of_var : (v : ℕ) → P (var v)) (of_app : (f : ℕ) (ts : Terms) → Each P ts → P (app f ts)) where
  unfoldable mutual
    pub term_ind : (t : Term) → P t
    term_ind (var v) = of_var v
    term_ind (app f ts) = of_app f ts (terms_ind ts)

    pub terms_ind : (ts : Terms) → Each P ts
    terms_ind nil = each_nil
    terms_ind (cons t ts) = each_cons (term_ind t) (terms_ind ts)

unfoldable pub each_map : {P Q : Term → Type 0} {ts : Terms} → ((t : Term) → P t → Q t) → Each P ts → Each Q ts
each_map k each_nil = each_nil
each_map k (each_cons p ps) = each_cons (k _ p) (each_map k ps)

-- A term is one of a list.
pub data Member (t : Term) : Terms → Type 0 where
  first : {ts : Terms} → Member t (cons t ts)
  later : {s : Term} {ts : Terms} → Member t ts → Member t (cons s ts)
