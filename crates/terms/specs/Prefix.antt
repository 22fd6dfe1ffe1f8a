-- The prefix form of terms (document 01, 'The sheet').
use Rattle.std.specs.Prelude.{ℕ, zero, suc, ◌+◌}
use mathlib.Core.List.{List, [], ◌∷◌, ◌++◌}
use Rattle.format.specs.Limits.{variable_count, first_variable}
use Rattle.format.specs.Byte.{class_of_with, class_of}
use Rattle.format.specs.declared.byte.Class.{Class}
use Rattle.format.specs.declared.byte.Class.TheVariants.{Symbol as symbol, Variable as variable, Foreign as foreign}
use Rattle.terms.specs.Term.{Term, Terms, var, app, nil, cons, arity}
use Rattle.terms.specs.Equation.{Equation}

-- "A term is in prefix form: a symbol byte followed by its arguments, or a variable."
unfoldable mutual
  pub prefix : Term → List ℕ
  prefix (var v) = (first_variable + v) ∷ []
  prefix (app f ts) = f ∷ prefixes ts

  pub prefixes : Terms → List ℕ
  prefixes nil = []
  prefixes (cons t ts) = prefix t ++ prefixes ts

-- "an equation, left term then right term"
unfoldable pub equation_bytes : Equation → List ℕ
unfolding prefix
equation_bytes e = prefix e.left ++ prefix e.right

-- Back from bytes to terms. From the last byte to the first: a symbol takes as many of the terms behind it as its arity says.
unfoldable pub take_terms : ℕ → Terms → Terms
take_terms zero ts = nil
take_terms (suc n) nil = nil
take_terms (suc n) (cons t ts) = cons t (take_terms n ts)

unfoldable pub drop_terms : ℕ → Terms → Terms
drop_terms zero ts = ts
drop_terms (suc n) nil = nil
drop_terms (suc n) (cons t ts) = drop_terms n ts

unfoldable pub put_node : List ℕ → Class → Terms → Terms
unfolding take_terms drop_terms arity
put_node arities (symbol f) ts = cons (app f (take_terms (arity arities f) ts)) (drop_terms (arity arities f) ts)
put_node arities (variable v) ts = cons (var v) ts
put_node arities foreign ts = ts

-- With any number of variables.
module _ (variables : ℕ) where
  -- The terms whose prefix forms, one after the other, are these bytes.
  unfoldable pub terms_of_with : List ℕ → List ℕ → Terms
  unfolding put_node class_of_with
  terms_of_with arities [] = nil
  terms_of_with arities (b ∷ bs) = put_node arities (class_of_with variables b) (terms_of_with arities bs)

-- With the sheet's number of variables.
unfoldable pub terms_of : List ℕ → List ℕ → Terms
unfolding terms_of_with class_of
terms_of = terms_of_with variable_count
