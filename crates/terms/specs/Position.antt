-- Positions in a term (document 01, 'The sheet': "Positions count bytes from 0").
use Rattle.std.specs.Prelude.{ℕ, zero, suc, ◌+◌, ◌-◌, true, false, List, [], ◌∷◌, ◌++◌, ltb}
use Rattle.terms.specs.Term.{Term, Terms, var, app, nil, cons, size}

-- The subterms in prefix order: the one that starts at each position.
unfoldable mutual
  pub subterms : Term → List Term
  subterms (var v) = var v ∷ []
  subterms (app f ts) = app f ts ∷ subterms_of ts

  pub subterms_of : Terms → List Term
  subterms_of nil = []
  subterms_of (cons t ts) = subterms t ++ subterms_of ts

-- The positions of the terms of a list, the first at `p`.
unfoldable pub starts : Terms → ℕ → List ℕ
unfolding size
starts nil p = []
starts (cons t ts) p = p ∷ starts ts (p + size t)

-- What stands at a position: a variable, or a symbol with the positions of its arguments.
pub data Node : Type 0 where
  var_node : ℕ → Node
  app_node : ℕ → List ℕ → Node

unfoldable pub node_at : ℕ → Term → Node
unfolding starts
node_at p (var v) = var_node v
node_at p (app f ts) = app_node f (starts ts (p + 1))

-- The term with its part at position `p` replaced by `u`.
unfoldable mutual
  unfolding size

  pub replace : Term → ℕ → Term → Term
  replace (var v) zero u = u
  replace (var v) (suc p) u = var v
  replace (app f ts) zero u = u
  replace (app f ts) (suc p) u = app f (replace_in ts p u)

  pub replace_in : Terms → ℕ → Term → Terms
  replace_in nil p u = nil
  replace_in (cons t ts) p u = elim (ltb p (size t)) [ true ↦ cons (replace t p u) ts | false ↦ cons t (replace_in ts (p - size t) u) ]
