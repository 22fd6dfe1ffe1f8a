-- What the code finds that two positions' unification gives.
use Rattle.std.specs.Prelude.{ℕ, ◌≡◌, List, length}
use Rattle.format.specs.Limits.{variable_count}
use Rattle.solving.specs.Walk.{enough, unify}
use Rattle.bindings.specs.ForContracts.PrefixForm.{view_of}
use Rattle.bindings.specs.ForContracts.Bindings.{bindings_of}
use Rattle.unifying.specs.declared.unifier.Unifier.{Unifier}
use Rattle.unifying.specs.ForContracts.Unify.{answered}

-- "Equality: unify"
pub record Unifies (nodes sizes bindings : List ℕ) (p q : ℕ) (r : Unifier) : Type 0 where
  pub tells : unify enough (view_of nodes sizes) enough.unify_depth (bindings_of bindings) p q ≡ answered r.answer (bindings_of r.bindings)
  pub whole : length r.bindings ≡ variable_count
