-- Terms that unification has found to be the same, kept while it goes on: a byte for each position, ff or a position with the same term.
use Rattle.std.specs.Prelude.{ℕ, ◌<◌, ◌≡◌, List, [], ◌∷◌, length, get_or}
use Rattle.format.specs.Limits.{position_count, no_position}
use Rattle.terms.specs.Position.{Node, var_node, app_node}
use Rattle.solving.specs.Line.{Bindings}
use Rattle.solving.specs.ForContracts.Seen.{Reaches}
use Rattle.bindings.specs.ForContracts.PrefixForm.{view_of}
use Rattle.bindings.specs.ForContracts.Bindings.{bindings_of}

-- The terms at two positions are the same, seen through the bindings.
module _ (view : ℕ → Node) (θ : Bindings) where
  mutual
    pub data Same : ℕ → ℕ → Type 0 where
      one_position : {p q r : ℕ} → Reaches view θ p r → Reaches view θ q r → Same p q
      one_variable : {p q r s v : ℕ} → Reaches view θ p r → Reaches view θ q s → view r ≡ var_node v → view s ≡ var_node v → Same p q
      one_symbol : {p q r s f : ℕ} {ps qs : List ℕ} → Reaches view θ p r → Reaches view θ q s → view r ≡ app_node f ps → view s ≡ app_node f qs → EachSame ps qs → Same p q

    pub data EachSame : List ℕ → List ℕ → Type 0 where
      none_left : EachSame [] []
      and_then : {p q : ℕ} {ps qs : List ℕ} → Same p q → EachSame ps qs → EachSame (p ∷ ps) (q ∷ qs)

-- From `p` the links lead to `r`.
pub data Leads (links : List ℕ) (p : ℕ) : ℕ → Type 0 where
  stays : Leads links p p
  goes : {q r : ℕ} → Leads links p q → r ≡ get_or links q 0 → r < no_position → Leads links p r

-- The links can be followed: each leads to a position.
pub record Followed (links : List ℕ) : Type 0 where
  pub each_position : length links ≡ position_count
  pub within : (p : ℕ) → p < length links → get_or links p 0 < no_position → get_or links p 0 < position_count

-- A link leads to a position of the equation with the same term.
pub record Linked (nodes sizes bindings links : List ℕ) : Type 0 where
  pub each_position : length links ≡ position_count
  pub same : (p : ℕ) → p < length links → get_or links p 0 < no_position → (get_or links p 0 < length nodes) × Same (view_of nodes sizes) (bindings_of bindings) p (get_or links p 0)
