-- The clause by which one term exceeds another (document 02, W8).
use Rattle.std.specs.Prelude.{◌≡◌}
pub use Rattle.ordering.specs.declared.decision.Clause.{Clause}
pub use Rattle.ordering.specs.declared.decision.Clause.TheVariants.{L1 as by_L1, L2 as by_L2, L3 as by_L3}
use Rattle.terms.specs.Term.{Term}
use Rattle.path_order.specs.Order.{◌≻◌, L1, L2, L3}

-- The clause that a derivation of s > t ends with: each is a constructor of `◌≻◌`. Two terms can have derivations by different clauses.
unfoldable pub clause_of : {s t : Term} → s ≻ t → Clause
clause_of (L1 p) = by_L1
clause_of (L2 i a) = by_L2
clause_of (L3 l) = by_L3

-- A clause applies to s and t if some derivation of s > t ends with it.
pub record Applies (c : Clause) (s t : Term) : Type 0 where
  pub shown : s ≻ t
  pub by : clause_of shown ≡ c

-- "the first of L1, L2, L3 that applies": it applies, and none before it does.
abbrev pub FirstApplies : Clause → Term → Term → Type 0
FirstApplies by_L1 s t = Applies by_L1 s t
FirstApplies by_L2 s t = (¬ Applies by_L1 s t) × Applies by_L2 s t
FirstApplies by_L3 s t = (¬ Applies by_L1 s t) × (¬ Applies by_L2 s t) × Applies by_L3 s t
