-- Nodes with smaller symbols that are passed over.
use Rattle.std.specs.Prelude.{ℕ, ◌+◌, ◌≤◌, ◌<◌, ◌≡◌, List, get_or}
use Rattle.std.proofs.Common.{arith}
use Rattle.std.proofs.Math.Decide.{dec_lt}
use Rattle.cells.specs.ForContracts.Passing.{AllSmaller, BehindSmaller}

module _ {nodes : List ℕ} {symbol : ℕ} where
  pub smaller_both : {from at end : ℕ} → AllSmaller nodes symbol from at → AllSmaller nodes symbol at end → AllSmaller nodes symbol from end
  smaller_both {at = at} p q = record { each = λ k h l. elim (dec_lt k at) [ yes x ↦ p.each k h x | no x ↦ q.each k (omega arith) l ] }

  pub smaller_none : {at : ℕ} → AllSmaller nodes symbol at at
  smaller_none = record { each = λ k h l. absurd (omega arith) }

  pub smaller_one : {at : ℕ} → get_or nodes at 0 < symbol → AllSmaller nodes symbol at (at + 1)
  smaller_one {at} s = record { each = λ k h l. let e : k ≡ at = omega arith in rw e s }

  module _ {from end : ℕ} where
    pub behind_none : from ≤ end → BehindSmaller nodes symbol from end from
    behind_none h = record { forward = omega arith; inside = h; smaller_symbols = smaller_none }

    pub behind_more : {at r : ℕ} → BehindSmaller nodes symbol from end at → at ≤ r → r ≤ end → AllSmaller nodes symbol at r → BehindSmaller nodes symbol from end r
    behind_more b h l s = record { forward = omega (arith, b.forward); inside = l; smaller_symbols = smaller_both b.smaller_symbols s }

    pub behind_both : {at r : ℕ} → BehindSmaller nodes symbol from end at → BehindSmaller nodes symbol at end r → BehindSmaller nodes symbol from end r
    behind_both b d = behind_more b d.forward d.inside d.smaller_symbols

    -- The first node's symbol is smaller too.
    pub behind_first_too : {r : ℕ} → from < end → get_or nodes from 0 < symbol → BehindSmaller nodes symbol (from + 1) end r → BehindSmaller nodes symbol from end r
    behind_first_too l s b = behind_both (behind_more (behind_none (omega arith)) (omega arith) (omega arith) (smaller_one s)) b
