-- `match_side` meets its contract. The loop's invariant: what is left of the match is the match of the side's terms behind those read with the subject's terms from `at` on.
use Prim.Native.Nat.{ℕ, ◌+◌}
use mathlib.Core.List.{List}
use Rattle.terms.specs.Term.{Term}
use Rattle.step_match.specs.ForContracts.Matching.{SidePart}
use Rattle.step_match.proofs.MatchProgress.{MatchProgress}
use Rattle.step_match.proofs.side.match_side.Given as goal

abbrev pub invariant-loop-byte : goal.invariant-loop-byte
invariant-loop-byte l = (arities : List ℕ) (s t : Term) → SidePart l.bytes l.fn.side l.nodes l.sizes l.node arities s t → MatchProgress l.bytes l.fn.side.end l.nodes l.sizes arities s t l.values (l.fn.side.from + l.byte-index) l.at
