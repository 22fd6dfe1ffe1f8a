-- The lemma that checks P1 to P12 against the definitions, by computation.
use Rattle.std.specs.Prelude.{ℕ, ◌≡◌, refl, List, [], ◌∷◌, ◌++◌, map}
use Prim.Native.Char.{code}
use Prim.Native.String.{String, [] as empty, ◌∷◌ as ◌then◌}
use Rattle.std.proofs.Math.Option.{none, some}
use Rattle.terms.specs.Term.{Term}
use Rattle.terms.specs.Equation.{Equation}
use Rattle.terms.specs.declared.direction.Direction.TheVariants.{LeftRight as left_right}
use Rattle.terms.specs.Prefix.{terms_of}
use Rattle.ordering.specs.Decision.{decision}
use Rattle.solving.specs.Walk.{solve}
use Rattle.sheet.specs.Text.{LF, bytes_of}
use Rattle.sheet.specs.Frame.{first_term}
use Rattle.listing.specs.Listing.{printed, table_frames, comparison_frame, listing}
use Rattle.cases.specs.Cases.{Case, lists, compares, solves, cases}

-- The bytes of a text, and of lines of it.
unfoldable pub ascii : String → List ℕ
ascii empty = []
ascii (c then s) = code c ∷ ascii s

unfoldable pub lines : List String → List ℕ
unfolding ascii
lines [] = []
lines (s ∷ ss) = ascii s ++ LF ∷ lines ss

-- The bytes that two digits each write.
unfoldable pub hex : String → List ℕ
unfolding ascii bytes_of
hex s = elim (bytes_of (ascii s)) [ none ↦ [] | some bs ↦ bs ]

unfoldable pub term : (arities s : String) → Term
unfolding hex first_term terms_of
term arities s = first_term (terms_of (hex arities) (hex s))

-- What the definitions print for a case, and what is stated.
unfoldable pub computed : Case → List ℕ
unfolding lines listing printed comparison_frame term decision table_frames solve
computed (lists sheet out) = listing (lines sheet)
computed (compares arities s t v) = printed (comparison_frame (decision (term arities s) (term arities t)) ∷ [])
computed (solves arities l r table) = let e : Equation = record { left = term arities l; right = term arities r } in printed (table_frames 0 e left_right (solve e left_right))

unfoldable pub stated : Case → List ℕ
unfolding lines
stated (lists sheet out) = lines out
stated (compares arities s t v) = lines (v ∷ [])
stated (solves arities l r table) = lines table

pub cases_hold : map computed cases ≡ map stated cases
unfolding computed stated cases
cases_hold = refl
