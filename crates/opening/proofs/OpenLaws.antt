-- What stands behind the first piece.
use Prim.Native.Nat.{ℕ, ◌+◌, ◌≤◌, ◌<◌}
use mathlib.Core.Path.{◌≡◌, sym, subst}
use mathlib.Core.Bool.{Bool, true, false}
use mathlib.Core.Option.{none}
use mathlib.Core.List.{List, [], ◌∷◌, ◌++◌}
use native.Mathlib.Omega.{arith}
use lib.ListN.{length}
use Rattle.format.specs.Limits.{max_equations}
use Rattle.format.specs.declared.refusal.Refusal.{Refusal}
use Rattle.terms.specs.Equation.{Equation}
use Rattle.sheet.specs.Sheet.{Sheet}
use Rattle.sheet.specs.Reading.{accepted, read}
use Rattle.scanning.specs.declared.known.Known.{Known}
use Rattle.scanning.specs.ForContracts.Scan.{known_arities}
use Rattle.std.specs.Prelude.{Result, Ok, Err}
use Rattle.reading.specs.declared.read.RefusedAt.{RefusedAt}
use Rattle.reading.specs.ForContracts.Read.{SheetRead}
use Rattle.reading.specs.ForContracts.Seek.{Accepts}
use Rattle.rules.specs.declared.walks.RefusedWalk.{RefusedWalk}
use Rattle.rules.specs.ForContracts.Rows.{RowsAre, bound_count}
use Rattle.rules.specs.ForContracts.Walks.{WalksAs, LinesReady}
use Rattle.reducing.specs.Theory.Walks.{refusal_low}
use Rattle.reducing.specs.Test.{EverySolves}
use Rattle.reducing.specs.Walks.{equation_line, first_refusal}
use Rattle.listing.specs.Listing.{printed, two_bytes, refusal_frame}
use Rattle.listing.specs.ForContracts.Appended.{Appended}
use Rattle.listing.specs.Theory.Printed.{length_printed_one}
use Rattle.frames.specs.ForContracts.Room.{refusal_room}
use Rattle.cursor.specs.declared.place.Cursor.{Cursor}
use Rattle.cursor.specs.declared.place.Listed.{Listed}
use Rattle.cursor.specs.declared.place.Place.TheVariants.{Start, Table, End}
use Rattle.cursor.specs.ForContracts.Rest.{rest}
use Rattle.cursor.specs.ForContracts.Stands.{under_way, at_end, Progress}
use Rattle.cursor.specs.Theory.Rest.{start_refused, start_unsolved, start_left}
use Rattle.cursor.specs.Theory.Gives.{gives_text, gives_nothing}

-- The equations of an accepted sheet in their rows, and their walks.
abbrev RowsOf : (input : List ℕ) (known : Known) (equations lengths : List ℕ) → Type 0
RowsOf input known equations lengths = (s : Sheet) → read input ≡ accepted s → RowsAre equations lengths (known_arities known) s.equations

abbrev WalksOf : (known : Known) (equations lengths bounds table : List ℕ) → Result Bool RefusedWalk → Type 0
WalksOf known equations lengths bounds table walks = (arities : List ℕ) (es : List Equation) → RowsAre equations lengths arities es → known.equations ≡ length es → WalksAs es bounds table walks

module _ (input : List ℕ) (known : Known) (a : Accepts input known) (equations lengths : List ℕ) (rows : RowsOf input known equations lengths) where
  module _ (bounds table : List ℕ) (walks : Result Bool RefusedWalk) (w : WalksOf known equations lengths bounds table walks) where
    walked : WalksAs a.0.equations bounds table walks
    walked = let (s, r, k) = a in w (known_arities known) s.equations (rows s r) k.equations_are

    its_walks : {answer : Result Bool RefusedWalk} → walks ≡ answer → WalksAs a.0.equations bounds table answer
    its_walks e = subst (WalksAs a.0.equations bounds table) e walked

    pub equation_low : {stopped : RefusedWalk} → walks ≡ Err stopped → stopped.equation < max_equations
    unfolding equation_line
    equation_low {stopped} e = let (s, r, k) = a in let x = refusal_low 0 s.equations (record { refusal = stopped.why; line = stopped.equation + 2 }) (subst (WalksAs s.equations bounds table) e walked) in omega (arith, (rows s r).few)

-- The lines of all rules fit the table together and are kept, or they do not.
all_solve : (fits : Bool) (es : List Equation) (bounds table : List ℕ) → WalksAs es bounds table (Ok fits) → (first_refusal 0 es ≡ none) × EverySolves es × LinesReady fits bounds table es
all_solve true es bounds table y = y
all_solve false es bounds table y = (y.0, y.1, y.1)

abbrev refusal_piece : Known → ℕ → Listed Cursor
refusal_piece known bytes = record { next = record { place = End; opened = record { known = known; fits = false } }; bytes = bytes }

abbrev opening_piece : Known → Bool → Listed Cursor
opening_piece known fits = record { next = record { place = Table 0; opened = record { known = known; fits = fits } }; bytes = 0 }

module _ {input equations lengths bounds table scratch out : List ℕ} where
  -- A refusal is printed, and nothing is left.
  refused_opens : {r : Listed Cursor} (why : Refusal) (line : ℕ) {before : List ℕ} {bytes : ℕ} (known : Known) → r ≡ refusal_piece known bytes → refusal_room ≤ length before
      → rest input Start ≡ printed (refusal_frame why line ∷ []) ++ rest input End → Appended before 0 (printed (refusal_frame why line ∷ [])) out bytes → Progress input Start equations lengths bounds table scratch out r
  unfolding refusal_frame two_bytes
  refused_opens why line known e h x a =
      subst (Progress input Start equations lengths bounds table scratch out) (sym e) (record { gives = gives_text x a (omega (arith, a.ends, a.same_length, length_printed_one (refusal_frame why line))) (omega arith); stands = at_end })

  pub sheet_refused : {l : Listed Cursor} {known : Known} {read : Result Known RefusedAt} (r : RefusedAt) {before : List ℕ} {bytes : ℕ} → l ≡ refusal_piece known bytes → SheetRead input read → read ≡ Err r
      → refusal_room ≤ length before → Appended before 0 (printed (refusal_frame r.why r.line ∷ [])) out bytes → Progress input Start equations lengths bounds table scratch out l
  sheet_refused {known = known} r x h e k a = refused_opens r.why r.line known x k (start_refused input r.why r.line (subst (SheetRead input) e h).0) a

  module _ {known : Known} (a : Accepts input known) (rows : RowsOf input known equations lengths) (walks : Result Bool RefusedWalk) (w : WalksOf known equations lengths bounds table walks) where
    pub walk_refused : {l : Listed Cursor} {stopped : RefusedWalk} {before : List ℕ} {bytes : ℕ} → l ≡ refusal_piece known bytes → walks ≡ Err stopped → refusal_room ≤ length before
        → Appended before 0 (printed (refusal_frame stopped.why (stopped.equation + 2) ∷ [])) out bytes → Progress input Start equations lengths bounds table scratch out l
    unfolding equation_line
    walk_refused {stopped = stopped} x e h y =
        let (s, r, k) = a in
        refused_opens stopped.why (stopped.equation + 2) known x h (start_unsolved input s r (record { refusal = stopped.why; line = stopped.equation + 2 }) (its_walks input known a equations lengths rows bounds table walks w e)) y

    pub all_opened : {l : Listed Cursor} (fits : Bool) → l ≡ opening_piece known fits → length bounds ≡ bound_count → walks ≡ Ok fits → Progress input Start equations lengths bounds table scratch out l
    all_opened fits x b e =
        let (s, r, k) = a in
        let (n, every, ready) = all_solve fits s.equations bounds table (its_walks input known a equations lengths rows bounds table walks w e) in
        subst (Progress input Start equations lengths bounds table scratch out) (sym x) (record {
          gives = gives_nothing out (start_left input s r n) (omega arith);
          stands = under_way s (record { reads = r; knows = k; every = every; rows = rows s r; bounds_length = b; lines = ready }) (omega arith);
        })
