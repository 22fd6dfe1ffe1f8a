-- The pieces, one after the other, are the listing.
use Rattle.std.specs.Prelude.{ℕ, suc, ◌<◌, ◌≡◌, refl, Bool, true, false, ◌&&◌, List, [], ◌∷◌, ◌++◌, length, take, leb}
use Rattle.std.proofs.Common.{sym, ap, ◌∙◌, arith, length-take-le}
use Rattle.std.proofs.lemmas.Bool.{lt-leb}
use Rattle.format.specs.Limits.{max_text}
use Rattle.format.specs.declared.refusal.Refusal.TheVariants.{TextLength as text_length}
use Rattle.sheet.specs.Text.{lines_of}
use Rattle.sheet.specs.Sheet.{Sheet}
use Rattle.sheet.specs.Frame.{start}
use Rattle.sheet.specs.Reading.{Reading, refused_at, read_lines, read}
use Rattle.listing.specs.Listing.{printed, frames, listing}
use Rattle.cursor.specs.declared.place.Place.{Place}
use Rattle.cursor.specs.declared.place.Place.TheVariants.{Start, End}
use Rattle.cursor.specs.ForContracts.Rest.{rest, Gives}

-- What calls give from a place to the end, one after the other, each by the contract of the function that gives a piece.
pub data Pieces (input : List ℕ) : Place → List (List ℕ) → Type 0 where
  none_left : Pieces input End []
  piece : {place next : Place} {out : List ℕ} {bytes : ℕ} {pieces : List (List ℕ)} → Gives input place out bytes next → Pieces input next pieces → Pieces input place (take bytes out ∷ pieces)

unfoldable pub joined : List (List ℕ) → List ℕ
joined [] = []
joined (p ∷ ps) = p ++ joined ps

pieces_are_rest : (input : List ℕ) {place : Place} {pieces : List (List ℕ)} → Pieces input place pieces → joined pieces ≡ rest input place
unfolding joined rest printed
pieces_are_rest input none_left = refl
pieces_are_rest input (piece {out = out} {bytes = bytes} g p) = ap (take bytes out ++◌) (pieces_are_rest input p) ∙ sym g.text

-- "It reads a sheet from standard input and prints frames": whatever the input is, the pieces that are given from the start to the end are its listing.
pub pieces_are_the_listing : (input : List ℕ) (pieces : List (List ℕ)) → Pieces input Start pieces → joined pieces ≡ listing input
unfolding rest
pieces_are_the_listing input pieces p = pieces_are_rest input p

-- "1, empty or too long": of a text that is too long nothing but its length counts, so that the program need not read more than one byte beyond the longest sheet.
too_long : (text : List ℕ) → max_text < length text → read text ≡ refused_at text_length 0
unfolding read
too_long text h = go (leb 1 (length text)) (leb (length text) max_text) (lt-leb (length text) max_text h)
  where
    go : (a b : Bool) → b ≡ false → ◌≡◌ {A = Reading Sheet} (elim (a && b) [ true ↦ read_lines start 0 (lines_of text) | false ↦ refused_at text_length 0 ]) (refused_at text_length 0)
    go false b e = refl
    go true true e = let z : ◌≡◌ {A = ℕ} 0 1 = cc in absurd (omega arith)
    go true false e = refl

pub long_input : (input : List ℕ) → max_text < length input → listing input ≡ listing (take (suc max_text) input)
unfolding listing
long_input input h =
    let n = length-take-le (suc max_text) input h in
    ap (λ r. printed (frames r)) (too_long input h ∙ sym (too_long (take (suc max_text) input) (omega arith)))
