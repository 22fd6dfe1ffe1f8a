-- The laws of a finished line's record: the first bytes of the line.
use Rattle.std.specs.Prelude.{ℕ, suc, ◌≤◌, ◌<◌, ◌≡◌, refl, List, [], ◌∷◌, ◌++◌, map, length, get_or, take}
use Rattle.std.proofs.Common.{sym, ap, ap₂, ◌∙◌, append_assoc, arith}
use Rattle.std.proofs.Math.ListN.{get_or-append}
use Rattle.std.proofs.Math.Decide.{dec_lt}
use Rattle.format.specs.Limits.{variable_count, max_elements, no_position, record_bytes}
use Rattle.solving.specs.Line.{Element, equal, greater, binding_byte, element_bytes, record_of}
use Rattle.solving.specs.ForContracts.Written.{Inequalities}
use Rattle.bindings.specs.ForContracts.Bindings.{binding_of, bindings_of}
use Rattle.bindings.specs.Theory.Bindings.{bound_byte, free_byte}
use Rattle.line_bytes.specs.ForContracts.Resting.{marks, padding, RestingLine, line_of, resting_bytes}
use Rattle.line_bytes.specs.Theory.Resting.{record_there}

-- A binding's byte, read and written again.
pub binding_back : (b : ℕ) → b ≤ no_position → binding_byte (binding_of b) ≡ b
unfolding binding_byte
binding_back b h = go (dec_lt b no_position)
  where
    go : Dec (b < no_position) → binding_byte (binding_of b) ≡ b
    go (yes l) = ap binding_byte (bound_byte b l)
    go (no l) = let e : no_position ≡ b = omega arith in ap binding_byte (free_byte b (omega arith)) ∙ e

pub bindings_back : (bs : List ℕ) → ((i : ℕ) → i < length bs → get_or bs i 0 ≤ no_position) → map binding_byte (bindings_of bs) ≡ bs
unfolding bindings_of
bindings_back [] h = refl
bindings_back (b ∷ bs) h = ap₂ ◌∷◌ (binding_back b (h 0 (omega arith))) (bindings_back bs (λ i k. h (suc i) (omega arith)))

-- An inequality has no mark.
pub marks_bytes : (es : List Element) → Inequalities es → marks es ≡ element_bytes es
unfolding marks element_bytes
marks_bytes [] h = refl
marks_bytes (equal p q ∷ es) h = absurd h.0
marks_bytes (greater p q ∷ es) h = ap (λ l. p ∷ q ∷ l) (marks_bytes es h.1)

-- The record of a finished line.
pub record_written : (l : RestingLine) → length l.bindings ≡ variable_count → length l.elements ≤ max_elements → ((i : ℕ) → get_or (resting_bytes l) i 0 ≤ no_position) → Inequalities l.elements
    → take record_bytes (resting_bytes l) ≡ record_of (line_of l)
unfolding record_of line_of padding resting_bytes
record_written l slots few h e =
    let bs = l.bindings in
    let n = length l.elements in
    let rest = n ∷ (marks l.elements ++ (padding n ++ (l.reduced ∷ []))) in
    let low : (i : ℕ) → i < length bs → get_or bs i 0 ≤ no_position = λ i k. rw (sym (get_or-append bs rest 0 i k)) (h i) in
    record_there l slots few
    ∙ (ap (λ m. bs ++ (n ∷ (m ++ padding n))) (marks_bytes l.elements e)
    ∙ (ap (◌++ (n ∷ (element_bytes l.elements ++ padding n))) (sym (bindings_back bs low))
    ∙ sym (append_assoc (map binding_byte (bindings_of bs)) (n ∷ element_bytes l.elements) (padding n))))
